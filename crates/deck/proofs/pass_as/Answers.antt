use native.Mathlib.Omega.{arith}
use Rattle.deck.specs.Laws.Deck.{scan_long, scan_version, scan_count, rules_ready, turn_none, turn_start, turn_base, scan_rules, scan_over, scan_is}
use Rattle.format.specs.Laws.Format.{bytes_all}
use borrow.Author.Rules.{rules}
use Rattle.deck.proofs.pass_as.Goals as goal

pub returns-then-s-gt60000 : goal.returns-then-s-gt60000
returns-then-s-gt60000 c = search (rules, scan_long)

pub returns-in_err-p : goal.returns-in_err-p
returns-in_err-p c = search (rules, scan_version c.args.product c.args.s.now (omega (arith, c.if-s-gt60000.false)) c.version_at.ensures c.in_err-p.was)

pub returns-in_err-n : goal.returns-in_err-n
returns-in_err-n c = search (rules, scan_count c.args.product c.args.s.now (omega (arith, c.if-s-gt60000.false)) c.version_at.ensures c.in_ok-p.was c.count16_at.ensures c.in_err-n.was)

pub index_at-requires : goal.index_at-requires
index_at-requires c = (rules_ready c.args.product _ (bytes_all c.args.s.now c.shared_slice_known-1.given) c.version_at.ensures c.in_ok-p.was c.count16_at.ensures c.in_ok-n.was).0

pub returns-in_err-base : goal.returns-in_err-base
returns-in_err-base c =
    search (rules, scan_rules c.args.product c.args.s.now (bytes_all c.args.s.now c.shared_slice_known-1.given) (omega (arith, c.if-s-gt60000.false)) c.version_at.ensures c.in_ok-p.was c.count16_at.ensures c.in_ok-n.was (turn_none _ _ _ _ c.index_at.ensures c.in_err-base.was) c.in_err-base.was)

pub rules_at-requires : goal.rules_at-requires
rules_at-requires c =
    let w = rules_ready c.args.product _ (bytes_all c.args.s.now c.shared_slice_known-1.given) c.version_at.ensures c.in_ok-p.was c.count16_at.ensures c.in_ok-n.was in
    (turn_start _ _ _ _ c.index_at.ensures w.1 c.in_ok-base.was, w.0, omega (arith, c.if-s-gt60000.false))

pub returns-in_err-q : goal.returns-in_err-q
returns-in_err-q c = search (rules, scan_rules c.args.product c.args.s.now (bytes_all c.args.s.now c.shared_slice_known-1.given) (omega (arith, c.if-s-gt60000.false)) c.version_at.ensures c.in_ok-p.was c.count16_at.ensures c.in_ok-n.was c.rules_at.ensures c.in_err-q.was)

pub returns-then-q-s : goal.returns-then-q-s
returns-then-q-s c = scan_over _ _ (bytes_all c.args.s.now c.shared_slice_known-1.given) (omega (arith, c.if-s-gt60000.false)) c.version_at.ensures c.in_ok-p.was c.count16_at.ensures c.in_ok-n.was c.rules_at.ensures c.in_ok-q.was c.if-q-s.true

pub returns : goal.returns
returns c = scan_is _ _ (bytes_all c.args.s.now c.shared_slice_known-1.given) (omega (arith, c.if-s-gt60000.false)) c.version_at.ensures c.in_ok-p.was c.count16_at.ensures c.in_ok-n.was c.rules_at.ensures c.in_ok-q.was (omega (arith, c.if-q-s.false)) (turn_base c.args.product _ _ _ c.index_at.ensures c.in_ok-base.was)

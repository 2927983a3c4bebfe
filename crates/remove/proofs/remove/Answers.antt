use borrow.Author.Rules.{rules}
use native.Mathlib.Omega.{arith}
use Rattle.format.specs.Laws.Format.{bytes_all}
use Rattle.plan.specs.Laws.Found.{edit_no, edit_done, found_within}
use Rattle.remove.specs.Laws.Remove.{remove_absent, remove_unnamed, found_next}
use Rattle.steps.specs.Laws.Steps.{name_got}
use Rattle.remove.proofs.remove.Goals as goal

pub returns-in_err-site : goal.returns-in_err-site
returns-in_err-site c = edit_no _ _ _ _ _ c.find.ensures c.in_err-site.was (search rules)

pub returns-then-site-k : goal.returns-then-site-k
returns-then-site-k c = edit_done _ _ _ _ _ (bytes_all c.args.buf.now c.slice_known-1.given) c.find.ensures c.in_ok-site.was (remove_absent _ _ _ _ c.if-site-k.true)

pub remove_other-requires : goal.remove_other-requires
remove_other-requires c = (found_within _ _ _ _ (bytes_all c.args.buf.now c.slice_known-1.given) c.find.ensures c.in_ok-site.was, omega (arith, c.if-site-k.false))

pub returns-then-keeps_first : goal.returns-then-keeps_first
returns-then-keeps_first c = edit_done _ _ _ _ _ (bytes_all c.args.buf.now c.slice_known-1.given) c.find.ensures c.in_ok-site.was (c.remove_other.ensures _ _ (omega (arith, c.if-site-k.false)) (c.keeps_first.ensures.0 c.if-keeps_first.true))

pub returns-in_err-e : goal.returns-in_err-e
returns-in_err-e c = edit_done _ _ _ _ _ (bytes_all c.args.buf.now c.slice_known-1.given) c.find.ensures c.in_ok-site.was (remove_unnamed _ _ _ 0 _ _ _ (c.keeps_first.ensures.1 c.if-keeps_first.false).0 (omega (arith, (c.keeps_first.ensures.1 c.if-keeps_first.false).1, c.if-site-k.false)) c.name_end.ensures c.in_err-e.was)

pub remove_first-requires : goal.remove_first-requires
remove_first-requires c = found_next _ _ _ _ _ _ (bytes_all c.args.buf.now c.slice_known-1.given) c.find.ensures c.in_ok-site.was (c.keeps_first.ensures.1 c.if-keeps_first.false).0 (omega (arith, (c.keeps_first.ensures.1 c.if-keeps_first.false).1, c.if-site-k.false)) (name_got _ _ c.name_end.ensures c.in_ok-e.was)

pub returns : goal.returns
returns c = edit_done _ _ _ _ _ (bytes_all c.args.buf.now c.slice_known-1.given) c.find.ensures c.in_ok-site.was (c.remove_first.ensures _ _ (c.keeps_first.ensures.1 c.if-keeps_first.false).0 (name_got _ _ c.name_end.ensures c.in_ok-e.was))

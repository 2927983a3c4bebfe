use native.Mathlib.Omega.{arith}
use mathlib.Core.Path.{sym, ◌∙◌}
use borrow.Author.Rules.{rules}
use Rattle.format.specs.Laws.Format.{bytes_all}
use Rattle.rule.specs.Laws.Rule.{rule_small}
use Rattle.deck.specs.Laws.Deck.{turn_done, turn_offset, turn_off, turn_stop, turn_go}
use Rattle.deck.proofs.rules_at.Goals as goal

pub loop-i-init : goal.loop-i-init
loop-i-init c = (c.requires.0, (search rules, search rules))

pub starts_at-requires : goal.starts_at-requires
starts_at-requires c = turn_offset _ _ _ _ c.loop-i.invariant.0 c.loop-i-test.true c.requires.1 c.requires.2

pub overflow_mul-result : goal.overflow_mul-result
overflow_mul-result c = omega (arith, c.loop-i-test.true, c.requires.1)

pub overflow_add-result : goal.overflow_add-result
overflow_add-result c = omega (arith, c.loop-i-test.true, c.requires.1)

pub returns-then-not-starts_at : goal.returns-then-not-starts_at
returns-then-not-starts_at c = turn_off _ _ _ _ c.loop-i.invariant.0 c.loop-i-test.true (sym c.starts_at.ensures ∙ c.if-not-starts_at.true)

pub returns-in_default : goal.returns-in_default
returns-in_default c = turn_stop _ _ _ _ c.loop-i.invariant.0 c.loop-i-test.true (sym c.starts_at.ensures ∙ c.if-not-starts_at.false) c.rule_at-r.ensures c.in_default.is

pub overflow_add-t : goal.overflow_add-t
overflow_add-t c = omega (arith, c.loop-i-test.true, c.loop-i.invariant.1.0, c.requires.1, rule_small _ _ c.args.s.now _ (bytes_all c.args.s.now c.shared_slice_known-1.given) c.rule_at-r.ensures c.in-Ok.is)

pub loop-i-preserved : goal.loop-i-preserved
loop-i-preserved c = (turn_go _ _ _ _ c.loop-i.invariant.0 c.loop-i-test.true (sym c.starts_at.ensures ∙ c.if-not-starts_at.false) c.rule_at-r.ensures c.in-Ok.is, (omega (arith, c.loop-i-test.true, c.loop-i.invariant.1.0, rule_small _ _ c.args.s.now _ (bytes_all c.args.s.now c.shared_slice_known-1.given) c.rule_at-r.ensures c.in-Ok.is), omega (arith, c.loop-i-test.true)))

pub returns : goal.returns
returns c = turn_done _ _ _ _ c.loop-i.invariant.0 (omega (arith, c.loop-i-test.false))

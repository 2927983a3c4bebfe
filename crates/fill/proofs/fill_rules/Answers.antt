use native.Mathlib.Omega.{arith}
use mathlib.Core.Path.{◌∙◌}
use Rattle.fill.specs.Laws.Fill.{under_got, under_own}
use Rattle.fill.specs.Laws.Parts.{rules_done, rules_stop, rules_go}
use Rattle.fill.proofs.fill_rules.Goals as goal

pub returns-in_default : goal.returns-in_default
returns-in_default c = (rules_stop _ _ _ _ _ _ _ _ _ _ _ c.loop-i.invariant.0 c.loop-i-test.true c.fill_rule-r.ensures.0 c.in_default.is, under_own _ _ c.fill_rule-r.ensures.1)

pub loop-i-preserved : goal.loop-i-preserved
loop-i-preserved c = (rules_go _ _ _ _ _ _ _ _ _ _ _ c.loop-i.invariant.0 c.loop-i-test.true c.fill_rule-r.ensures.0 c.in-Ok.is, ((c.fill_rule-r.auto.rules ∙ c.loop-i.invariant.1.0.0, c.fill_rule-r.auto.elements ∙ c.loop-i.invariant.1.0.1), (omega (arith, (under_got c.fill_rule-r.ensures.1 c.in-Ok.is).1), omega (arith, (under_got c.fill_rule-r.ensures.1 c.in-Ok.is).0))))

pub returns : goal.returns
returns c = (rules_done _ _ _ _ _ _ _ _ _ _ _ c.loop-i.invariant.0 c.loop-i-test.false, tt)

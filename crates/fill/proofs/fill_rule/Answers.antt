use native.Mathlib.Omega.{arith}
use mathlib.Core.Path.{refl}
use Rattle.fill.specs.Laws.Fill.{under_further, under_got}
use Rattle.fill.specs.Laws.Parts.{rule_past, rule_off, rule_in}
use Rattle.fill.proofs.fill_rule.Goals as goal

pub returns-then-s-at : goal.returns-then-s-at
returns-then-s-at c = (rule_past _ _ _ _ _ _ _ _ _ _ c.if-s-at.true, omega arith)

pub returns-in-Ok : goal.returns-in-Ok
returns-in-Ok c = (rule_in _ _ _ _ _ _ _ _ _ _ c.fill_part-r.ensures.0 c.in-Ok.is refl, ((under_got c.fill_part-r.ensures.1 c.in-Ok.is).0, omega (arith, (under_got c.fill_part-r.ensures.1 c.in-Ok.is).1)))

pub returns-in-Err : goal.returns-in-Err
returns-in-Err c = (rule_off _ _ _ _ _ _ _ _ _ _ c.fill_part-r.ensures.0 c.in-Err.is, under_further _ _ c.fill_part-r.ensures.1 c.in-Err.is c.further.ensures (omega arith))

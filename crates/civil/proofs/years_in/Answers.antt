use native.Mathlib.Omega.{arith}
use Rattle.civil.specs.Laws.Steps.{years, turn, years_least}
use Rattle.civil.proofs.years_in.Goals as goal

pub loop-left-init : goal.loop-left-init
loop-left-init c = omega (arith, years.none)

pub overflow_add-whole : goal.overflow_add-whole
overflow_add-whole c = omega (arith, years_least c.loop-left.whole)

pub returns-then-left-d : goal.returns-then-left-d
returns-then-left-d c = record { sum = c.loop-left.invariant; inside = omega arith }

pub overflow_add-whole-in-loop-left : goal.overflow_add-whole-in-loop-left
overflow_add-whole-in-loop-left c = omega (arith, years_least c.loop-left.whole)

pub loop-left-preserved : goal.loop-left-preserved
loop-left-preserved c = turn years _ _ _ _ c.loop-left.invariant c.year_days-d.ensures.0 c.if-left-d.false

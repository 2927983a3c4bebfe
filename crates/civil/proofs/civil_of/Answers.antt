use Prim.Native.Nat.{◌+◌}
use Rattle.civil.specs.Laws.Steps.{year_most, years_least}
use native.Mathlib.Omega.{arith}
use Rattle.civil.specs.Laws.Unique.{made}
use Rattle.civil.proofs.civil_of.Goals as goal

pub overflow_add-year : goal.overflow_add-year
overflow_add-year c = omega (arith, c.years_in-a.ensures.sum, years_least c.years_in-a.result.whole)

pub overflow_add-result-2 : goal.overflow_add-result-2
overflow_add-result-2 c = let a = c.years_in-a in omega (arith, a.ensures.inside, year_most (100 + a.result.whole), c.months_in-b.ensures.0.sum)

pub returns : goal.returns
returns c = made c.years_in-a.ensures c.months_in-b.ensures.0 c.months_in-b.ensures.1

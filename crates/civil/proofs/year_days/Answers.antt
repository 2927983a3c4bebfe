use native.Mathlib.Omega.{arith}
use Rattle.civil.specs.Laws.Steps.{year_is}
use borrow.Author.Rules.{rules}
use Rattle.civil.proofs.year_days.Goals as goal

pub returns : goal.returns
returns c = (omega (arith, year_is c.args.y), search rules)

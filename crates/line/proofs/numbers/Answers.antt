use native.Mathlib.Omega.{arith}
use Rattle.line.specs.Laws.Line.{numbers_is}
use Rattle.line.specs.Laws.Adds.{and, adds_as, adds_line}
use Rattle.line.proofs.numbers.Goals as goal

pub returns : goal.returns
returns c = adds_line (adds_as (and (and (and c.add-a.ensures c.add_number-b.ensures.0) c.add_number-c.ensures.0) c.add.ensures) (numbers_is _ _ _)) (omega arith) (omega arith)

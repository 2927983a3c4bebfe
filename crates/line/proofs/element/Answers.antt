use native.Mathlib.Omega.{arith}
use Rattle.line.specs.Laws.Line.{element_is}
use Rattle.line.specs.Laws.Adds.{and, adds_as, adds_line}
use Rattle.line.proofs.element.Goals as goal

pub returns : goal.returns
returns c = adds_line (adds_as (and (and (and (and c.add-a.ensures c.add_number-b.ensures.0) c.add_identifier-c.ensures.0) c.add_number-d.ensures.0) c.add.ensures) (element_is _ _ _)) (omega arith) (omega arith)

use native.Mathlib.Omega.{arith}
use Rattle.line.specs.Laws.Adds.{adds_identifier}
use Rattle.line.proofs.add_identifier.Goals as goal

pub returns : goal.returns
returns c = adds_identifier _ c.hex_digits-s.ensures c.add-b.ensures c.add.ensures (omega arith)

use native.Mathlib.Omega.{arith}
use Rattle.line.specs.Laws.Adds.{adds_number}
use Rattle.line.proofs.add_number.Goals as goal

pub returns : goal.returns
returns c =
    let t = c.spell-i in
    adds_number _ t.result _ t.ensures.0 t.ensures.1 c.add-b.ensures c.add.ensures (omega arith) (omega arith)

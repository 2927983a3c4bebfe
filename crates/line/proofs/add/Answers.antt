use native.Mathlib.Omega.{arith}
use mathlib.Core.Path.{refl}
use Rattle.buffer.proofs.Parts.{put_part}
use Rattle.line.specs.Laws.Adds.{adds_put}
use Rattle.line.proofs.add.Goals as goal

pub returns : goal.returns
returns c = adds_put (put_part _ _ _ _ _ c.copy_from_slice.ensures.after refl (omega arith)) (omega arith) refl

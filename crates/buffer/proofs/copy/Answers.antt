use native.Mathlib.Omega.{arith}
use mathlib.Core.Path.{refl}
use lib.ListN.{length-set}
use Rattle.buffer.proofs.Loops.{copy_next, copy_last}
use Rattle.buffer.proofs.copy.Goals as goal

pub loop-i-init : goal.loop-i-init
loop-i-init c = (refl, refl)

pub loop-i-preserved : goal.loop-i-preserved
loop-i-preserved c = (copy_next _ _ _ c.loop-i.invariant.0 (omega arith) (omega arith), simp length-set c.loop-i.invariant.1)

pub returns : goal.returns
returns c = copy_last _ _ _ c.loop-i.invariant.0 (omega arith)

use native.Mathlib.Omega.{arith}
use mathlib.Core.Path.{refl}
use lib.ListN.{length-set}
use Rattle.shift.proofs.Loops.{lowered_first, lowered_next, lowered_last}
use Rattle.shift.proofs.shift_down.Goals as goal

pub loop-from-init : goal.loop-from-init
loop-from-init c = (lowered_first _ _, (refl, (omega arith, omega arith)))

pub loop-from-preserved : goal.loop-from-preserved
loop-from-preserved c = (lowered_next _ _ _ _ c.loop-from.invariant.0 (omega arith) (omega arith), (simp length-set c.loop-from.invariant.1.0, (omega arith, omega arith)))

pub returns : goal.returns
returns c = lowered_last _ _ _ _ c.loop-from.invariant.0 (omega arith)

use native.Mathlib.Omega.{arith}
use mathlib.Core.Path.{refl}
use lib.ListN.{length-set}
use Rattle.shift.proofs.Loops.{lifted_first, lifted_next, lifted_last}
use Rattle.shift.proofs.shift_up.Goals as goal

pub loop-to-init : goal.loop-to-init
loop-to-init c = (lifted_first _ _, (refl, (omega arith, omega arith)))

pub loop-to-preserved : goal.loop-to-preserved
loop-to-preserved c = (lifted_next _ _ _ _ _ c.loop-to.invariant.0 (omega arith) (omega arith) (omega arith), (simp length-set c.loop-to.invariant.1.0, (omega arith, omega arith)))

pub returns : goal.returns
returns c = lifted_last _ _ _ _ c.loop-to.invariant.0 (omega arith) (omega arith) (omega arith)

use native.Mathlib.Omega.{arith}
use Rattle.digits.specs.Laws.Digits.{spelling_first, spelling_next, spelling_left, spelling_last}
use Rattle.digits.proofs.spell.Goals as goal

pub loop-rest-init : goal.loop-rest-init
loop-rest-init c = spelling_first c.args.s.now c.args.n (omega arith) (omega arith)

pub overflow_sub-i : goal.overflow_sub-i
overflow_sub-i c = spelling_left _ _ c.loop-rest.invariant (omega arith)

pub loop-rest-preserved : goal.loop-rest-preserved
loop-rest-preserved c = spelling_next _ _ c.loop-rest.invariant (omega arith)

pub returns : goal.returns
returns c = spelling_last c.args.s.now _ c.loop-rest.invariant (omega arith)

use native.Mathlib.Omega.{arith}
use mathlib.Core.Path.{refl, ◌∙◌}
use borrow.Author.Rules.{rules}
use Rattle.offsets.specs.Laws.Offsets.{puts_start, puts_go, puts_never, puts_done, offsets_many}
use Rattle.offsets.proofs.put_offsets.Goals as goal

pub returns-then-rules-gt256 : goal.returns-then-rules-gt256
returns-then-rules-gt256 c = offsets_many _ _ c.if-rules-gt256.true

pub overflow_mul-p : goal.overflow_mul-p
overflow_mul-p c = omega (arith, c.if-rules-gt256.false)

pub overflow_add-p : goal.overflow_add-p
overflow_add-p c = omega (arith, c.if-rules-gt256.false)

pub loop-i-init : goal.loop-i-init
loop-i-init c = (puts_start _ _, refl)

pub overflow_mul-i : goal.overflow_mul-i
overflow_mul-i c = omega (arith, c.if-rules-gt256.false, c.loop-i-test.true)

pub overflow_add-i : goal.overflow_add-i
overflow_add-i c = omega (arith, c.if-rules-gt256.false, c.loop-i-test.true)

pub returns-in_default : goal.returns-in_default
returns-in_default c = puts_never _ _ _ _ _ _ _ c.loop-i-test.true c.loop-i.invariant.0 c.put_number.ensures c.end_of-r.ensures.0 c.in_default.is

pub loop-i-preserved : goal.loop-i-preserved
loop-i-preserved c = (puts_go _ _ _ _ _ _ c.loop-i-test.true c.loop-i.invariant.0 c.put_number.ensures c.end_of-r.ensures.0 c.in-Ok.is, c.put_number.auto.buf ∙ c.loop-i.invariant.1)

pub returns : goal.returns
returns c = puts_done _ _ _ _ _ (omega (arith, c.loop-i-test.false)) (omega arith) c.loop-i.invariant.0

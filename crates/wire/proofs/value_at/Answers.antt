use Prim.Native.Nat.{◌+◌, ◌-◌}
use native.Mathlib.Omega.{arith}
use mathlib.Core.Path.{◌∙◌}
use Rattle.wire.proofs.value_at.Goals as goal
use Rattle.wire.proofs.Values.{value_end, value_start, value_room, value_next}

pub loop-i-init : goal.loop-i-init
loop-i-init g c = value_end g.row.K c.args.at c.args.s.now

pub overflow_mul-n : goal.overflow_mul-n
overflow_mul-n g c = omega (arith, value_room _ _ _ c.loop-i-test.true c.loop-i.auto.i c.requires.1 c.loop-i.invariant c.requires.0 c.type_inv.s)

pub overflow_add-n-in-loop-i : goal.overflow_add-n-in-loop-i
overflow_add-n-in-loop-i g c = omega (arith, value_room _ _ _ c.loop-i-test.true c.loop-i.auto.i c.requires.1 c.loop-i.invariant c.requires.0 c.type_inv.s, c.type_inv.s (c.args.at + (c.loop-i.i - 1)))

pub loop-i-preserved : goal.loop-i-preserved
loop-i-preserved g c = value_next g.row.K c.args.at c.args.s.now c.loop-i-test.true c.loop-i.auto.i c.requires.1 c.loop-i.invariant

pub returns : goal.returns
returns g c = c.loop-i.invariant ∙ value_start g.row.K c.args.at c.args.s.now c.loop-i-test.false

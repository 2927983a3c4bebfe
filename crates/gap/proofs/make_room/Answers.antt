use native.Mathlib.Omega.{arith}
use Rattle.buffer.proofs.Parts.{room_pulled, room_lifted}
use Rattle.gap.proofs.make_room.Goals as goal

pub returns-then-len-old : goal.returns-then-len-old
returns-then-len-old c = room_pulled _ _ _ _ _ _ c.pull.ensures (omega arith) (omega arith) (omega arith) (omega arith)

pub returns-else-len-old : goal.returns-else-len-old
returns-else-len-old c = room_lifted _ _ _ _ _ _ c.shift_up.ensures (omega arith) (omega arith) (omega arith) (omega arith)

use native.Mathlib.Omega.{arith}
use Rattle.buffer.specs.Laws.Laid.{moved_out}
use Rattle.buffer.proofs.Parts.{part_moved}
use Rattle.gap.proofs.move_down.Goals as goal

pub returns-then-e-a : goal.returns-then-e-a
returns-then-e-a c = moved_out _ _ _ _ (λ h k. omega arith)

pub returns-then-buf-e : goal.returns-then-buf-e
returns-then-buf-e c = moved_out _ _ _ _ (λ h k. omega arith)

pub returns : goal.returns
returns c = part_moved _ _ _ _ _ c.shift_down.ensures (omega arith) (omega arith)

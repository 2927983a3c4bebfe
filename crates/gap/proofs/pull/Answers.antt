use native.Mathlib.Omega.{arith}
use Rattle.buffer.proofs.Parts.{all_pulled, end_pulled}
use Rattle.gap.proofs.pull.Goals as goal

pub returns-then-p-by : goal.returns-then-p-by
returns-then-p-by c = all_pulled _ _ _ c.zero.ensures (omega arith)

pub returns : goal.returns
returns c = end_pulled _ _ _ _ c.shift_down.ensures c.zero-2.ensures (omega arith)

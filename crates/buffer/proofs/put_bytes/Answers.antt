use native.Mathlib.Omega.{arith}
use Rattle.buffer.specs.Laws.Laid.{put_out}
use Rattle.buffer.proofs.Parts.{put_tail}
use Rattle.buffer.proofs.put_bytes.Goals as goal

pub returns-then-buf-at : goal.returns-then-buf-at
returns-then-buf-at c = put_out _ _ _ (λ h. omega arith)

pub returns-then-buf-at-2 : goal.returns-then-buf-at-2
returns-then-buf-at-2 c = put_out _ _ _ (λ h. omega arith)

pub returns : goal.returns
returns c = put_tail _ _ _ _ c.copy.ensures (omega arith)

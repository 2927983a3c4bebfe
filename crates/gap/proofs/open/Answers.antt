use native.Mathlib.Omega.{arith}
use Rattle.buffer.specs.Laws.Laid.{opened_out}
use Rattle.gap.proofs.open.Goals as goal

pub returns-then-b-a : goal.returns-then-b-a
returns-then-b-a c = opened_out _ _ _ _ _ (λ h k l m. omega arith)

pub returns-then-n-b : goal.returns-then-n-b
returns-then-n-b c = opened_out _ _ _ _ _ (λ h k l m. omega arith)

pub returns-then-buf-n : goal.returns-then-buf-n
returns-then-buf-n c = opened_out _ _ _ _ _ (λ h k l m. omega arith)

pub returns-then-buf-n-2 : goal.returns-then-buf-n-2
returns-then-buf-n-2 c = opened_out _ _ _ _ _ (λ h k l m. omega arith)

use native.Mathlib.Omega.{arith}
use Rattle.parts.specs.Laws.Text.{behind_out, behind_is}
use Rattle.parts.proofs.put_behind.Goals as goal

pub returns-then-buf-at : goal.returns-then-buf-at
returns-then-buf-at c = behind_out _ _ _ _ _ (omega arith)

pub returns-then-buf-at-2 : goal.returns-then-buf-at-2
returns-then-buf-at-2 c = behind_out _ _ _ _ _ (omega arith)

pub returns-then-buf-at-3 : goal.returns-then-buf-at-3
returns-then-buf-at-3 c = behind_out _ _ _ _ _ (omega arith)

pub returns : goal.returns
returns c = behind_is _ _ _ _ _ c.put_number.ensures c.put_bytes.ensures (omega arith)

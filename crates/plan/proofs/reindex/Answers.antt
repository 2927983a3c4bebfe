use native.Mathlib.Omega.{arith}
use Rattle.plan.specs.Laws.Finish.{reindex_never, reindex_is}
use Rattle.plan.proofs.reindex.Goals as goal

pub returns-then-number-gt256 : goal.returns-then-number-gt256
returns-then-number-gt256 c = reindex_never _ _ _ _ _ _ (λ a b e g h. omega arith)

pub returns-then-base-lt7 : goal.returns-then-base-lt7
returns-then-base-lt7 c = reindex_never _ _ _ _ _ _ (λ a b e g h. omega arith)

pub returns-then-n-base : goal.returns-then-n-base
returns-then-n-base c = reindex_never _ _ _ _ _ _ (λ a b e g h. omega arith)

pub returns-then-buf-n : goal.returns-then-buf-n
returns-then-buf-n c = reindex_never _ _ _ _ _ _ (λ a b e g h. omega arith)

pub returns-then-buf-left : goal.returns-then-buf-left
returns-then-buf-left c = reindex_never _ _ _ _ _ _ (λ a b e g h. omega arith)

pub returns : goal.returns
returns c = reindex_is _ _ _ _ _ (omega arith) c.open.ensures c.put_number.ensures c.put_offsets.ensures

use native.Mathlib.Omega.{arith}
use Rattle.head.specs.Laws.Head.{head_none, head_some}
use Rattle.head.proofs.head_size.Goals as goal

pub returns-then-i-gt0 : goal.returns-then-i-gt0
returns-then-i-gt0 c = head_some c.if-i-gt0.true

pub returns : goal.returns
returns c = head_none (omega arith)

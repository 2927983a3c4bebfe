use native.Mathlib.Omega.{arith}
use borrow.Author.Rules.{rules}
use Rattle.line.specs.Laws.Line.{state_on, state_off}
use Rattle.line.specs.Laws.Adds.{adds_as}
use Rattle.line.proofs.add_state.Goals as goal

pub returns-then-on : goal.returns-then-on
returns-then-on c = (adds_as c.add.ensures (state_on _ (search rules)), omega arith)

pub returns : goal.returns
returns c = (adds_as c.add-2.ensures (state_off _ (search rules)), omega arith)

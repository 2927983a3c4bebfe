use native.Mathlib.Omega.{arith}
use Rattle.deck.specs.Laws.Deck.{wide_two, wide_none}
use Rattle.deck.proofs.wide_of.Goals as goal

pub returns-then-version-eq2 : goal.returns-then-version-eq2
returns-then-version-eq2 c = (wide_two c.if-version-eq2.true, omega arith)

pub returns : goal.returns
returns c = (wide_none c.if-version-eq2.false, omega arith)

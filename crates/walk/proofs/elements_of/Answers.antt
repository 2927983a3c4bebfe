use native.Mathlib.Omega.{arith}
use Rattle.steps.specs.Laws.Steps.{name_own, name_got}
use Rattle.walk.specs.Laws.Elements.{elements_unnamed, elements_short, elements_go}
use borrow.Author.Rules.{rules}
use Rattle.walk.proofs.elements_of.Goals as goal

pub returns-in_default : goal.returns-in_default
returns-in_default c = (search (rules, elements_unnamed), name_own _ _ c.name_end-t.ensures)

pub returns-then-left-lt24 : goal.returns-then-left-lt24
returns-then-left-lt24 c = (elements_short _ _ _ _ (name_got _ _ c.name_end-t.ensures c.in-Ok.is) (omega arith), tt)

pub returns : goal.returns
returns c = (elements_go _ _ _ _ (name_got _ _ c.name_end-t.ensures c.in-Ok.is) c.counted_at.ensures.0, c.counted_at.ensures.1)

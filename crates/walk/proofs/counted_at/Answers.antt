use Rattle.format.specs.Laws.Seen.{seen_own}
use Rattle.walk.specs.Laws.Elements.{counts_cut, counts_off, counts_is}
use borrow.Author.Rules.{rules}
use Rattle.walk.proofs.counted_at.Goals as goal

pub returns-in_default : goal.returns-in_default
returns-in_default c = (search (rules, counts_cut), seen_own _ _ _ _ c.u16_at-c.ensures)

pub returns-in_default-h : goal.returns-in_default-h
returns-in_default-h c = (search (rules, counts_off), seen_own _ _ _ _ c.head_at-h.ensures)

pub returns : goal.returns
returns c = (search (rules, counts_is), tt)

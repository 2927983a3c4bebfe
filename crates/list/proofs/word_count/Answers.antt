use Rattle.format.specs.Laws.Seen.{seen_own}
use Rattle.list.specs.Laws.List.{list_cut}
use borrow.Author.Rules.{rules}
use Rattle.list.proofs.word_count.Goals as goal

pub returns-in_default : goal.returns-in_default
returns-in_default c = (search (rules, list_cut), seen_own _ _ _ _ c.u32_at-z.ensures)

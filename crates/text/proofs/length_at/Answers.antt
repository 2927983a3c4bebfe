use Rattle.text.specs.Laws.Seen.{length_none, length_short, length_long}
use borrow.Author.Rules.{rules}
use Rattle.text.proofs.length_at.Goals as goal

pub returns-in_default : goal.returns-in_default
returns-in_default c = search (rules, length_none)

pub returns-then-n-ne255 : goal.returns-then-n-ne255
returns-then-n-ne255 c = search (rules, length_short)

pub returns : goal.returns
returns c = search (rules, length_long)

use Rattle.format.specs.Laws.Seen.{count_is}
use borrow.Author.Rules.{rules}
use Rattle.field.proofs.count16_at.Goals as goal

pub returns : goal.returns
returns c = search (rules, count_is)

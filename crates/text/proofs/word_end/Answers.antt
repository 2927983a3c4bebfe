use Rattle.text.specs.Laws.Seen.{end_is}
use borrow.Author.Rules.{rules}
use Rattle.text.proofs.word_end.Goals as goal

pub returns : goal.returns
returns c = search (rules, end_is)

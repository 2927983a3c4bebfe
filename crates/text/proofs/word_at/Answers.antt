use Rattle.text.specs.Laws.Seen.{word_stop, word_go}
use borrow.Author.Rules.{rules}
use Rattle.text.proofs.word_at.Goals as goal

pub returns-in_default : goal.returns-in_default
returns-in_default c = search (rules, word_stop)

pub returns : goal.returns
returns c = search (rules, word_go)

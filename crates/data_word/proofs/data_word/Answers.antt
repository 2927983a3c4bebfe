use Rattle.walk.specs.Laws.Elements.{of_kind}
use Rattle.data_word.specs.Laws.Word.{data_other}
use borrow.Author.Rules.{rules}
use Rattle.data_word.proofs.data_word.Goals as goal

pub returns-in-WordList : goal.returns-in-WordList
returns-in-WordList c = (search (rules, of_kind), c.list_word.ensures.1)

pub returns-in-Marker : goal.returns-in-Marker
returns-in-Marker c = (search (rules, of_kind, data_other), (tt, tt))

pub returns-in-Simple : goal.returns-in-Simple
returns-in-Simple c = (search (rules, of_kind, data_other), (tt, tt))

pub returns-in-Size : goal.returns-in-Size
returns-in-Size c = (search (rules, of_kind, data_other), (tt, tt))

pub returns-in-Dates : goal.returns-in-Dates
returns-in-Dates c = (search (rules, of_kind, data_other), (tt, tt))

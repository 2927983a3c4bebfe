use Rattle.format.specs.Laws.Seen.{reading}
use Rattle.element.specs.Data.{word_data}
use Rattle.format.specs.Laws.Rows.{listed_is}
use Rattle.element.proofs.word_list_at.Goals as goal

pub returns-in_default : goal.returns-in_default
unfolding word_data
returns-in_default c = search (reading, listed_is)

pub returns : goal.returns
unfolding word_data
returns c = search (reading, listed_is)

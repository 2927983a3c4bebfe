use Rattle.view.specs.Laws.View.{placed_as}
use Rattle.word_view.proofs.word_place.Goals as goal

pub returns : goal.returns
returns c = placed_as c.place_of.ensures c.find_word-v.ensures.0

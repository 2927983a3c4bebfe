use mathlib.Core.Path.{◌∙◌}
use Rattle.view.specs.Laws.View.{part_as, within_is}
use Rattle.word_view.proofs.word.Goals as goal

pub returns : goal.returns
returns c = part_as _ _ c.part.ensures (within_is _ _ c.find_word-v.ensures.1 ∙ c.find_word-v.ensures.0)

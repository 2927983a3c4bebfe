use mathlib.Core.Path.{refl}
use Rattle.view.specs.Laws.View.{no_inside}
use Rattle.asked.specs.Laws.Asked.{finds, finds_never}
use Rattle.word_view.proofs.word_of.Goals as goal

pub returns-in_err-at : goal.returns-in_err-at
returns-in_err-at c = (finds_never _ _ _ _ _ _ _ c.in_err-at.ensures.0 refl, no_inside _ _ c.from_residual.ensures.0)

pub returns : goal.returns
returns c = (finds _ _ _ _ _ _ _ c.in_ok-at.ensures.0 refl c.rule_word.ensures.0, c.rule_word.ensures.1)

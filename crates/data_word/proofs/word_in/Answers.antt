use Rattle.std.specs.Prelude.{ℕ}
use mathlib.Core.Path.{refl}
use Rattle.format.specs.Laws.Fault.{own_handed}
use Rattle.text.specs.Laws.Seen.{text_own}
use Rattle.view.specs.Laws.View.{no_inside, units_inside, units_own}
use Rattle.data_word.specs.Laws.Word.{word_never, word_is}
use borrow.Author.Rules.{rules}
use Rattle.data_word.proofs.word_in.Goals as goal

pub returns-in_err-q : goal.returns-in_err-q
returns-in_err-q c = (word_never _ _ _ _ c.in_err-q.ensures.0 refl, (no_inside _ _ c.from_residual.ensures.0, own_handed {B = ℕ × ℕ} _ _ c.in_err-q.ensures.1 (refl {0}) (search rules)))

pub returns : goal.returns
returns c = (word_is _ _ _ _ c.in_ok-q.ensures.0 refl c.word_at-t.ensures c.units_of.ensures, (units_inside _ _ c.units_of.ensures, units_own _ _ c.units_of.ensures (text_own _ _ _ _ c.word_at-t.ensures)))

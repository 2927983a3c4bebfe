use Rattle.format.specs.Laws.Fault.{own_handed}
use Rattle.format.specs.Laws.Seen.{seen_own}
use Rattle.data_word.specs.Laws.Word.{list_cut, list_short, list_is}
use Rattle.view.specs.Laws.View.{no_inside}
use borrow.Author.Rules.{rules}
use Rattle.data_word.proofs.list_word.Goals as goal

pub returns-in_err-p : goal.returns-in_err-p
returns-in_err-p c = (search (rules, list_cut, c.in_err-p.was), (no_inside _ _ c.from_residual.ensures.0, own_handed _ _ (seen_own _ _ _ _ c.u32_at.ensures) c.in_err-p.was (search (rules, c.in_err-p.was))))

pub returns-then-n-w : goal.returns-then-n-w
returns-then-n-w c = (search (rules, list_short, c.in_ok-p.was), (tt, tt))

pub returns : goal.returns
returns c = (search (rules, list_is, c.in_ok-p.was), c.word_in.ensures.1)

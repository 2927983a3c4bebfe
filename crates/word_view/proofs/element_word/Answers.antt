use Rattle.walk.specs.Laws.Elements.{carries_cut, carries_none, carries_is}
use Rattle.view.specs.Laws.View.{no_inside}
use borrow.Author.Rules.{rules}
use Rattle.word_view.proofs.element_word.Goals as goal

pub returns-in_err-q : goal.returns-in_err-q
returns-in_err-q c = (search (rules, carries_cut, c.in_err-q.was), no_inside _ _ c.from_residual.ensures.0)

pub returns-in_err-kind : goal.returns-in_err-kind
returns-in_err-kind c = (search (rules, carries_none, c.in_ok-q.was, c.in_err-kind.was), no_inside _ _ c.from_residual-in_err-kind.ensures.0)

pub returns : goal.returns
returns c = (search (rules, carries_is, c.in_ok-q.was, c.in_ok-kind.was), c.data_word.ensures.1.0)

use Rattle.word_view.specs.Laws.Word.{rule_cut, rule_short, rule_never, rule_is}
use Rattle.view.specs.Laws.View.{no_inside}
use borrow.Author.Rules.{rules}
use Rattle.word_view.proofs.rule_word.Goals as goal

pub returns-in_err-p : goal.returns-in_err-p
returns-in_err-p c = (search (rules, rule_cut, c.in_err-p.was), no_inside _ _ c.from_residual.ensures.0)

pub returns-then-n-e : goal.returns-then-n-e
returns-then-n-e c = (search (rules, rule_short, c.in_ok-p.was), tt)

pub returns-in_err-q : goal.returns-in_err-q
returns-in_err-q c = (search (rules, rule_never, c.in_ok-p.was, c.in_err-q.was), no_inside _ _ c.from_residual-in_err-q.ensures.0)

pub returns : goal.returns
returns c = (search (rules, rule_is, c.in_ok-p.was, c.in_ok-q.was), c.element_word.ensures.1)

use Rattle.given.specs.Laws.Given.{given_stop, given_over, given_is}
use borrow.Author.Rules.{rules}
use Rattle.given.proofs.given_element.Goals as goal

pub returns-in_default : goal.returns-in_default
returns-in_default c = search (rules, given_stop, c.in_ok-kind.was)

pub returns-then-e-s : goal.returns-then-e-s
returns-then-e-s c = search (rules, given_over, c.in_ok-kind.was)

pub returns : goal.returns
returns c = search (rules, given_is, c.in_ok-kind.was)

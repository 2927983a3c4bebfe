use Rattle.element.specs.Laws.Element.{element_is}
use borrow.Author.Rules.{rules}
use Rattle.identified.proofs.read_element.Goals as goal

pub returns : goal.returns
returns c = search (rules, element_is, c.in_ok-kind.was)

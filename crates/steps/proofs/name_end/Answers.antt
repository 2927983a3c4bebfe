use Rattle.steps.specs.Laws.Steps.{name_past, name_is}
use borrow.Author.Rules.{rules}
use Rattle.steps.proofs.name_end.Goals as goal

pub returns-in_default : goal.returns-in_default
returns-in_default c = search (rules, name_past)

pub returns : goal.returns
returns c = search (rules, name_is)

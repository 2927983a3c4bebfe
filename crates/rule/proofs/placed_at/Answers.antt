use Rattle.rule.specs.Laws.Rule.{lead_stop, lead_go}
use borrow.Author.Rules.{rules}
use Rattle.rule.proofs.placed_at.Goals as goal

pub returns-in_default : goal.returns-in_default
returns-in_default c = search (rules, lead_stop)

pub returns : goal.returns
returns c = search (rules, lead_go)

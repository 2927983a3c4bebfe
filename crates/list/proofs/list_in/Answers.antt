use Rattle.format.specs.Laws.Fault.{own_handed}
use Rattle.kind.specs.Laws.Kinds.{row_own}
use Rattle.walk.specs.Laws.Elements.{carries_none, carries_is}
use borrow.Author.Rules.{rules}
use Rattle.list.proofs.list_in.Goals as goal

pub returns-in_err-kind : goal.returns-in_err-kind
returns-in_err-kind c = (search (rules, carries_none, c.in_err-kind.was), own_handed _ _ (row_own _ _ c.row_for.ensures) c.in_err-kind.was (search (rules, c.in_err-kind.was)))

pub returns : goal.returns
returns c = search (rules, carries_is, c.in_ok-kind.was)

use lib.ListN.{length}
use Rattle.format.specs.Laws.Seen.{none, reading, refused_is}
use Rattle.rule.specs.Rule.{body}
use Rattle.format.specs.Laws.Rows.{counted_is, row_long}
use Rattle.whole_rule.proofs.body_at.Goals as goal

pub returns-in_default : goal.returns-in_default
unfolding body
returns-in_default c = search (reading, counted_is)

pub returns-in_default-h : goal.returns-in_default-h
unfolding body
returns-in_default-h c = search (reading, counted_is)

pub returns-in_default-x : goal.returns-in_default-x
unfolding body
returns-in_default-x c = search (reading, counted_is, refused_is none _ _ _ length c.elements_at-x.ensures c.in_default-x.is)

pub returns : goal.returns
unfolding body
returns c = search (reading, counted_is, row_long)

use Rattle.format.specs.Laws.Seen.{reading}
use Rattle.rule.specs.Rule.{class_head}
use Rattle.rule.specs.Laws.Rule.{class_is}
use Rattle.rule.proofs.class_at.Goals as goal

pub returns-in_default : goal.returns-in_default
unfolding class_head
returns-in_default c = search reading

pub returns-in_default-n : goal.returns-in_default-n
unfolding class_head
returns-in_default-n c = search reading

pub returns : goal.returns
unfolding class_head
returns c = search (reading, class_is)

use Rattle.format.specs.Laws.Seen.{reading}
use Rattle.rule.specs.Rule.{head, first_head}
use Rattle.rule.proofs.head_at.Goals as goal

pub returns-then-i-ne0 : goal.returns-then-i-ne0
unfolding head first_head
returns-then-i-ne0 c = search reading

pub returns-in_default : goal.returns-in_default
unfolding head first_head
returns-in_default c = search reading

pub returns : goal.returns
unfolding head first_head
returns c = search reading

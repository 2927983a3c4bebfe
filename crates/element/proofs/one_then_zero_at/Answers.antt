use Rattle.format.specs.Laws.Seen.{reading}
use Rattle.element.specs.Data.{one_zero}
use Rattle.element.proofs.one_then_zero_at.Goals as goal

pub returns-in_default : goal.returns-in_default
unfolding one_zero
returns-in_default c = search reading

pub returns : goal.returns
unfolding one_zero
returns c = search reading

use Rattle.format.specs.Combinators.{flag}
use Rattle.format.specs.Laws.Seen.{reading}
use Rattle.field.proofs.flag_at.Goals as goal

pub returns-in_default : goal.returns-in_default
unfolding flag
returns-in_default c = search reading

pub returns-then-x-gt1 : goal.returns-then-x-gt1
unfolding flag
returns-then-x-gt1 c = search reading

pub returns : goal.returns
returns c = search reading

use Rattle.text.specs.Length.{long_length}
use Rattle.format.specs.Laws.Seen.{reading}
use Rattle.text.proofs.long_at.Goals as goal

pub returns-in_default : goal.returns-in_default
unfolding long_length
returns-in_default c = search reading

pub returns-then-n-gt255 : goal.returns-then-n-gt255
unfolding long_length
returns-then-n-gt255 c = search reading

pub returns : goal.returns
unfolding long_length
returns c = search reading

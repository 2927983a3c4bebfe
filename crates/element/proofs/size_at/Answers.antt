use Rattle.format.specs.Laws.Seen.{reading}
use Rattle.element.specs.Data.{size_data}
use Rattle.element.proofs.size_at.Goals as goal

pub returns-in_default : goal.returns-in_default
unfolding size_data
returns-in_default c = search reading

pub returns-in_default-min : goal.returns-in_default-min
unfolding size_data
returns-in_default-min c = search reading depth 6

pub returns : goal.returns
unfolding size_data
returns c = search reading depth 6

use Rattle.format.specs.Laws.Seen.{reading}
use Rattle.element.specs.Data.{marker_data}
use Rattle.element.proofs.marker_at.Goals as goal

pub returns-in_default : goal.returns-in_default
unfolding marker_data
returns-in_default c = search reading

pub returns : goal.returns
unfolding marker_data
returns c = search reading

use Rattle.format.specs.Laws.Seen.{reading}
use Rattle.element.specs.Data.{date_data}
use Rattle.element.proofs.dates_at.Goals as goal

pub returns-in_default : goal.returns-in_default
unfolding date_data
returns-in_default c = search reading

pub returns-in_default-after : goal.returns-in_default-after
unfolding date_data
returns-in_default-after c = search reading depth 6

pub returns : goal.returns
unfolding date_data
returns c = search reading depth 6

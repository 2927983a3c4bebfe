use Rattle.date.specs.Date.{date}
use Rattle.format.specs.Laws.Seen.{reading}
use Rattle.date.proofs.date_at.Goals as goal

pub returns-in_default : goal.returns-in_default
unfolding date
returns-in_default c = search reading

pub returns-then-is_date : goal.returns-then-is_date
unfolding date
returns-then-is_date c = search reading

pub returns : goal.returns
unfolding date
returns c = search reading

use Rattle.format.specs.Laws.Seen.{reading}
use Rattle.element.specs.Data.{limit}
use Rattle.element.proofs.limit_at.Goals as goal

pub returns-in_default : goal.returns-in_default
unfolding limit
returns-in_default c = search reading

pub returns-in_default-z : goal.returns-in_default-z
unfolding limit
returns-in_default-z c = search reading depth 6

pub returns : goal.returns
unfolding limit
returns c = search reading depth 6

use Rattle.deck.specs.Deck.{version}
use Rattle.deck.specs.Laws.Deck.{mark_is}
use Rattle.format.specs.Laws.ReadWrite.{in_range, under_range, over_range}
use Rattle.format.specs.Laws.Seen.{reading}
use Rattle.deck.proofs.version_at.Goals as goal

pub returns-in_default : goal.returns-in_default
unfolding version
returns-in_default c = search (reading, mark_is)

pub returns-in_default-v : goal.returns-in_default-v
unfolding version
returns-in_default-v c = search (reading, mark_is)

pub returns-then-n-lt1 : goal.returns-then-n-lt1
unfolding version
returns-then-n-lt1 c = search (reading, mark_is, under_range)

pub returns-then-n-gt2 : goal.returns-then-n-gt2
unfolding version
returns-then-n-gt2 c = search (reading, mark_is, over_range)

pub returns : goal.returns
unfolding version
returns c = search (reading, mark_is, in_range)

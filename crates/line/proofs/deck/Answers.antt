use Rattle.line.specs.Laws.Line.{deck_is}
use Rattle.line.specs.Laws.Adds.{lined_as}
use Rattle.line.proofs.deck.Goals as goal

pub returns : goal.returns
returns c = lined_as c.numbers.ensures (deck_is _ _)

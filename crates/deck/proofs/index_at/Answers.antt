use Rattle.deck.specs.Laws.Deck.{none_there, four_there}
use Rattle.deck.proofs.index_at.Goals as goal

pub returns-then-version-ne2 : goal.returns-then-version-ne2
returns-then-version-ne2 c = none_there _ _ _ _ c.if-version-ne2.true

pub returns : goal.returns
returns c = four_there _ _ _ _ c.if-version-ne2.false c.numbers_at.ensures

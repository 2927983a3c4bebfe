use Rattle.listed.specs.Laws.Listed.{deck_listed_lem}
use Rattle.listed.proofs.deck_line.Goals as goal

pub returns : goal.returns
returns c = deck_listed_lem _ c.version_of-version.ensures c.deck.ensures

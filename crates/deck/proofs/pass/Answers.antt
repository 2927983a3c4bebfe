use Rattle.std.proofs.Common.{arith}
use Rattle.std.proofs.lemmas.Grind.{common_steps}
use Rattle.deck.specs.Laws.Deck.{scan_by, scan_none}
use Rattle.deck.proofs.pass.Goals as goal

pub returns-in_default : goal.returns-in_default
returns-in_default c = scan_none _ _ c.edition_of.ensures c.in_default.is

pub returns : goal.returns
returns c = scan_by _ _ c.edition_of.ensures c.in-Some.is (grind (arith, common_steps))

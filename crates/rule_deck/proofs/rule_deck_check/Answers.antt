use Rattle.packed.specs.Laws.Packed.{packed_whole}
use Rattle.format.specs.Laws.Format.{bytes_all}
use Rattle.deck.specs.Laws.Deck.{place_small}
use Rattle.rule_deck.proofs.rule_deck_check.Goals as goal

pub returns : goal.returns
returns c = packed_whole c.pack.ensures c.check.ensures (place_small c.args.edition c.args.deck.now (bytes_all c.args.deck.now c.shared_slice_known-1.given))

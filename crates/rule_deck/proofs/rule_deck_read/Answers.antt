use lib.ListN.{length}
use Rattle.packed.specs.Laws.Packed.{packed_whole}
use Rattle.format.specs.Laws.Format.{bytes_all}
use Rattle.bounds.specs.Laws.Places.{tables_small}
use Rattle.rule_deck.proofs.rule_deck_read.Goals as goal

pub returns : goal.returns
returns c = (packed_whole c.pack.ensures c.read.ensures.0 (tables_small c.args.edition (length c.args.rules.now) (length c.args.elements.now) c.args.deck.now (bytes_all c.args.deck.now c.shared_slice_known-1.given)), c.read.ensures.1)

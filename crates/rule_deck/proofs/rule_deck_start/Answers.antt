use Rattle.packed.specs.Laws.Packed.{packed_whole}
use Rattle.rule_deck.specs.Laws.Sent.{start_small}
use lib.ListN.{length}
use Rattle.rule_deck.proofs.rule_deck_start.Goals as goal

pub returns : goal.returns
returns c = (packed_whole c.pack.ensures c.start.ensures.0 (start_small (length c.args.buf.now)), c.start.ensures.1)

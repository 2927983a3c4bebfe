use lib.ListN.{length}
use Rattle.put_table.specs.Table.{value_from}
use Rattle.bounds.specs.Laws.Results.{put_small}
use Rattle.packed.specs.Laws.Packed.{packed_whole}
use Rattle.rule_deck.proofs.rule_deck_put_value.Goals as goal

pub returns : goal.returns
returns c = let a = c.args in (packed_whole c.pack.ensures c.put_value.ensures.0 (put_small a.edition a.identifier (value_from a.value.now) (length a.buf.now)), c.put_value.ensures.1)

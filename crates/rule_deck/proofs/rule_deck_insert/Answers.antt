use Rattle.format.specs.Laws.Format.{bytes_all}
use Rattle.plan.specs.Laws.Handed.{hand_insert}
use Rattle.rule_deck.specs.Laws.Sent.{sent}
use Rattle.rule_deck.proofs.rule_deck_insert.Goals as goal

pub returns : goal.returns
returns c = sent _ _ _ _ (bytes_all c.args.buf.now c.slice_known-1.given) (hand_insert _ c.args.second.now _ c.shared_slice_known-1.given) c.insert.ensures c.pack.ensures

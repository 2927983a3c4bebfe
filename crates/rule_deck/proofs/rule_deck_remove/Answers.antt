use Rattle.format.specs.Laws.Format.{bytes_all}
use Rattle.plan.specs.Laws.Handed.{hand_remove}
use Rattle.rule_deck.specs.Laws.Sent.{sent}
use Rattle.rule_deck.proofs.rule_deck_remove.Goals as goal

pub returns : goal.returns
returns c = sent _ _ _ _ (bytes_all c.args.buf.now c.slice_known-1.given) (hand_remove _) c.remove.ensures c.pack.ensures

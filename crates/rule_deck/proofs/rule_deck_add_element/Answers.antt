use Rattle.format.specs.Laws.Format.{bytes_all}
use Rattle.plan.specs.Laws.Handed.{hand_add_element}
use Rattle.rule_deck.specs.Laws.Sent.{sent}
use Rattle.rule_deck.proofs.rule_deck_add_element.Goals as goal

pub returns : goal.returns
returns c = sent _ _ _ _ (bytes_all c.args.buf.now c.slice_known-1.given) (hand_add_element _ c.args.s.now c.ranges.identifier c.shared_slice_known-1.given) c.add_element.ensures c.pack.ensures

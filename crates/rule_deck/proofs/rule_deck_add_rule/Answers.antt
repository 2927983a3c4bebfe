use Rattle.format.specs.Laws.Format.{bytes_all}
use Rattle.plan.specs.Laws.Handed.{hand_add_rule}
use Rattle.rule_deck.specs.Laws.Sent.{sent}
use Rattle.rule_deck.proofs.rule_deck_add_rule.Goals as goal

pub returns : goal.returns
returns c = sent _ _ _ _ (bytes_all c.args.buf.now c.slice_known-1.given) (hand_add_rule c.args.name.now _ _ c.args.s.now c.shared_slice_known-1.given (record { signature = c.ranges.signature; unknown2 = c.ranges.unknown2; unknown3 = c.ranges.unknown3; unknown4 = c.ranges.unknown4; unknown5 = c.ranges.unknown5 }) c.ranges.identifier c.shared_slice_known-2-1.given) c.add_rule.ensures c.pack.ensures

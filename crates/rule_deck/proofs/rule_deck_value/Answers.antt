use Rattle.bounds.specs.Laws.Results.{value_small}
use Rattle.format.specs.Laws.Format.{bytes_all}
use Rattle.rule_deck.specs.Laws.Sent.{result_sent}
use Rattle.rule_deck.proofs.rule_deck_value.Goals as goal

pub returns : goal.returns
returns c = result_sent _ _ _ c.value.ensures (value_small _ _ _ (bytes_all c.args.s.now c.shared_slice_known-1.given)) c.pack.ensures

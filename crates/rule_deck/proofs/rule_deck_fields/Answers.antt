use Rattle.bounds.specs.Laws.Results.{fields_small}
use Rattle.rule_deck.specs.Laws.Sent.{result_sent}
use Rattle.rule_deck.proofs.rule_deck_fields.Goals as goal

pub returns : goal.returns
returns c = let a = c.args in result_sent _ _ _ c.fields.ensures (fields_small a.edition a.k a.deck.now) c.pack.ensures

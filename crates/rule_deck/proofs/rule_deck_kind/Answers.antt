use Rattle.bounds.specs.Laws.Results.{kind_small}
use Rattle.rule_deck.specs.Laws.Sent.{result_sent}
use Rattle.rule_deck.proofs.rule_deck_kind.Goals as goal

pub returns : goal.returns
returns c = result_sent _ _ _ c.kind.ensures (kind_small _ _) c.pack.ensures

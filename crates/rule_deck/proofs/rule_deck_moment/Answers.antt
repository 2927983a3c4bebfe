use Rattle.bounds.specs.Laws.Results.{moment_small}
use Rattle.rule_deck.specs.Laws.Sent.{result_sent}
use Rattle.rule_deck.proofs.rule_deck_moment.Goals as goal

pub returns : goal.returns
returns c = let m = c.moment.ensures in (_, (m.1.0, result_sent _ _ _ m.1.1 (moment_small c.args.bits m.0 m.1.0) c.pack.ensures))

use Rattle.bounds.specs.Laws.Results.{word_part_small}
use Rattle.rule_deck.specs.Laws.Sent.{result_sent}
use Rattle.rule_deck.proofs.rule_deck_word_part.Goals as goal

pub returns : goal.returns
returns c = let a = c.args in result_sent _ _ _ c.word_part.ensures (word_part_small a.edition a.k a.e a.w a.deck.now) c.pack.ensures

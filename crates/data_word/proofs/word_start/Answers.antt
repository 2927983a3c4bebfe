use Rattle.std.proofs.Common.{rules}
use Rattle.format.specs.Laws.Seen.{none, seen_own}
use Rattle.text.specs.Text.{word}
use Rattle.each.specs.Laws.Chain.{chain_own}
use Rattle.each.specs.Laws.Row.{chain_skips}
use Rattle.data_word.proofs.word_start.Goals as goal

pub returns : goal.returns
returns c = (chain_skips _ (λ i. word) c.args.s.now none (λ p i r h. search rules) _ _ _ c.each_at.ensures, chain_own _ (λ p i r h. search (rules, seen_own)) _ _ _ _ c.each_at.ensures)

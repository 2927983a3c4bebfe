use Rattle.std.proofs.Common.{rules}
use Rattle.format.specs.Laws.Seen.{seen_own}
use Rattle.each.specs.Laws.Chain.{chain_own}
use Rattle.each.specs.Laws.Row.{chain_skips}
use Rattle.rule.specs.Rule.{placed}
use Rattle.walk.proofs.element_start.Goals as goal

pub returns : goal.returns
returns c = (chain_skips _ (placed c.args.product) c.args.s.now (λ e. e.0) (λ p j r h. search rules) _ _ _ c.each_at.ensures, chain_own _ (λ p j r h. search (rules, seen_own)) _ _ _ _ c.each_at.ensures)

use Rattle.std.proofs.Common.{rules}
use Rattle.each.specs.Laws.Row.{chain_seen}
use Rattle.rule.specs.Rule.{placed}
use Rattle.whole_rule.proofs.elements_at.Goals as goal

pub returns : goal.returns
returns c = chain_seen _ (placed c.args.product) c.args.s.now (λ e. e.0) (λ p j r h. search rules) _ _ _ c.each_at.ensures

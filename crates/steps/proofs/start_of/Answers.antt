use Rattle.std.proofs.Common.{rules}
use Rattle.each.specs.Laws.Chain.{chain_own}
use Rattle.steps.specs.Laws.Steps.{reached_by}
use Rattle.steps.proofs.start_of.Goals as goal

pub returns : goal.returns
returns c = (reached_by c.args.s.now _ _ _ (λ p i r h. search rules) _ c.each_at.ensures, chain_own _ (λ p i r h. search rules) _ _ _ _ c.each_at.ensures)

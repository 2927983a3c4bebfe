use Rattle.each.specs.Laws.Chain.{Going}
use Rattle.each.proofs.each_at.Given as goal

abbrev pub invariant-loop-i : goal.invariant-loop-i
invariant-loop-i g l = Going (λ p i q. goal.F-post g l.fn.read p i q) l.at l.n l.p l.i

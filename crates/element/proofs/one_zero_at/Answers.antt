use native.Mathlib.Omega.{arith}
use Rattle.format.specs.Laws.Format.{bytes_all}
use Rattle.format.specs.Laws.Seen.{at_once}
use Rattle.element.specs.Data.{one_zero}
use Rattle.element.proofs.one_zero_at.Goals as goal

pub returns : goal.returns
unfolding one_zero
returns c = at_once 4 4 1 0 _ _ _ (bytes_all c.args.s.now c.shared_slice_known-1.given) (omega arith) (omega arith) c.u64_at-w.ensures c.in-Ok.is c.if-x-ne1.false

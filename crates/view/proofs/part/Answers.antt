use native.Mathlib.Omega.{arith}
use lib.ListN.{length}
use Rattle.view.specs.Laws.View.{within_none, within_past, within_at, shown_at, from_at, part_none}
use Rattle.view.proofs.part.Goals as goal

pub returns-in_default : goal.returns-in_default
returns-in_default c = part_none _ _ (within_none _ c.in_default.is) c.empty.ensures.0 c.empty.ensures.1

pub returns-then-s-a : goal.returns-then-s-a
returns-then-s-a c = part_none _ _ (within_past (length c.args.s.now) c.in-Ok.is (omega arith)) c.empty-then-s-a.ensures.0 c.empty-then-s-a.ensures.1

pub returns-then-s-a-2 : goal.returns-then-s-a-2
returns-then-s-a-2 c = part_none _ _ (within_past (length c.args.s.now) c.in-Ok.is (omega arith)) c.empty-then-s-a-2.ensures.0 c.empty-then-s-a-2.ensures.1

pub returns : goal.returns
returns c = let e = within_at (length c.args.s.now) c.in-Ok.is (omega arith) in (shown_at _ e, from_at _ _ e)

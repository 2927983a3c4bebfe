use native.Mathlib.Omega.{arith}
use Rattle.format.specs.Laws.Seen.{seen_own}
use Rattle.steps.specs.Laws.Starts.{starts_walked, starts_none, starts_unread, starts_offset}
use Rattle.steps.proofs.rule_start.Goals as goal

pub returns-then-version-ne2 : goal.returns-then-version-ne2
returns-then-version-ne2 c = (starts_walked _ _ _ _ _ c.start_of.ensures.0, c.start_of.ensures.1)

pub returns-then-k-ge256 : goal.returns-then-k-ge256
returns-then-k-ge256 c = (starts_none _ _ _ _ _ (omega arith), tt)

pub returns-in_default : goal.returns-in_default
returns-in_default c = (starts_unread _ _ _ _ (omega (arith, c.if-version-ne2.false)) c.u32_at-o.ensures _ c.in_default.is, seen_own _ _ _ _ c.u32_at-o.ensures)

pub returns : goal.returns
returns c = (starts_offset _ _ _ _ (omega (arith, c.if-version-ne2.false)) c.u32_at-o.ensures c.in-Ok.is, tt)

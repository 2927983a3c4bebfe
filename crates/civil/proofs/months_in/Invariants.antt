use mathlib.Core.Path.{◌≡◌}
use Prim.Native.Nat.{◌+◌, ◌-◌, ◌<◌}
use Rattle.civil.specs.Calendar.{months_days}
use Rattle.civil.proofs.months_in.Given as goal

abbrev pub invariant-loop-left : goal.invariant-loop-left
invariant-loop-left l = (months_days l.y l.m + l.left ≡ l.n) × (l.m < 12)

abbrev pub decreases-loop-left : goal.decreases-loop-left
decreases-loop-left l = 12 - l.m

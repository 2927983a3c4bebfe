use Prim.Native.Nat.{◌+◌, ◌-◌, ◌≤◌}
use mathlib.Core.Path.{◌≡◌}
use lib.ListN.{length}
use Rattle.shift.proofs.Loops.{lifted}
use Rattle.shift.proofs.shift_up.Given as goal

abbrev pub invariant-loop-to : goal.invariant-loop-to
invariant-loop-to l = (l.p ≡ lifted l.initial.p l.by l.to) × ((length l.p ≡ length l.initial.p) × ((l.to ≤ length l.initial.p) × (l.by ≤ l.to + (l.by - length l.initial.p))))

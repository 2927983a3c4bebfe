use Prim.Native.Nat.{◌+◌, ◌-◌, ◌≤◌}
use mathlib.Core.Path.{◌≡◌}
use lib.ListN.{length}
use Rattle.shift.proofs.Loops.{lowered}
use Rattle.shift.proofs.shift_down.Given as goal

abbrev pub invariant-loop-from : goal.invariant-loop-from
invariant-loop-from l = (l.p ≡ lowered l.initial.p l.by l.from) × ((length l.p ≡ length l.initial.p) × ((l.by ≤ l.from) × (l.from ≤ l.by + (length l.initial.p - l.by))))

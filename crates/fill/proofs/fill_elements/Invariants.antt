use Prim.Native.Nat.{◌+◌, ◌-◌, ◌≤◌}
use mathlib.Core.Path.{◌≡◌}
use lib.ListN.{length}
use Rattle.fill.specs.Laws.Fill.{ElementsTurn}
use Rattle.fill.proofs.fill_elements.Given as goal

abbrev pub invariant-loop-j : goal.invariant-loop-j
invariant-loop-j l = ElementsTurn l.product l.rest l.at l.rule.start l.rule.i l.n l.rule.k l.initial.t l.j l.p l.t × ((length l.t ≡ length l.initial.t) × (l.p ≤ l.at + (length l.rest - l.at)))

use Prim.Native.Nat.{◌+◌, ◌*◌, ◌^◌, ◌≤◌}
use mathlib.Core.Path.{◌≡◌}
use lib.ListN.{length}
use Rattle.fill.specs.Laws.Parts.{RulesTurn}
use Rattle.fill.proofs.fill_rules.Given as goal

abbrev pub invariant-loop-i : goal.invariant-loop-i
invariant-loop-i l = RulesTurn l.product l.s l.base l.n l.initial.rules l.initial.elements l.i l.p l.k l.rules l.elements × (((length l.rules ≡ length l.initial.rules) × (length l.elements ≡ length l.initial.elements)) × ((l.p ≤ l.base + 200000 * l.i) × (l.k ≤ 2 ^ 18 * l.i)))

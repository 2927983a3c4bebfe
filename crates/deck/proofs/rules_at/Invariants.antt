use Prim.Native.Nat.{◌*◌, ◌-◌, ◌≤◌}
use Rattle.deck.specs.Laws.Deck.{Turn}
use Rattle.deck.proofs.rules_at.Given as goal

abbrev pub invariant-loop-i : goal.invariant-loop-i
invariant-loop-i l = Turn l.product l.version l.n l.s l.i l.t l.p × ((l.t ≤ 64 * l.i) × (l.i ≤ l.n))

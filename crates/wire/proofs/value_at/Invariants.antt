use Rattle.std.specs.Prelude.{◌≡◌}
use Rattle.wire.proofs.Values.{value_from}
use Rattle.wire.proofs.value_at.Given as goal

abbrev pub invariant-loop-i : goal.invariant-loop-i
invariant-loop-i g l = l.n ≡ value_from g.row.K l.at l.s l.i

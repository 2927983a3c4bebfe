use Rattle.std.proofs.Common.{◌≤◌, length}
use Rattle.lister.proofs.list_rules.Given as goal

abbrev pub invariant-loop-k : goal.invariant-loop-k
invariant-loop-k g l = length l.rest ≤ length l.elements

use Rattle.std.proofs.Common.{◌+◌, ◌≤◌, length}
use Rattle.vectors.proofs.run_all.Given as goal

abbrev pub invariant-loop-file : goal.invariant-loop-file
invariant-loop-file g l = (l.count + length l.file.rest.now ≤ length l.bytes) × (l.agreed ≤ l.count)

abbrev pub decreases-loop-file : goal.decreases-loop-file
decreases-loop-file g l = length l.file.rest.now

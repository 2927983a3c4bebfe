use mathlib.Core.Path.{◌≡◌}
use lib.ListN.{length}
use Rattle.offsets.specs.Laws.Offsets.{Puts}
use Rattle.offsets.proofs.put_offsets.Given as goal

abbrev pub invariant-loop-i : goal.invariant-loop-i
invariant-loop-i l = Puts l.rules l.i l.p l.initial.buf l.buf × (length l.buf ≡ length l.initial.buf)

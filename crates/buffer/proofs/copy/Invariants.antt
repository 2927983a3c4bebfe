use mathlib.Core.Path.{◌≡◌}
use lib.ListN.{length, drop}
use Rattle.buffer.specs.Laid.{put}
use Rattle.buffer.proofs.copy.Given as goal

abbrev pub invariant-loop-i : goal.invariant-loop-i
invariant-loop-i l = (put l.p l.i (drop l.i l.src) ≡ put l.initial.p 0 l.src) × (length l.p ≡ length l.initial.p)

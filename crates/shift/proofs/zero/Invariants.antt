use Rattle.std.proofs.Common.{◌≡◌, take}
use Rattle.buffer.specs.Laid.{zeros}
use Rattle.shift.proofs.zero.Given as goal

abbrev pub invariant-loop-byte : goal.invariant-loop-byte
invariant-loop-byte l = take l.byte-index l.p ≡ zeros l.byte-index

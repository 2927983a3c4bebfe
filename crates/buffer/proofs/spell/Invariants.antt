use Rattle.std.proofs.Common.{◌≡◌, ◌-◌, ◌++◌, length, take}
use Rattle.format.specs.ReadWrite.{spelt}
use Rattle.buffer.proofs.spell.Given as goal

abbrev pub invariant-loop-byte : goal.invariant-loop-byte
invariant-loop-byte l = take l.byte-index l.p ++ spelt (length l.initial.p - l.byte-index) l.rest ≡ spelt (length l.initial.p) l.n

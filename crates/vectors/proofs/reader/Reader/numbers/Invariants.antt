use Rattle.std.proofs.Common.{◌≡◌, ◌+◌, ◌*◌, length}
use Rattle.vectors.proofs.reader.Reader.numbers.Given as goal

abbrev pub invariant-loop-number : goal.invariant-loop-number
invariant-loop-number l = length l.self.rest.now + 8 * l.number-index ≡ length l.initial.self.rest.now

-- What a pass over a deck tells: its version, where the rules start, their number and that of their elements; or its refusal.
use Rattle.std.specs.Prelude.{ℕ, Result}
use Rattle.format.specs.declared.Refusal.{Refusal}

abbrev pub Scan : Type 0
Scan = Result (ℕ × ℕ × ℕ × ℕ) Refusal

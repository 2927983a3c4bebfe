-- What a reader answers: a value and the place past it, or a refusal.
use Rattle.std.specs.Prelude.{ℕ, Result}
use Rattle.format.specs.declared.Refusal.{Refusal}

abbrev pub Read : Type 0
Read = Result (ℕ × ℕ) Refusal

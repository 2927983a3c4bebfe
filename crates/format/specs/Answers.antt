-- What a call answers: a place or a number, or a refusal.
use Rattle.std.specs.Prelude.{ℕ, Result}
use Rattle.format.specs.declared.Refusal.{Refusal}

abbrev pub Outcome : Type 0
Outcome = Result ℕ Refusal

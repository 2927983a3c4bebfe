-- What a date is answered as: a civil date and the second of its day, or a refusal.
use Rattle.std.specs.Prelude.{ℕ, Result}
use Rattle.format.specs.declared.Refusal.{Refusal}
use Rattle.civil.specs.declared.Civil.{Civil}

abbrev pub Moment : Type 0
Moment = Result (Civil × ℕ) Refusal

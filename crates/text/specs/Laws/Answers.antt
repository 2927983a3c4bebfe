-- What the reader of a String answers: the place past it, its form and the number of its units; or its refusal.
use Rattle.std.specs.Prelude.{ℕ, Result}
use Rattle.format.specs.declared.Refusal.{Refusal}
use Rattle.text.specs.declared.Form.{Form}

abbrev pub StringRead : Type 0
StringRead = Result (ℕ × Form × ℕ) Refusal

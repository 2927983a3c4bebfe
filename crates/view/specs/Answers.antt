-- What a view answers: its first byte, how many bytes it is and the String's form; or a refusal.
use Rattle.std.specs.Prelude.{ℕ, Result}
use Rattle.format.specs.declared.Refusal.{Refusal}
use Rattle.text.specs.declared.Form.{Form}

abbrev pub View : Type 0
View = Result (ℕ × ℕ × Form) Refusal

-- What the fixed fields of a rule are answered as.
use Rattle.std.specs.Prelude.{Result}
use Rattle.format.specs.declared.Refusal.{Refusal}
use Rattle.rule.specs.declared.Fields.{Fields}

abbrev pub Fielded : Type 0
Fielded = Result Fields Refusal

-- What lone data answer: a value, or a refusal of the call or of the data.
use Rattle.std.specs.Prelude.{Result}
use Rattle.format.specs.declared.Refusal.{Refusal}
use Rattle.value.specs.declared.Value.{Value}

abbrev pub Valued : Type 0
Valued = Result Value Refusal

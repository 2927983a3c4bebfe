-- What is answered of where a rule stands.
use Rattle.std.specs.Prelude.{Result}
use Rattle.format.specs.declared.Refusal.{Refusal}
use Rattle.spot.specs.declared.Site.{Site}

abbrev pub Spot : Type 0
Spot = Result Site Refusal

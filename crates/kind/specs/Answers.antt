-- What the number of an edition answers, and an identifier.
use Rattle.std.specs.Prelude.{Option, Result}
use Rattle.format.specs.declared.Refusal.{Refusal}
use Rattle.kind.specs.declared.Product.{Product}
use Rattle.kind.specs.declared.Kind.{Kind}

abbrev pub Edition : Type 0
Edition = Option Product

abbrev pub Row : Type 0
Row = Result Kind Refusal

-- An element: document 01, "The deck"; source document 001, section 2.3.1.
use Rattle.std.specs.Prelude.{ℕ, Bool, true, false, Ok, Err}
use Rattle.format.specs.declared.Fault.{Fault}
use Rattle.format.specs.Format.{Format}
use Rattle.format.specs.Combinators.{pair, judged, number}
use Rattle.kind.specs.declared.Product.{Product}
use Rattle.kind.specs.Answers.{Row}
use Rattle.kind.specs.Kinds.{kinds, row_in, row_of}
use Rattle.element.specs.Data.{Data, data_of, simple_data}

-- whether there is a row, and what data it asks for (where there is none, the identifier was refused before)
abbrev pub is_row : Row → Bool
is_row (Ok k) = true
is_row (Err why) = false

abbrev pub data_by : Row → Format Data
data_by (Ok k) = data_of k
data_by (Err why) = simple_data

-- "a 4-byte identifier": 9 "not among the 35", 10 "among the 35, not in this edition"
unfoldable pub identifier : Product → Format ℕ
identifier p = judged (λ id. is_row (row_of p id)) Fault.Foreign (judged (λ id. is_row (row_in kinds id)) Fault.Unknown (number 4))

abbrev pub Element : Type 0
Element = ℕ × Data

-- "and data", by its kind
unfoldable pub element : Product → Format Element
element p = pair (identifier p) (λ id. data_by (row_in kinds id))

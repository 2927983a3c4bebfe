-- The value of an element's data: document 01, "The deck" and "Numbers a refusal gives".
use Rattle.std.specs.Prelude.{ℕ, List, [], ◌∷◌, length, Ok, Err, Some, None}
use Rattle.std.specs.Float.{binary64}
use Rattle.std.specs.Float.Ieee.{of_bits, to_bits}
use Rattle.format.specs.declared.Fault.{Fault}
use Rattle.kind.specs.Answers.{Edition, Row}
use Rattle.value.specs.Answers.{Valued}
use Rattle.format.specs.declared.Refusal.TheVariants.{At, Given}
use Rattle.format.specs.Fault.{Said, in_given}
use Rattle.format.specs.ReadWrite.{bit}
use Rattle.format.specs.Format.{Answer, got, refused, whole}
use Rattle.kind.specs.declared.Kind.{Kind}
use Rattle.kind.specs.Kinds.{edition_of, row_of}
use Rattle.element.specs.Data.{Data, Limit, words_of, sizes_of, span_of, data_of}
use Rattle.value.specs.declared.Span.{Span}
use Rattle.value.specs.declared.Value.{Value}

-- "A date span keeps its two dates as 64-bit floats, beside its two flags"
abbrev pub floats : Limit × Limit → Span
floats l = record { starts = l.0.set; ends = l.1.set; after = of_bits binary64 l.0.at; before = of_bits binary64 l.1.at }

-- "marker, simple with its identifier, a size pair, a date span, or a word list with its count"
abbrev pub value_in : Kind → ℕ → Data → Value
value_in Kind.Marker id d = Value.Marker
value_in (Kind.Simple r) id d = Value.Simple id
value_in Kind.WordList id d = Value.Words (length (words_of d))
value_in (Kind.Size r) id d = Value.Size (sizes_of d).0 (sizes_of d).1
value_in (Kind.Dates r) id d = Value.Dates (floats (span_of d))

-- ---- "Turning lone element data into a value"

-- the faults in the data: "35, 38, 39, 40, 43, 45"
abbrev pub from_data : Kind → ℕ → Answer Data → Valued
from_data k id (got d n) = Ok (value_in k id d)
from_data k id (refused c p) = Err (Given c p)

unfoldable pub from_kind : Kind → ℕ → List ℕ → Valued
from_kind k id s = from_data k id (whole (length s) ((data_of k).read s))

-- "41 and 42 have place 0"
abbrev pub from_row : Row → ℕ → List ℕ → Valued
from_row (Ok k) id s = from_kind k id s
from_row (Err why) id s = in_given (Err why)

-- "takes an edition and answers 1 first"
abbrev pub from_edition : Edition → ℕ → List ℕ → Valued
from_edition (Some p) id s = from_row (row_of p id) id s
from_edition None id s = Err (At Fault.Edition 0)

unfoldable pub value_of : ℕ → ℕ → List ℕ → Valued
value_of edition id s = from_edition (edition_of edition) id s

-- ---- the answer as document 01 has it

-- a value by its case, from 0 in the order of that list, and what it holds, a flag by 0 or 1 and a date by its bits
abbrev pub value_case : Value → List ℕ
value_case Value.Marker = 0 ∷ []
value_case (Value.Simple id) = 1 ∷ id ∷ []
value_case (Value.Size a b) = 2 ∷ a ∷ b ∷ []
value_case (Value.Dates v) = 3 ∷ bit v.starts ∷ bit v.ends ∷ to_bits binary64 v.after ∷ to_bits binary64 v.before ∷ []
value_case (Value.Words n) = 4 ∷ n ∷ []

abbrev pub value_says : Valued → Said
value_says (Ok v) = (Ok 0, value_case v)
value_says (Err why) = (Err why, [])

abbrev pub value_answer : ℕ → ℕ → List ℕ → Said
value_answer edition id s = value_says (value_of edition id s)

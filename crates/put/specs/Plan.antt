-- A value as data, "Turning a value into data": document 01, "Numbers a refusal gives".
use Rattle.std.specs.Prelude.{ℕ, Bool, ◌&&◌, List, ◌++◌, leb, eqb, length, drop, Float, ◌≡◌, Ok, Err, Some, None}
use Rattle.std.specs.Float.{binary64}
use Rattle.std.specs.Float.Ieee.{to_bits}
use Rattle.format.specs.declared.Fault.{Fault}
use Rattle.kind.specs.Answers.{Edition, Row}
use Rattle.format.specs.Answers.{Outcome}
use Rattle.format.specs.declared.Refusal.TheVariants.{At, Given}
use Rattle.format.specs.Fault.{in_given}
use Rattle.format.specs.Format.{Format, pick}
use Rattle.date.specs.Double.{accepted}
use Rattle.kind.specs.declared.Kind.{Kind}
use Rattle.kind.specs.Kinds.{edition_of, row_of}
use Rattle.element.specs.Data.{Data, plain, sizes, span, Limit, data_of}
use Rattle.value.specs.declared.Span.{Span}
use Rattle.value.specs.declared.Value.{Value}

-- what a value is as data, or a fault with its place
pub data Fitted : Type 0 where
  holds : Data → Fitted
  lacks : Fault → ℕ → Fitted

-- the kinds without their roles, in the order of the table
unfoldable pub shape : Kind → ℕ
shape Kind.Marker = 1
shape (Kind.Simple r) = 2
shape Kind.WordList = 3
shape (Kind.Size r) = 4
shape (Kind.Dates r) = 5

-- a float that is a date, by its bits: those of a not-a-number are none
abbrev pub dated : Float → Bool
dated x = accepted (to_bits binary64 x)

-- "dates bit for bit"; "then 43 at 16 or 32"
abbrev pub after_of : Span → Limit
after_of v = record { set = v.starts; at = to_bits binary64 v.after }

abbrev pub before_of : Span → Limit
before_of v = record { set = v.ends; at = to_bits binary64 v.before }

unfoldable pub from_span : Span → Fitted
from_span v = pick (dated v.after) (pick (dated v.before) (holds (span (after_of v) (before_of v))) (lacks Fault.Date 32)) (lacks Fault.Date 16)

-- "40 at 0 for a word list"
abbrev pub from_value : Value → Fitted
from_value Value.Marker = holds plain
from_value (Value.Simple n) = holds plain
from_value (Value.Size a b) = holds (sizes a b)
from_value (Value.Dates v) = from_span v
from_value (Value.Words n) = lacks Fault.Field 0

-- "or a value that isn't of that identifier's kind (for a simple value: another identifier)"
unfoldable pub is_of : Kind → ℕ → Value → Bool
is_of k id Value.Marker = eqb (shape k) 1
is_of k id (Value.Simple n) = eqb (shape k) 2 && eqb n id
is_of k id (Value.Words n) = eqb (shape k) 3
is_of k id (Value.Size a b) = eqb (shape k) 4
is_of k id (Value.Dates v) = eqb (shape k) 5

abbrev pub fitted : Kind → ℕ → Value → Fitted
fitted k id v = pick (is_of k id v) (from_value v) (lacks Fault.Field 0)

-- what is to be written, or the refusal: "1, then 41 or 42, then 40, then 43, then 20"
pub data Putting : Type 0 where
  write : List ℕ → Putting
  deny : Outcome → Putting

unfoldable pub if_room : ℕ → List ℕ → Putting
if_room room bs = pick (leb (length bs) room) (write bs) (deny (Err (At Fault.Room 0)))

abbrev pub plan_data : Format Data → ℕ → Fitted → Putting
plan_data a room (holds d) = if_room room (a.write d)
plan_data a room (lacks c p) = deny (Err (Given c p))

unfoldable pub plan_kind : Kind → ℕ → Value → ℕ → Putting
plan_kind k id v room = plan_data (data_of k) room (fitted k id v)

abbrev pub plan_row : Row → ℕ → Value → ℕ → Putting
plan_row (Ok k) id v room = plan_kind k id v room
plan_row (Err why) id v room = deny (in_given (Err why))

abbrev pub plan_edition : Edition → ℕ → Value → ℕ → Putting
plan_edition (Some p) id v room = plan_row (row_of p id) id v room
plan_edition None id v room = deny (Err (At Fault.Edition 0))

unfoldable pub putting : ℕ → ℕ → Value → ℕ → Putting
putting edition id v room = plan_edition (edition_of edition) id v room

-- the answer, "the bytes written", and the buffer, "touching no byte past the data"
unfoldable pub put_says : Putting → Outcome
put_says (write bs) = Ok (length bs)
put_says (deny o) = o

unfoldable pub put_leaves : List ℕ → Putting → List ℕ
put_leaves buf (write bs) = bs ++ drop (length bs) buf
put_leaves buf (deny o) = buf

-- what a plan is to the answer and the buffer
abbrev pub Puts : List ℕ → Putting → Outcome → List ℕ → Type 0
Puts xs p r ys = (r ≡ put_says p) × (ys ≡ put_leaves xs p)

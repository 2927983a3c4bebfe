-- A value that is given as a table of numbers, its case and then what it holds: docs/DECISIONS.md, 51 and 52.
use Rattle.std.specs.Prelude.{ℕ, ◌^◌, Bool, ◌&&◌, List, leb, ltb, eqb, length, get_or}
use Rattle.std.specs.Float.{binary64}
use Rattle.std.specs.Float.Ieee.{of_bits}
use Rattle.format.specs.Format.{pick}
use Rattle.value.specs.declared.Span.{Span}
use Rattle.value.specs.declared.Value.{Value}
use Rattle.value.specs.declared.Value.TheVariants.{Marker, Simple, Size, Dates, Words}
use Rattle.lent.specs.Lent.{value_width}

-- a word list has no way back, whatever its count: it stands for every table that says no value
abbrev pub no_value : Value
no_value = Words 0

-- an identifier or a size has 32 bits
abbrev pub narrow : ℕ → Bool
narrow n = ltb n (2 ^ 32)

-- a flag is 0 or 1
abbrev pub is_flag : ℕ → Bool
is_flag n = leb n 1

abbrev pub span_from : ℕ → ℕ → ℕ → ℕ → Span
span_from starts ends after before = record { starts = eqb starts 1; ends = eqb ends 1; after = of_bits binary64 after; before = of_bits binary64 before }

-- of each case, by the numbers that it looks at
unfoldable pub by_simple : ℕ → Value
by_simple id = pick (narrow id) (Simple id) no_value

unfoldable pub by_size : ℕ → ℕ → Value
by_size minimum maximum = pick (narrow minimum && narrow maximum) (Size minimum maximum) no_value

unfoldable pub by_dates : ℕ → ℕ → ℕ → ℕ → Value
by_dates starts ends after before = pick (is_flag starts && is_flag ends) (Dates (span_from starts ends after before)) no_value

unfoldable pub by_case : ℕ → ℕ → ℕ → ℕ → ℕ → Value
by_case n x y a b = pick (eqb n 0) Marker (pick (eqb n 1) (by_simple x) (pick (eqb n 2) (by_size x y) (pick (eqb n 3) (by_dates x y a b) no_value)))

-- the value that a table says; numbers past the fifth are not looked at
unfoldable pub value_from : List ℕ → Value
value_from t = pick (leb value_width (length t)) (by_case (get_or t 0 0) (get_or t 1 0) (get_or t 2 0) (get_or t 3 0) (get_or t 4 0)) no_value

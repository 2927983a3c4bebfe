-- A result that is more than a place goes into a lent table of numbers: docs/DECISIONS.md, 51.
use Rattle.std.specs.Prelude.{ℕ, ◌≡◌, List, leb, length, Ok, Err}
use Rattle.format.specs.declared.Fault.TheVariants as Fault
use Rattle.format.specs.Answers.{Outcome}
use Rattle.format.specs.declared.Refusal.TheVariants.{At}
use Rattle.format.specs.Fault.{Said}
use Rattle.format.specs.Format.{pick}
use Rattle.buffer.specs.Laid.{put}

-- the numbers of each table: an identifier's row and role; a rule's fixed fields; a view's first byte, bytes and form; year, month, day, second; a value
abbrev pub kind_width : ℕ
kind_width = 2

abbrev pub fields_width : ℕ
fields_width = 6

abbrev pub part_width : ℕ
part_width = 3

abbrev pub moment_width : ℕ
moment_width = 4

abbrev pub value_width : ℕ
value_width = 5

-- what a call answers that has a table of so many numbers to fill: 14 at 0 where it is too small, "14 last"
unfoldable pub lent_says : ℕ → ℕ → Said → Outcome
lent_says width room (Ok n, vs) = pick (leb width room) (Ok n) (Err (At Fault.Table 0))
lent_says width room (Err why, vs) = Err why

-- the table at exit, filled from its start: "Later entries stay as they were"
unfoldable pub lent_leaves : ℕ → List ℕ → Said → List ℕ
lent_leaves width t (Ok n, vs) = pick (leb width (length t)) (put t 0 vs) t
lent_leaves width t (Err why, vs) = t

-- the promise of every call with such a table: the answer and every number
abbrev pub Lends : ℕ → List ℕ → Said → Outcome → List ℕ → Type 0
Lends width t x r t' = (r ≡ lent_says width (length t) x) × (t' ≡ lent_leaves width t x)

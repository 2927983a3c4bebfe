-- Every refusal is one of document 01's table, "Numbers a refusal gives": by a number that its call may give, at the place that its row has.
-- Of a place that is a field's (3, 6 to 13 and 29), only that it is at most 60,000.
use Rattle.std.specs.Prelude.{ℕ, ◌+◌, ◌≤◌, ◌≡◌, Bool, true, false, ◌&&◌, ◌||◌, List, [], ◌∷◌, leb, eqb, Ok, Err}
use Rattle.format.specs.declared.Fault.{Fault}
use Rattle.format.specs.Answers.{Outcome}
use Rattle.format.specs.declared.Refusal.TheVariants.{At, Given}
use Rattle.format.specs.Fault.{number_of}
use Rattle.format.specs.ReadWrite.{within}

-- the table, in its order: number, when, and its place
abbrev pub Listed : Fault → ℕ → Type 0
-- 1, edition not 1 or 2: 0
Listed Fault.Edition q = q ≡ 0
-- 2, deck over 60,000 bytes: 60000
Listed Fault.Long q = q ≡ 60000
-- 3, a field runs past the end: its start
Listed Fault.Cut q = q ≤ 60000
-- 4 / 5, mark / version wrong: 0 / 3
Listed Fault.Mark q = q ≡ 0
Listed Fault.Version q = q ≡ 3
-- 6, count of rules, elements or words outside its range: the count
Listed Fault.Count q = q ≤ 60000
-- 7, over 255 units (document 02, W5): the String
Listed Fault.Form q = q ≤ 60000
-- 8, any other field with a set value (Enabled, flags, heads, 8001, constants) differs: the field
Listed Fault.Field q = q ≤ 60000
-- 9, identifier not among the 35: the identifier
Listed Fault.Unknown q = q ≤ 60000
-- 10, among the 35, not in this edition: the identifier
Listed Fault.Foreign q = q ≤ 60000
-- 11, date out of range: the date
Listed Fault.Date q = q ≤ 60000
-- 12, Data Size wrong: its field
Listed Fault.Size q = q ≤ 60000
-- 13, bytes left over: first of them
Listed Fault.Over q = q ≤ 60000
-- 14, rule table / element table too small: 0 / 1
Listed Fault.Table q = q ≤ 1
-- 15, stated length beyond the buffer: 0
Listed Fault.Stated q = q ≡ 0
-- 16, no rule k or place k / no rule j: 0 / 1; for a view: no such rule / element / word, or no word list there: 0 / 1 / 2
Listed Fault.Absent q = q ≤ 2
-- 17, new name or word has an odd byte count or over 510 bytes: 0
Listed Fault.Text q = q ≡ 0
-- 18, result over 256 rules: 0
Listed Fault.Rules q = q ≡ 0
-- 19, result over 60,000 bytes: 0
Listed Fault.Large q = q ≡ 0
-- 20, result longer than the buffer: 0
Listed Fault.Room q = q ≡ 0
-- 21, rule has 64 elements, or list has 64 words: 0
Listed Fault.Full q = q ≡ 0
-- 22, no rule, or last element is no word list: 0
Listed Fault.Last q = q ≡ 0
-- document 02, W10: "29 for an offset that is not its rule's start, at that offset"
Listed Fault.Offset q = q ≤ 60000

-- the numbers that a call may give: from one to another at places up to a third, or one at one place
pub data Numbers : Type 0 where
  numbers : ℕ → ℕ → ℕ → Numbers
  exactly : ℕ → ℕ → Numbers

unfoldable pub allowed : List Numbers → ℕ → ℕ → Bool
allowed [] n q = false
allowed (numbers low high last ∷ rows) n q = (within low high n && leb q last) || allowed rows n q
allowed (exactly m o ∷ rows) n q = (eqb n m && eqb q o) || allowed rows n q

-- an answer, if it is a refusal, is one of the table: "34 to 45: 2 to 13 plus 32, the same fault", and so 61, at a place "there"
abbrev pub Lists : List Numbers → Outcome → Type 0
Lists rows (Ok n) = Unit {0}
Lists rows (Err (At c q)) = (allowed rows (number_of c) q ≡ true) × Listed c q
Lists rows (Err (Given c q)) = (allowed rows (number_of c + 32) q ≡ true) × Listed c q

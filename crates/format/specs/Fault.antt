-- The numbers of the refusals: document 01, "Numbers a refusal gives".
use Rattle.std.specs.Prelude.{ℕ, ◌+◌, ◌*◌, List, Result, Ok, Err}
use Rattle.format.specs.declared.Fault.{Fault}
use Rattle.format.specs.declared.Fault.TheVariants.{Edition, Long, Cut, Mark, Version, Count, Form, Field, Unknown, Foreign, Date, Size, Over, Table, Stated, Absent, Text, Rules, Large, Room, Full, Last, Offset}
use Rattle.format.specs.Answers.{Outcome}
use Rattle.format.specs.declared.Refusal.{Refusal}
use Rattle.format.specs.declared.Refusal.TheVariants.{At, Given}

abbrev pub number_of : Fault → ℕ
-- edition not 1 or 2
number_of Edition = 1
-- deck over 60,000 bytes
number_of Long = 2
-- a field runs past the end
number_of Cut = 3
-- mark wrong
number_of Mark = 4
-- version wrong
number_of Version = 5
-- count of rules, elements or words outside its range
number_of Count = 6
-- a String of over 255 units: document 02, W5
number_of Form = 7
-- any other field with a set value differs
number_of Field = 8
-- identifier not among the 35
number_of Unknown = 9
-- among the 35, not in this edition
number_of Foreign = 10
-- date out of range
number_of Date = 11
-- Data Size wrong
number_of Size = 12
-- bytes left over
number_of Over = 13
-- rule table / element table too small
number_of Table = 14
-- stated length beyond the buffer
number_of Stated = 15
-- no rule k or place k / no rule j; for a view: no such rule / element / word, or no word list there
number_of Absent = 16
-- new name or word has an odd byte count or over 510 bytes
number_of Text = 17
-- result over 256 rules
number_of Rules = 18
-- result over 60,000 bytes
number_of Large = 19
-- result longer than the buffer
number_of Room = 20
-- rule has 64 elements, or list has 64 words
number_of Full = 21
-- no rule, or last element is no word list
number_of Last = 22
-- an offset that is not its rule's start: document 02, W10
number_of Offset = 29

-- "the same fault in the second deck or in given element data"
abbrev pub in_given : {A : Type 0} → Result A Refusal → Result A Refusal
in_given (Ok x) = Ok x
in_given (Err (At c p)) = Err (Given c p)
in_given (Err (Given c p)) = Err (Given c p)

-- the number and the place that an outcome gives: "0 accepted", and "34 to 45: 2 to 13 plus 32"
abbrev pub code_of : Outcome → ℕ
code_of (Ok n) = 0
code_of (Err (At c p)) = number_of c
code_of (Err (Given c p)) = number_of c + 32

abbrev pub place_of : Outcome → ℕ
place_of (Ok n) = n
place_of (Err (At c p)) = p
place_of (Err (Given c p)) = p

-- "one 64-bit number, code plus 256 times place"
abbrev pub packed : Outcome → ℕ
packed o = code_of o + 256 * place_of o

-- what an answer that is an enum says: an outcome, for its number and place, and its values as numbers
abbrev pub Said : Type 0
Said = Outcome × List ℕ

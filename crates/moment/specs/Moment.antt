-- What a date says: document 01, "Dates".
use Rattle.std.specs.Prelude.{ℕ, ◌+◌, ◌-◌, ◌*◌, ◌/◌, ◌%◌, ◌≡◌, Bool, true, false, [], ◌∷◌, Ok, Err}
use Rattle.moment.specs.Answers.{Moment}
use Rattle.format.specs.declared.Refusal.TheVariants.{At}
use Rattle.format.specs.Fault.{Said}
use Rattle.format.specs.Format.{pick}
use Rattle.format.specs.declared.Fault.TheVariants as Fault
use Rattle.civil.specs.declared.Civil.{Civil}
use Rattle.civil.specs.Calendar.{Valid, day_of}
use Rattle.date.specs.Double.{negative, size, day, accepted}

-- "days from 30 December 1899"
unfoldable pub origin : ℕ
origin = day_of (record { year = 1899; month = 12; day = 30 })

-- "The whole part, cut toward zero, gives the day"
abbrev pub whole_days : ℕ → ℕ
whole_days bits = size bits / day

unfoldable pub day_in : ℕ → ℕ
day_in bits = pick (negative bits) (origin - whole_days bits) (origin + whole_days bits)

-- "The size of the fraction, times 86,400 and cut down to a whole number, gives the second of the day"
unfoldable pub second_in : ℕ → ℕ
second_in bits = size bits % day * 86400 / day

-- the answer as document 01 has it: year, month, day, and the second of the day
abbrev pub moment_says : Moment → Said
moment_says (Ok (c, second)) = (Ok 0, c.year ∷ c.month ∷ c.day ∷ second ∷ [])
moment_says (Err why) = (Err why, [])

-- of a date, what the calendar has for its day, and its second; "a lone date answers 11 at 0"
abbrev pub SaysBy : Bool → ℕ → Said → Type 0
SaysBy true bits x = (c : Civil) × ((Valid c × (day_of c ≡ day_in bits)) × (x ≡ moment_says (Ok (c, second_in bits))))
SaysBy false bits x = x ≡ moment_says (Err (At Fault.Date 0))

unfoldable pub Says : ℕ → Moment → Type 0
Says bits r = SaysBy (accepted bits) bits (moment_says r)

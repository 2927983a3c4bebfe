-- What a date says goes into a lent table of numbers: docs/DECISIONS.md, 51.
use Rattle.std.specs.Prelude.{ℕ, List}
use Rattle.format.specs.Answers.{Outcome}
use Rattle.format.specs.Fault.{Said}
use Rattle.date.specs.Double.{accepted}
use Rattle.moment.specs.Moment.{SaysBy}
use Rattle.lent.specs.Lent.{moment_width, Lends}

-- the promise, of what the calendar has for the date
abbrev pub LendsMoment : ℕ → List ℕ → Outcome → List ℕ → Type 0
LendsMoment bits t r t' = (x : Said) × (SaysBy (accepted bits) bits x × Lends moment_width t x r t')

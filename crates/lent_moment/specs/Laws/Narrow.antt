-- What a date says fits a table of 32-bit numbers.
use Rattle.std.specs.Prelude.{ℕ, ◌-◌, ◌^◌, ◌<◌, Ok}
use Rattle.std.proofs.Common.{arith}
use Rattle.civil.specs.declared.Civil.{Civil}
use Rattle.civil.specs.Calendar.{day_of}
use Rattle.civil.specs.Laws.Steps.{years_least}
use Rattle.moment.specs.Moment.{Says}
use Rattle.moment.specs.Laws.One.{Shown, says_shown}
use Rattle.moment.proofs.Shift.{second_small, day_small}

-- a date's numbers have 32 bits
pub record Narrow (c : Civil) (second : ℕ) : Type 0 where
  pub year : c.year < 2 ^ 32
  pub month : c.month < 2 ^ 32
  pub day : c.day < 2 ^ 32
  pub of_day : second < 2 ^ 32

pub moment_narrow : (bits : ℕ) (c : Civil) (second : ℕ) → Says bits (Ok (c, second)) → Narrow c second
unfolding day_of
moment_narrow bits c second s =
    let f : Shown bits c second = says_shown bits c second s in
    let d = day_small bits f.date in
    let y = years_least (c.year - 100) in
    let n = second_small bits in
    record { year = omega (arith, f.on_day, d, y); month = omega (arith, f.valid.month_high); day = omega (arith, f.on_day, d); of_day = omega (arith, f.at, n) }

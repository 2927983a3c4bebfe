-- The civil calendar: document 01, "Dates": "the Gregorian leap rule, carried back as well".
use Rattle.std.specs.Prelude.{ℕ, zero, suc, ◌+◌, ◌-◌, ◌%◌, ◌≤◌, Bool, true, false, not, ◌&&◌, ◌||◌, List, [], ◌∷◌, eqb, get_or}
use Rattle.civil.specs.declared.Civil.{Civil}

-- every fourth year, but of the hundreds only every fourth
unfoldable pub leap : ℕ → Bool
leap y = (eqb (y % 4) 0 && not (eqb (y % 100) 0)) || eqb (y % 400) 0

-- "Month lengths come from a table with a plain row and a leap row"
abbrev pub lengths : Bool → List ℕ
lengths false = 31 ∷ 28 ∷ 31 ∷ 30 ∷ 31 ∷ 30 ∷ 31 ∷ 31 ∷ 30 ∷ 31 ∷ 30 ∷ 31 ∷ []
lengths true = 31 ∷ 29 ∷ 31 ∷ 30 ∷ 31 ∷ 30 ∷ 31 ∷ 31 ∷ 30 ∷ 31 ∷ 30 ∷ 31 ∷ []

-- the days of a year's month, January being month 0, and of its first m months
abbrev pub month_days : ℕ → ℕ → ℕ
month_days y m = get_or (lengths (leap y)) m 0

unfoldable pub months_days : ℕ → ℕ → ℕ
months_days y zero = 0
months_days y (suc m) = months_days y m + month_days y m

-- the days of a year, and of the k years from 100 on
abbrev pub year_days : ℕ → ℕ
year_days y = months_days y 12

unfoldable pub years_days : ℕ → ℕ
years_days zero = 0
years_days (suc k) = years_days k + year_days (100 + k)

-- a date that the calendar has, from the year 100 on
pub record Valid (c : Civil) : Type 0 where
  pub year : 100 ≤ c.year
  pub month_low : 1 ≤ c.month
  pub month_high : c.month ≤ 12
  pub day_low : 1 ≤ c.day
  pub day_high : c.day ≤ month_days c.year (c.month - 1)

-- the number of a date's day: how many days lie between 1 January 100 and it
unfoldable pub day_of : Civil → ℕ
day_of c = years_days (c.year - 100) + months_days c.year (c.month - 1) + (c.day - 1)

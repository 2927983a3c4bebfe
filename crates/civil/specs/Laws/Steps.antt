-- Running sums of lengths, of years and of months alike, and where a day falls in one. Assumes nothing.
use Rattle.std.specs.Prelude.{ℕ, zero, suc, ◌+◌, ◌-◌, ◌*◌, ◌≤◌, ◌<◌, ◌≡◌, refl, Bool, true, false, get_or}
use Rattle.std.proofs.Common.{zero-add, lt_of_not-le, not-le_of_lt, add-one, arith, ap, lit≤}
use Rattle.civil.specs.Calendar.{leap, lengths, month_days, months_days, year_days, years_days}

-- s adds up the lengths f
pub record Sums (s f : ℕ → ℕ) : Type 0 where
  pub none : s 0 ≡ 0
  pub next : (k : ℕ) → s (k + 1) ≡ s k + f k

-- n days are k whole lengths, and some left of the next
pub record Splits (s f : ℕ → ℕ) (n k left : ℕ) : Type 0 where
  pub sum : s k + left ≡ n
  pub inside : left < f k

up : {s f : ℕ → ℕ} → Sums s f → (i d : ℕ) → s i ≤ s (d + i)
up {s} h i zero = let e : s (zero + i) ≡ s i = ap s (zero-add i) in omega (arith, e)
up {s} h i (suc d) = let e : s (suc d + i) ≡ s (d + i + 1) = ap s (omega arith) in omega (arith, e, h.next (d + i), up h i d)

pub rises : {s f : ℕ → ℕ} → Sums s f → (i j : ℕ) → i ≤ j → s i ≤ s j
rises {s} h i j l = let e : s (j - i + i) ≡ s j = ap s (omega arith) in omega (arith, e, up h i (j - i))

-- a smaller sum has fewer lengths
pub fewer : {s f : ℕ → ℕ} → Sums s f → (i j : ℕ) → s i < s j → i < j
fewer h i j l = lt_of_not-le (λ g. not-le_of_lt l (rises h j i g))

-- a day falls in one place only
pub placed : {s f : ℕ → ℕ} → Sums s f → (n i l j m : ℕ) → Splits s f n i l → Splits s f n j m → i ≡ j
placed {s} {f} h n i l j m a b = omega (arith, under i l j m a b, under j m i l b a)
  where
    under : (i l j m : ℕ) → Splits s f n i l → Splits s f n j m → i < j + 1
    under i l j m a b = fewer h i (j + 1) (omega (arith, h.next j, a.sum, b.sum, b.inside))

-- one length more is taken from the days that are left
pub turn : {s f : ℕ → ℕ} → Sums s f → (n k left d : ℕ) → s k + left ≡ n → d ≡ f k → d ≤ left → s (k + 1) + (left - d) ≡ n
turn h n k left d e is l = omega (arith, h.next k)

-- ---- the two sums
pub years : Sums years_days (λ k. year_days (100 + k))
unfolding years_days
years = record { none = refl; next = λ k. ap years_days (add-one k) }

pub months : (y : ℕ) → Sums (months_days y) (month_days y)
unfolding months_days
months y = record { none = refl; next = λ m. ap (months_days y) (add-one m) }

abbrev pub Years : ℕ → ℕ → ℕ → Type 0
Years = Splits years_days (λ k. year_days (100 + k))

abbrev pub Months : ℕ → ℕ → ℕ → ℕ → Type 0
Months y = Splits (months_days y) (month_days y)

-- the row of the lengths' table
abbrev pub row : Bool → ℕ
row false = 0
row true = 1

abbrev firsts : Bool → ℕ → ℕ
firsts b zero = 0
firsts b (suc m) = firsts b m + get_or (lengths b) m 0

-- a year has 365 days, and one more in its leap row
pub year_is : (y : ℕ) → year_days y ≡ 365 + row (leap y)
unfolding months_days
year_is y = go (leap y)
  where
    go : (b : Bool) → firsts b 12 ≡ 365 + row b
    go true = refl
    go false = refl

pub year_most : (y : ℕ) → year_days y ≤ 366
year_most y = omega (arith, year_is y, go (leap y))
  where
    go : (b : Bool) → row b ≤ 1
    go true = lit≤ tt
    go false = lit≤ tt

pub years_least : (k : ℕ) → 365 * k ≤ years_days k
years_least zero = omega (arith, years.none)
years_least (suc k) =
    let e : years_days (suc k) ≡ years_days (k + 1) = ap years_days (omega arith) in
    omega (arith, e, years.next k, year_is (100 + k), years_least k)

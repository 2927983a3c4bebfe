-- A date is a split of its day into years and months, so a day has one date. Assumes nothing.
use Rattle.std.specs.Prelude.{ℕ, ◌+◌, ◌-◌, ◌<◌, ◌≡◌, refl}
use Rattle.std.proofs.Common.{arith, sym, ap, subst}
use Rattle.civil.specs.declared.Civil.{Civil}
use Rattle.civil.specs.Calendar.{months_days, year_days, years_days, Valid, day_of}
use Rattle.civil.specs.Laws.Steps.{Years, Months, months, years, rises, placed}

abbrev on : ℕ → ℕ → ℕ → Civil
on y m d = record { year = y; month = m; day = d }

less_hundred : (k : ℕ) → 100 + k - 100 ≡ k
less_hundred k = omega arith

less_one : (m : ℕ) → m + 1 - 1 ≡ m
less_one m = omega arith

pub made : {n k l m d : ℕ} → Years n k l → Months (100 + k) l m d → m < 12 → Valid (on (100 + k) (m + 1) (d + 1)) × (day_of (on (100 + k) (m + 1) (d + 1)) ≡ n)
unfolding day_of
made {m = m} {d = d} a b h = (
  record {
    year = omega arith;
    month_low = omega arith;
    month_high = omega arith;
    day_low = omega arith;
    day_high = rw less_one (omega (arith, b.inside));
  },
  rw (less_hundred, less_one m, less_one d) (omega (arith, a.sum, b.sum)),
)

-- ---- the two splits of a date
abbrev in_year : Civil → ℕ
in_year c = months_days c.year (c.month - 1) + (c.day - 1)

in_months : (c : Civil) → Valid c → Months c.year (in_year c) (c.month - 1) (c.day - 1)
in_months c v = record { sum = refl; inside = omega (arith, v.day_low, v.day_high) }

in_years : (c : Civil) → Valid c → Years (day_of c) (c.year - 100) (in_year c)
unfolding day_of
in_years c v =
    let m = months c.year in
    let whole : year_days (100 + (c.year - 100)) ≡ year_days c.year = ap year_days (omega (arith, v.year)) in
    record {
      sum = omega arith;
      inside = omega (arith, whole, (in_months c v).inside, m.next (c.month - 1), rises m (c.month - 1 + 1) 12 (omega (arith, v.month_low, v.month_high)));
    }

-- a day falls in one year, then in one month of it
pub unique : (a b : Civil) → Valid a → Valid b → day_of a ≡ day_of b → a ≡ b
unique a b v w e =
    let s = subst (λ (n : ℕ). Years n (b.year - 100) (in_year b)) (sym e) (in_years b w) in
    let k : a.year - 100 ≡ b.year - 100 = placed years _ _ _ _ _ (in_years a v) s in
    let y : a.year ≡ b.year = omega (arith, v.year, w.year) in
    let l : in_year a ≡ in_year b = omega (arith, (in_years a v).sum, s.sum, ap years_days k) in
    let t = subst (λ (n : ℕ). Months a.year n (b.month - 1) (b.day - 1)) (sym l) (subst (λ (z : ℕ). Months z (in_year b) (b.month - 1) (b.day - 1)) (sym y) (in_months b w)) in
    let i : a.month - 1 ≡ b.month - 1 = placed (months a.year) _ _ _ _ _ (in_months a v) t in
    let m : a.month ≡ b.month = omega (arith, v.month_low, w.month_low) in
    let d : a.day ≡ b.day = omega (arith, t.sum, ap (months_days a.year) i, v.day_low, w.day_low) in
    let same : on a.year a.month a.day ≡ on b.year b.month b.day = rw (y, m, d) in
    same

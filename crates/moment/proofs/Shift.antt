-- Whole days and seconds by shifts on the 53 digits. Assumes nothing.
use Prim.Native.Nat.{ℕ, zero, suc, ◌+◌, ◌-◌, ◌*◌, ◌/◌, ◌%◌, ◌^◌, ◌≤◌, ◌<◌}
use native.Mathlib.Nat.{add-mul, one-mul, mul_assoc, mul_comm, mul-lt-mul_of_pos_right, mul-le-mul_left, mul-le-mul_right, mul-div-mul_right, div-eq_of_lt, div-lt_iff_lt-mul, div-add-mod', mod-eq_of_lt, mod-lt, mod-le}
use native.Mathlib.Nat.{lt_irrefl, lt_of_not-le, not-le_of_lt, lt_of_lt_of_le, lt_of_le_of_lt, le_trans, le_of_eq}
use native.Mathlib.Omega.{arith}
use mathlib.Core.Path.{◌≡◌, sym, ap, ◌∙◌, subst}
use mathlib.Core.Bool.{Bool, true, false}
use lib.Arith.{digits_mod}
use lib.Dec.{T, ltb, ltb→lt, lit<, lit≤}
use lib.Ieee.Fits.{and_r}
use lib.Pow.{pow_pos, pow-add, pow_mono, pow-lt}
use borrow.Author.Tests.{le-leb, lt-leb}
use Rattle.format.specs.Format.{pick}
use Rattle.date.specs.Double.{negative, exponent, digits, scaled, size, day, bound, accepted}
use Rattle.moment.specs.Laws.Moment.{origin_is}
use Rattle.moment.specs.Moment.{origin, whole_days, day_in, second_in}

-- ---- a day is 2 ^ k times the weight of a digit
day_pos : 0 < day
unfolding day
day_pos = pow_pos 1074

day_split : (k x : ℕ) → k + x ≡ 1074 → day ≡ 2 ^ k * 2 ^ x
unfolding day
day_split k x h = ap (λ (z : ℕ). 2 ^ z) (sym h) ∙ pow-add 2 k x

pow_in_day : (k : ℕ) → k ≤ 1074 → 2 ^ k ≤ day
unfolding day
pow_in_day k h = pow_mono h

leading : (e t : ℕ) → 0 < e → scaled e t ≡ (2 ^ 52 + t) * 2 ^ (e - 1)
leading zero t h = absurd (lt_irrefl 0 h)
leading (suc x) t h = ap (λ (z : ℕ). (2 ^ 52 + t) * 2 ^ z) (omega arith)

scaled_lt : (e t : ℕ) → t < 2 ^ 52 → scaled e t < 2 ^ (52 + e)
scaled_lt zero t h = h
scaled_lt (suc x) t h =
    let l : 2 ^ 52 + t < 2 ^ 53 = omega arith in
    let e : 52 + suc x ≡ 53 + x = omega arith in
    lt_of_lt_of_le (mul-lt-mul_of_pos_right l (pow_pos x)) (le_of_eq (sym (ap (λ (z : ℕ). 2 ^ z) e ∙ pow-add 2 53 x)))

-- ---- whole days
pub whole_none : (e t : ℕ) → t < 2 ^ 52 → e < 1023 → 0 ≡ scaled e t / day
whole_none e t h k = sym (div-eq_of_lt (lt_of_lt_of_le (scaled_lt e t h) (pow_in_day (52 + e) (omega arith))))

pub whole_shift : (e t : ℕ) → 1 ≤ e → e ≤ 1075 → (2 ^ 52 + t) / 2 ^ (1075 - e) ≡ scaled e t / day
whole_shift e t h k =
    sym (ap (λ (z : ℕ). z / day) (leading e t h)
    ∙ ap (λ (z : ℕ). (2 ^ 52 + t) * 2 ^ (e - 1) / z) (day_split (1075 - e) (e - 1) (omega arith))
    ∙ mul-div-mul_right (2 ^ 52 + t) (2 ^ (1075 - e)) (pow_pos (e - 1)))

-- ---- the second
mod_scale : (q m p : ℕ) → 0 < m → 0 < p → q * p % (m * p) ≡ q % m * p
mod_scale q m p M P =
    ap (λ (z : ℕ). z * p % (m * p)) (sym (div-add-mod' q m))
    ∙ ap (λ (z : ℕ). z % (m * p)) (add-mul (q / m * m) (q % m) p ∙ ap (λ (z : ℕ). z + q % m * p) (mul_assoc (q / m) m p))
    ∙ digits_mod (q / m) (mul-lt-mul_of_pos_right (mod-lt q M) P)

rest_at : (q k x : ℕ) → k + x ≡ 1074 → q * 2 ^ x % day ≡ q % 2 ^ k * 2 ^ x
rest_at q k x h = ap (λ (z : ℕ). q * 2 ^ x % z) (day_split k x h) ∙ mod_scale q (2 ^ k) (2 ^ x) (pow_pos k) (pow_pos x)

-- 86400 is 675 * 128
second_at : (f j x : ℕ) → j + (7 + x) ≡ 1074 → f * 2 ^ x * 86400 / day ≡ f * 675 / 2 ^ j
second_at f j x h =
    ap (λ (z : ℕ). f * 2 ^ x * 86400 / z) (day_split j (7 + x) h)
    ∙ ap (λ (z : ℕ). z / (2 ^ j * 2 ^ (7 + x))) (step (2 ^ x) (2 ^ (7 + x)) (pow-add 2 7 x))
    ∙ mul-div-mul_right (f * 675) (2 ^ j) (pow_pos (7 + x))
  where
    step : (p q : ℕ) → q ≡ 128 * p → f * p * 86400 ≡ f * 675 * q
    step p q e = sym (ap (λ (z : ℕ). f * 675 * z) e ∙ mul_assoc f 675 (128 * p) ∙ ap (λ (z : ℕ). f * z) (sym (mul_assoc 675 128 p) ∙ mul_comm 86400 p) ∙ sym (mul_assoc f p 86400))

pub second_shift : (e t : ℕ) → 1 ≤ e → e ≤ 1068 → (2 ^ 52 + t) % 2 ^ (1075 - e) * 675 / 2 ^ (1068 - e) ≡ scaled e t % day * 86400 / day
second_shift e t h k =
    let q = 2 ^ 52 + t in
    sym (ap (λ (z : ℕ). z % day * 86400 / day) (leading e t h)
    ∙ ap (λ (z : ℕ). z * 86400 / day) (rest_at q (1075 - e) (e - 1) (omega arith))
    ∙ second_at (q % 2 ^ (1075 - e)) (1068 - e) (e - 1) (omega arith))

-- 86400 is below 2 ^ 17
pub second_none : (e t : ℕ) → t < 2 ^ 52 → e < 1006 → 0 ≡ scaled e t % day * 86400 / day
second_none e t h k =
    sym (div-eq_of_lt
    (lt_of_lt_of_le (mul-lt-mul_of_pos_right (lt_of_le_of_lt (mod-le (scaled e t) day) (scaled_lt e t h)) (lit< tt))
    (le_trans (mul-le-mul_left (2 ^ (52 + e)) (lit≤ {m = 86400} {n = 2 ^ 17} tt))
    (le_trans (le_of_eq (sym (pow-add 2 (52 + e) 17))) (pow_in_day (52 + e + 17) (omega arith))))))

-- the digits of the fraction: all of them below one day, else those that the code's 2 ^ k cuts off
pub all_fraction : (q e p x : ℕ) → q ≡ p → e ≡ x → q < 2 ^ 53 → e < 1023 → q ≡ p % 2 ^ (1075 - x)
all_fraction q e p x a b h k = rw (sym a, sym b) (sym (mod-eq_of_lt (lt_of_lt_of_le h (pow_mono {i = 53} {j = 1075 - e} (omega arith)))))

shifted_one : (k : ℕ) → k < 64 → 1 * 2 ^ k % 2 ^ 64 ≡ 2 ^ k
shifted_one k h = ap (λ (z : ℕ). z % 2 ^ 64) (one-mul (2 ^ k)) ∙ mod-eq_of_lt (pow-lt h)

pub shifted_pos : (e : ℕ) → 1023 ≤ e → 0 < 1 * 2 ^ (1075 - e) % 2 ^ 64
shifted_pos e h = rw (shifted_one (1075 - e) (omega arith)) (pow_pos (1075 - e))

pub cut_fraction : (q e p x : ℕ) → q ≡ p → e ≡ x → 1023 ≤ e → q % (1 * 2 ^ (1075 - e) % 2 ^ 64) ≡ p % 2 ^ (1075 - x)
cut_fraction q e p x a b h = rw (sym a, sym b, shifted_one (1075 - e) (omega arith))

-- ---- what is accepted is below its bound, and so is its exponent
below : (bits : ℕ) → accepted bits ≡ true → size bits < bound (negative bits) * day
below bits a = ltb→lt (size bits) (bound (negative bits) * day) (and_r (ltb (exponent bits) 2047) (ltb (size bits) (bound (negative bits) * day)) (subst T (sym a) tt))

whole_lt : (bits : ℕ) → accepted bits ≡ true → whole_days bits < bound (negative bits)
whole_lt bits a = (div-lt_iff_lt-mul day_pos).1 (below bits a)

bound_le : (s : Bool) → bound s ≤ 2958466
bound_le true = lit≤ tt
bound_le false = lit≤ tt

pub whole_small : (bits : ℕ) → accepted bits ≡ true → whole_days bits < 2958466
whole_small bits a = lt_of_lt_of_le (whole_lt bits a) (bound_le (negative bits))

big : (e t : ℕ) → 1045 ≤ e → 2 ^ 22 * day ≤ scaled e t
unfolding day
big e t h =
    le_trans (pow_mono {i = 1096} {j = 52 + (e - 1)} (omega arith))
    (le_trans (le_of_eq (pow-add 2 52 (e - 1)))
    (le_trans (mul-le-mul_right (2 ^ (e - 1)) (omega arith)) (le_of_eq (sym (leading e t (omega arith))))))

pub exponent_most : (bits : ℕ) → accepted bits ≡ true → exponent bits < 1045
exponent_most bits a =
    lt_of_not-le (λ h. not-le_of_lt (below bits a) (le_trans (mul-le-mul_right day (le_trans (bound_le (negative bits)) (lit≤ tt))) (big (exponent bits) (digits bits) h)))

-- ---- the day
pub whole_before : (bits : ℕ) → accepted bits ≡ true → 2 ^ 63 ≤ bits → whole_days bits < 657435
whole_before bits a h = subst (λ (s : Bool). whole_days bits < bound s) (le-leb (2 ^ 63) bits h) (whole_lt bits a)

pub day_before : (bits w : ℕ) → w ≡ whole_days bits → 2 ^ 63 ≤ bits → 657434 - w ≡ day_in bits
unfolding day_in pick
day_before bits w e h = rw (le-leb (2 ^ 63) bits h, origin_is, e)

pub day_after : (bits w : ℕ) → w ≡ whole_days bits → bits < 2 ^ 63 → 657434 + w ≡ day_in bits
unfolding day_in pick
day_after bits w e h = rw (lt-leb (2 ^ 63) bits h, origin_is, e)

-- ---- what a date says is small

pub second_small : (bits : ℕ) → second_in bits < 86400
unfolding second_in
second_small bits = (div-lt_iff_lt-mul day_pos).1 (rw (mul_comm 86400 day) (mul-lt-mul_of_pos_right (mod-lt (size bits) day_pos) (omega arith)))

pub day_small : (bits : ℕ) → accepted bits ≡ true → day_in bits < 3615900
unfolding day_in pick
day_small bits a = go (negative bits)
  where
    w : whole_days bits < 2958466
    w = whole_small bits a

    go : (b : Bool) → pick b (origin - whole_days bits) (origin + whole_days bits) < 3615900
    go true = omega (arith, origin_is, w)
    go false = omega (arith, origin_is, w)

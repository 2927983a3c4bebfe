-- The two float comparisons that the code makes say what `accepted` says over whole numbers. Assumes nothing.
use Prim.Native.Nat.{ℕ, zero, suc, ◌+◌, ◌*◌, ◌%◌, ◌^◌, ◌≤◌, ◌<◌}
use native.Mathlib.Nat.{mul-one, mul_right_comm, mul-lt-mul_of_pos_right, lt_of_mul-lt-mul_right, mul-pos}
use native.Mathlib.Omega.{arith}
use mathlib.Core.Path.{◌≡◌, refl, sym, ap, ap₂, ◌∙◌, subst}
use mathlib.Core.Bool.{Bool, true, false, not, ◌&&◌, cond}
use lib.Dec.{T, ltb, eqb, ltb→lt, lt→ltb, eqb→eq, lit<}
use lib.IntN.{ℤ, pos}
use lib.Pow.{pow_pos}
use lib.Ieee.{Float, nan, inf, fin, binary64, lt, up, down, odd, of_bits, of_fields, nan_bits}
use lib.Ieee.Exact.{HasValue, odd_sign}
use lib.Ieee.Fits.{down_pos}
use lib.Ieee.Bits.{nan_bits_above}
use borrow.Author.Tests.{lt-ltb, le-ltb, eqb-false}
use Rattle.date.specs.Double.{negative, exponent, digits, scaled, day, bound, accepted}

-- what the code tests: above the lower end, and below the upper
abbrev above : Float → Bool
above x = lt (fin true 657435 (pos 0)) x

abbrev below : Float → Bool
below x = lt x (fin false 1479233 (pos 1))

same : (a b : Bool) → (T a → T b) → (T b → T a) → a ≡ b
same true true p q = refl
same true false p q = absurd (p tt)
same false true p q = absurd (q tt)
same false false p q = refl

and_true : (a : Bool) {b : Bool} → b ≡ true → (a && b) ≡ a
and_true true e = e
and_true false e = refl

-- M / D < n exactly when a / c < n, where the two are one number
cross : (M D a c n : ℕ) → 0 < c → 0 < D → M * c ≡ a * D → ltb (M * 1) (n * D) ≡ ltb a (n * c)
cross M D a c n C P e =
    same (ltb (M * 1) (n * D)) (ltb a (n * c))
    (λ t.
    let m : M < n * D = rw mul-one at (ltb→lt (M * 1) (n * D) t) in
    let l : a * D < n * c * D = rw (e, mul_right_comm) at (mul-lt-mul_of_pos_right m C) in
    lt→ltb a (n * c) (lt_of_mul-lt-mul_right D l))
    (λ t.
    let m : a * D < n * c * D = mul-lt-mul_of_pos_right (ltb→lt a (n * c) t) P in
    let l : M * c < n * D * c = rw (e, mul_right_comm n D c) m in
    lt→ltb (M * 1) (n * D) (rw mul-one (lt_of_mul-lt-mul_right c l)))

room : (n : ℕ) (e : ℤ) → 0 < n → 0 < n * down e
room n e h = mul-pos h (down_pos e)

-- a double of the size a / c lies inside where the size is below the bound of its sign
inside_value : (x : Float) (s : Bool) (a c : ℕ) → 0 < c → HasValue x s a c → (above x && below x) ≡ ltb a (bound s * c)
unfolding lt
inside_value nan s a c C v = absurd v
inside_value (inf t) s a c C v = absurd v
inside_value (fin true m e) true a c C v =
    and_true (above (fin true m e)) (lt-ltb 0 (m * up e * 1 + 2958466 * down e) (omega (arith, room 2958466 e (lit< tt))))
    ∙ cross (m * up e) (down e) a c 657435 C (down_pos e) v.1
inside_value (fin true m e) false a c C v = absurd (subst T v.0 tt)
inside_value (fin false m e) true a c C v = absurd (subst T (sym v.0) tt)
inside_value (fin false m e) false a c C v =
    ap (λ (t : Bool). t && below (fin false m e)) (lt-ltb 0 (657435 * down e + m * up e * 1) (omega (arith, room 657435 e (lit< tt))))
    ∙ cross (m * up e) (down e) a c 2958466 C (down_pos e) v.1

inf_out : (s : Bool) → (above (inf s) && below (inf s)) ≡ false
unfolding lt
inf_out true = refl
inf_out false = refl

endless_out : (s b : Bool) → (above (cond b (inf s) nan) && below (cond b (inf s) nan)) ≡ false
unfolding lt
endless_out s true = inf_out s
endless_out s false = refl

-- exponent 0; exponent 2047; any other
fields : (s : Bool) (x t : ℕ) → x ≤ 2047 → (above (of_fields binary64 s x t) && below (of_fields binary64 s x t)) ≡ (ltb x 2047 && ltb (scaled x t) (bound s * day))
unfolding of_fields day
fields s zero t h = inside_value (odd 53 s t 0 1074) s t day (pow_pos 1074) (rw mul-one at (odd_sign 53 s t 0 1074))
fields s (suc x) t h = go (eqb (suc x) 2047) refl
  where
    go : (b : Bool) → eqb (suc x) 2047 ≡ b
        → (above (cond b (cond (eqb t 0) (inf s) nan) (odd 53 s (2 ^ 52 + t) x 1074)) && below (cond b (cond (eqb t 0) (inf s) nan) (odd 53 s (2 ^ 52 + t) x 1074)))
        ≡ (ltb (suc x) 2047 && ltb ((2 ^ 52 + t) * 2 ^ x) (bound s * day))
    go true e = endless_out s (eqb t 0) ∙ ap (λ (b : Bool). b && ltb ((2 ^ 52 + t) * 2 ^ x) (bound s * day)) (sym (le-ltb (suc x) 2047 (omega (arith, eqb→eq (suc x) 2047 (subst T (sym e) tt)))))
    go false e =
        inside_value (odd 53 s (2 ^ 52 + t) x 1074) s ((2 ^ 52 + t) * 2 ^ x) day (pow_pos 1074) (odd_sign 53 s (2 ^ 52 + t) x 1074)
        ∙ ap (λ (b : Bool). b && ltb ((2 ^ 52 + t) * 2 ^ x) (bound s * day)) (sym (lt-ltb (suc x) 2047 (omega (arith, eqb-false (suc x) 2047 e))))

pub in_range : (bits : ℕ) → (above (of_bits binary64 bits) && below (of_bits binary64 bits)) ≡ accepted bits
unfolding of_bits
in_range bits = fields (negative bits) (exponent bits) (digits bits) (omega arith)

-- what each way through the tests says
pub both : (bits : ℕ) (a b : Bool) → above (of_bits binary64 bits) ≡ a → below (of_bits binary64 bits) ≡ b → (a && b) ≡ accepted bits
both bits a b p q = sym (ap₂ (λ (x y : Bool). x && y) p q) ∙ in_range bits

pub too_low : (bits : ℕ) → above (of_bits binary64 bits) ≡ false → false ≡ accepted bits
too_low bits p = sym (ap (λ (x : Bool). x && below (of_bits binary64 bits)) p) ∙ in_range bits

-- above an infinity's bits are those of not-a-numbers, and no others
pub nan_out : (bits : ℕ) → 0x7FF0_0000_0000_0000 < bits % 2 ^ 63 → false ≡ accepted bits
nan_out bits h = sym (simp (le-ltb (exponent bits) 2047 (omega arith)))

pub no_nan : (bits : ℕ) → bits % 2 ^ 63 ≤ 0x7FF0_0000_0000_0000 → T (not (nan_bits binary64 bits))
no_nan bits h = rw (nan_bits_above, le-ltb 0x7FF0_0000_0000_0000 (bits % 2 ^ 63) h) tt

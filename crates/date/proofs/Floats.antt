-- A date as a float: the comparisons of a float say what `accepted` says of its bits, and no date is a not-a-number. Assumes nothing.
use Prim.Native.Nat.{ℕ, ◌%◌, ◌^◌, ◌≤◌, ◌<◌}
use native.Mathlib.Omega.{arith}
use mathlib.Core.Path.{◌≡◌, refl, sym, ap, ◌∙◌, subst}
use mathlib.Core.Bool.{Bool, true, false, not}
use lib.Dec.{T, ltb}
use lib.IntN.{pos}
use lib.Ieee.{Float, nan, inf, fin, binary64, lt, of_bits, to_bits, fits, is_nan, nan_bits}
use lib.Ieee.Bits.{of_bits-to_bits, to_bits-of_bits, nan_bits_is}
use borrow.Author.Tests.{ltb-true, ltb-false}
use Rattle.date.specs.Double.{accepted}
use Rattle.date.proofs.Range.{both, too_low, nan_out, no_nan}

-- a double that the code has is that of its bits, a not-a-number too
module _ (x : Float) (f : fits binary64 x ≡ true) where
  read_back : of_bits binary64 (to_bits binary64 x) ≡ x
  read_back = of_bits-to_bits binary64 x (subst T (sym f) tt)

  pub float_both : (t : Bool) → lt (fin true 657435 (pos 0)) x ≡ true → lt x (fin false 1479233 (pos 1)) ≡ t → t ≡ accepted (to_bits binary64 x)
  float_both t p q = both (to_bits binary64 x) true t (ap (lt (fin true 657435 (pos 0))) read_back ∙ p) (ap (λ (y : Float). lt y (fin false 1479233 (pos 1))) read_back ∙ q)

  pub float_low : lt (fin true 657435 (pos 0)) x ≡ false → false ≡ accepted (to_bits binary64 x)
  float_low p = too_low (to_bits binary64 x) (ap (lt (fin true 657435 (pos 0))) read_back ∙ p)

-- and the bits of a number are those of its double
pub bits_back : (bits : ℕ) → bits < 2 ^ 64 → T (not (nan_bits binary64 bits)) → to_bits binary64 (of_bits binary64 bits) ≡ bits
bits_back bits f n = to_bits-of_bits binary64 bits (omega arith) (subst (λ (b : Bool). T (not b)) (nan_bits_is binary64 bits) n)

-- a date is a number, by its bits and as a float
pub date_no_nan : (bits : ℕ) → accepted bits ≡ true → T (not (nan_bits binary64 bits))
date_no_nan bits h = no_nan bits (go (ltb 0x7FF0_0000_0000_0000 (bits % 2 ^ 63)) refl)
  where
    go : (b : Bool) → ltb 0x7FF0_0000_0000_0000 (bits % 2 ^ 63) ≡ b → bits % 2 ^ 63 ≤ 0x7FF0_0000_0000_0000
    go true e = absurd (let z : ◌≡◌ {A = ℕ} 0 1 = (let w = nan_out bits (ltb-true 0x7FF0_0000_0000_0000 (bits % 2 ^ 63) e) ∙ h in cc) in omega arith)
    go false e = ltb-false 0x7FF0_0000_0000_0000 (bits % 2 ^ 63) e

pub float_no_nan : (x : Float) → accepted (to_bits binary64 x) ≡ true → T (not (is_nan x))
unfolding is_nan to_bits
float_no_nan nan h = absurd (let z : ◌≡◌ {A = ℕ} 0 1 = cc in omega arith)
float_no_nan (inf s) h = tt
float_no_nan (fin s m e) h = tt

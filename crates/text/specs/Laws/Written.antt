-- Which lengths and Strings fit, and how many bytes they are written in. All but what is said of a deck's holds for a unit of any width.
use Rattle.std.specs.Prelude.{ℕ, ◌+◌, ◌*◌, ◌≤◌, ◌≡◌, length}
use Rattle.std.proofs.Math.Nat.{mul-zero, mul-suc}
use Rattle.std.proofs.Common.{arith, ap, lit<, lit≤, leb-true, le-leb, eq-eqb, ne_eqb}
use Rattle.std.proofs.Math.Decide.{dec_lt}
use Rattle.std.proofs.Math.Path.{refl}
use mathlib.Core.List.{List, [], ◌∷◌, ◌++◌, append-nil}
use Rattle.std.proofs.Math.ListN.{length-append}
use Rattle.format.specs.Format.{pick, Format}
use Rattle.format.specs.ReadWrite.{pair_write, spelt, each_write, AllFit}
use Rattle.format.specs.Laws.ReadWrite.{length_spelt, length_before}
use Rattle.format.specs.Combinators.{pair, via, judged, seq, at_start, nothing, ◌then◌, number, fixed, each}
use Rattle.format.specs.Laws.Combinators.{ComputingFormats}
use Rattle.text.specs.declared.Form.{Form}
use Rattle.text.specs.declared.Form.TheVariants.{Short, Long}
use Rattle.text.specs.Length.{Length, long_length, length_behind}
use Rattle.text.specs.Text.{Text, length_of, string_length, string_of, word_of, unit, string, form_of}

-- ---- a length

-- its bytes
abbrev pub length_size : Form → ℕ
length_size Short = 1
length_size Long = 3

pub length_three : (form : Form) → length_size form ≤ 3
length_three Short = lit≤ tt
length_three Long = lit≤ tt

-- up to 254 units fit the short form, since FF says the long one, and up to 255 the long one
short_not : (n : ℕ) → string_length.Fit (Short, n) → n ≡ 255 → ⊥
unfolding string_length length_behind via pair pick
short_not n f e = let h = rw (eq-eqb n 255 e) at f.0.1 in let z : ◌≡◌ {A = ℕ} 3 1 = ap (λ (l : Length). length_size l.0) h.1 in omega arith

pub short_few : (n : ℕ) → string_length.Fit (Short, n) → n ≤ 254
unfolding string_length via pair number
short_few n f = let h = f.0.0 in let k = short_not n f in omega arith

pub fits_short : (n : ℕ) → n ≤ 254 → string_length.Fit (Short, n)
unfolding string_length length_behind via pair nothing number pick
fits_short n h = rw (ne_eqb n 255 (λ e. omega arith)) (((omega arith, (tt, refl)), refl))

pub fits_long : (n : ℕ) → n ≤ 255 → string_length.Fit (Long, n)
unfolding string_length length_behind long_length via pair judged number pick
fits_long n h = (((lit< tt, (((omega arith, le-leb n 255 h)), refl)), refl))

pub length_most : (l : Length) → string_length.Fit l → l.1 ≤ 255
unfolding string_length length_behind long_length via pair judged pick
length_most (Short, n) f = let h = short_few n f in omega arith
length_most (Long, n) f = leb-true n 255 f.0.1.0.1

pub length_size_lem : (l : Length) → string_length.Fit l → length (string_length.write l) ≡ length_size l.0
unfolding string_length length_behind long_length via pair pair_write judged nothing number pick
length_size_lem (Short, n) f = rw (ne_eqb n 255 (short_not n f)) (omega (arith, length_before 1 n []))
length_size_lem (Long, n) f = omega (arith, length_before 1 255 (spelt 2 n), length_spelt 2 n)

-- the shortest form
form_long : (n : ℕ) → n ≡ 255 → form_of n ≡ Long
unfolding form_of pick
form_long n e = rw e

form_short : (n : ℕ) → (n ≡ 255 → ⊥) → form_of n ≡ Short
unfolding form_of pick
form_short n h = rw (ne_eqb n 255 h)

pub length_255 : (n : ℕ) → n ≡ 255 → string_length.write (form_of n, n) ≡ spelt 3 0x00FFFF
unfolding string_length length_behind long_length via pair pair_write judged number pick spelt
length_255 n e = rw (form_long n e, e)

pub length_other : (n : ℕ) → (n ≡ 255 → ⊥) → string_length.write (form_of n, n) ≡ spelt 1 n
unfolding string_length length_behind via pair pair_write nothing number pick
length_other n h = rw (form_short n h, ne_eqb n 255 h) (append-nil (spelt 1 n))

pub length_fits : (n : ℕ) → n ≤ 255 → string_length.Fit (form_of n, n)
length_fits n h =
    elim (dec_lt n 255) [
      | yes l ↦ rw (form_short n (λ e. omega arith)) (fits_short n (omega arith))
      | no l ↦ rw (form_long n (omega arith)) (fits_long n h)
    ]

-- ---- a String: its length, then its units

module _ (unit : Format ℕ) where
  pub string_written : (t : Text) → (string_of unit).write t ≡ string_length.write (length_of t) ++ each_write (λ j. unit) 0 t.units
  unfolding string_of at_start via pair pair_write each
  string_written t = refl

  -- which Strings can be written
  pub string_fits : (t : Text) → (string_of unit).Fit t → string_length.Fit (length_of t) × AllFit (λ j. unit) 0 t.units
  unfolding string_of at_start via pair each
  string_fits t f = (f.0.0, f.0.1.1)

  pub fits_string : (t : Text) → string_length.Fit (length_of t) → AllFit (λ j. unit) 0 t.units → (string_of unit).Fit t
  unfolding string_of at_start via pair each
  fits_string t f g = ((f, (refl, g)), refl)

  pub word_fits : (t : Text) → (word_of unit).Fit t → (string_of unit).Fit t
  unfolding word_of ◌then◌ seq via pair
  word_fits t f = f.0.1

  pub fits_word : (t : Text) → (string_of unit).Fit t → (word_of unit).Fit t
  unfolding word_of ◌then◌ seq via pair fixed judged number
  fits_word t f = ((((lit< tt, refl), refl), f), refl)

  -- a word's 4 zero bytes before it
  pub word_written : (t : Text) → (word_of unit).write t ≡ spelt 4 0 ++ (string_of unit).write t
  unfolding word_of fixed ◌then◌ seq via judged pair pair_write number
  word_written t = refl

  pub word_length : (t : Text) → length ((word_of unit).write t) ≡ 4 + length ((string_of unit).write t)
  word_length t = omega (arith, ap length (word_written t), length_before 4 0 ((string_of unit).write t))

  -- units of w bytes each
  module _ (w : ℕ) (wide : (u : ℕ) → length (unit.write u) ≡ w) where
    units_long : (i : ℕ) (us : List ℕ) → length (each_write (λ j. unit) i us) ≡ w * length us
    unfolding each_write
    units_long i [] = omega (arith, mul-zero w)
    units_long i (u ∷ us) = omega (arith, length-append (unit.write u) (each_write (λ j. unit) (i + 1) us), wide u, units_long (i + 1) us, mul-suc w (length us))

    pub string_length_lem : (t : Text) → length ((string_of unit).write t) ≡ length (string_length.write (length_of t)) + w * length t.units
    string_length_lem t = omega (arith, ap length (string_written t), length-append (string_length.write (length_of t)) (each_write (λ j. unit) 0 t.units), units_long 0 t.units)

-- those of a deck
pub string_long : (t : Text) → length (string.write t) ≡ length (string_length.write (length_of t)) + 2 * length t.units
unfolding number
string_long t = string_length_lem unit 2 (length_spelt 2) t

-- ---- where a case is computed
unfoldable pub ComputingTexts : Type 0
unfolding ComputingFormats long_length length_behind string_length string_of
ComputingTexts = Unit {0}

-- A String as it is written from the bytes of its units.
use Rattle.std.specs.Prelude.{ℕ, ◌+◌, ◌*◌, ◌/◌, ◌%◌, ◌≤◌, ◌<◌, ◌≡◌, refl, Bool, true, false, ◌&&◌, List, [], ◌∷◌, ◌++◌, leb, eqb, length}
use Rattle.std.proofs.Common.{arith, length-append, le-leb, leb-true, eqb-true}
use Rattle.std.proofs.Math.Decide.{dec_lt}
use Rattle.std.proofs.lemmas.Bool.{lt-leb}
use Rattle.format.specs.Format.{Bytes, pick}
use Rattle.format.specs.ReadWrite.{spelt, each_write}
use Rattle.format.specs.Laws.ReadWrite.{length_spelt, length_before}
use Rattle.format.specs.Combinators.{number}
use Rattle.text.specs.Laws.Written.{string_written, length_255, length_other}
use Rattle.text.specs.Text.{string_length, string, form_of}
use Rattle.buffer.specs.Laid.{put_in}
use Rattle.buffer.specs.Laws.Laid.{put_out, put_both}
use Rattle.given.specs.Given.{is_text, units, text_of}

-- the length and the units
unfoldable pub text_bytes : List ℕ → List ℕ
text_bytes s = string_length.write (form_of (length s / 2), length s / 2) ++ s

-- how many bytes that is; 0 of over 510
unfoldable pub text_size : List ℕ → ℕ
text_size s = pick (leb (length s) 510) (length (text_bytes s)) 0

-- ---- bytes that are a text
text_parts : (s : List ℕ) → is_text s ≡ true → (length s % 2 ≡ 0) × (length s ≤ 510)
unfolding is_text
text_parts s e = go (eqb (length s % 2) 0) refl e
  where
    go : (b : Bool) → eqb (length s % 2) 0 ≡ b → (b && leb (length s) 510) ≡ true → (length s % 2 ≡ 0) × (length s ≤ 510)
    go true h k = (eqb-true (length s % 2) 0 h, leb-true (length s) 510 k)
    go false h k = absurd (let z : ◌≡◌ {A = ℕ} 0 1 = cc in omega arith)

pub text_size_lem : (s : List ℕ) → is_text s ≡ true → text_size s ≡ length (text_bytes s)
unfolding text_size pick
text_size_lem s e = rw (le-leb (length s) 510 (text_parts s e).1)

-- as many units as pairs of bytes, which are written as those bytes
units_are : (i : ℕ) (s : List ℕ) → Bytes s → length s % 2 ≡ 0 → (2 * length (units s) ≡ length s) × (each_write (λ j. number 2) i (units s) ≡ s)
unfolding units each_write number spelt Bytes
units_are i [] b e = (refl, refl)
units_are i (x ∷ []) b e = absurd (omega arith)
units_are i (x ∷ (y ∷ s)) b e =
    let w = units_are (i + 1) s b.1.1 (omega arith) in
    let l : (x + 256 * y) % 256 ≡ x = omega (arith, b.0, b.1.0) in
    let h : (x + 256 * y) / 256 ≡ y = omega (arith, b.0, b.1.0) in
    let g : y % 256 ≡ y = omega (arith, b.1.0) in
    (omega (arith, w.0), rw (l, h, g, w.1))

pub text_units : (s : List ℕ) → Bytes s → is_text s ≡ true → (2 * length (units s) ≡ length s) × (length (units s) ≤ 255)
text_units s b e = let t = text_parts s e in let u = (units_are 0 s b t.0).0 in (u, omega (arith, t.1))

pub text_is : (s : List ℕ) → Bytes s → is_text s ≡ true → text_bytes s ≡ string.write (text_of s)
unfolding text_bytes
text_is s b e =
    let u = units_are 0 s b (text_parts s e).0 in
    let n : length s / 2 ≡ length (units s) = omega (arith, u.0) in
    rw (string_written, n, u.1)

-- ---- as the code puts it
pub size_long : (s : List ℕ) → length s ≤ 510 → length s / 2 ≡ 255 → length s + 3 ≡ text_size s
unfolding text_size text_bytes pick
size_long s h e = rw (le-leb (length s) 510 h, length-append, length_255 (length s / 2) e, length_spelt) (omega arith)

pub size_short : (s : List ℕ) → length s ≤ 510 → (length s / 2 ≡ 255 → ⊥) → length s + 1 ≡ text_size s
unfolding text_size text_bytes pick
size_short s h e = rw (le-leb (length s) 510 h, length-append, length_other (length s / 2) e, length_spelt) (omega arith)

pub size_none : (s : List ℕ) → 510 < length s → 0 ≡ text_size s
unfolding text_size pick
size_none s h = rw (lt-leb (length s) 510 h)

-- a String is short
pub text_small : (s : List ℕ) → text_size s ≤ 513
text_small s =
    elim (dec_lt 510 (length s)) [
      | yes l ↦ omega (arith, size_none s l)
      | no l ↦ elim (dec_lt (length s / 2) 255) [
        | yes h ↦ omega (arith, size_short s (omega arith) (λ e. omega arith))
        | no h ↦ omega (arith, size_long s (omega arith) (omega arith))
      ]
    ]

pub text_long : (d : List ℕ) (at : ℕ) (s : List ℕ) {y : List ℕ} → length s / 2 ≡ 255 → y ≡ put_in d at (spelt 3 0x00FFFF ++ s) → y ≡ put_in d at (text_bytes s)
unfolding text_bytes
text_long d at s e h = rw (length_255 (length s / 2) e) h

pub text_short : (d : List ℕ) (at : ℕ) (s : List ℕ) {y : List ℕ} → (length s / 2 ≡ 255 → ⊥) → y ≡ put_in d at (spelt 1 (length s / 2) ++ s) → y ≡ put_in d at (text_bytes s)
unfolding text_bytes
text_short d at s e h = rw (length_other (length s / 2) e) h

module _ (d : List ℕ) (at k n : ℕ) (s : List ℕ) where
  pub behind_out : length d < at + (k + length s) → d ≡ put_in d at (spelt k n ++ s)
  behind_out h = put_out d at (spelt k n ++ s) (λ w. omega (arith, w, length_before k n s))

  pub behind_is : {y z : List ℕ} → y ≡ put_in d at (spelt k n) → z ≡ put_in y (at + k) s → at + (k + length s) ≤ length d → z ≡ put_in d at (spelt k n ++ s)
  behind_is e f h = let l = length_spelt k n in put_both d at (spelt k n) s e f (omega arith) (omega arith)

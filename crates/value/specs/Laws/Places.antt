-- Sound data by the places of their fields, as the code reads them.
use Rattle.std.specs.Prelude.{ℕ, ◌+◌, ◌<◌, ◌^◌, ◌≡◌, refl, Bool, List, eqb, get_or, Ok, Err, not, T}
use Rattle.std.proofs.Common.{arith, zero-add, sym, ◌∙◌, Fits}
use Rattle.std.proofs.Math.Path.{ap, ap₂}
use Rattle.std.proofs.Math.ListN.{length}
use borrow.Author.Tests.{eq-eqb, ne_eqb}
use Rattle.std.specs.Float.{binary64}
use Rattle.std.specs.Float.Ieee.{of_bits, nan_bits}
use Rattle.std.specs.Int.{w8, w32}
use Rattle.format.specs.declared.Fault.{Fault}
use Rattle.format.specs.Laws.Answers.{Read}
use Rattle.value.specs.Answers.{Valued}
use Rattle.format.specs.declared.Refusal.{Refusal}
use Rattle.format.specs.declared.Refusal.TheVariants.{Given}
use Rattle.format.specs.Format.{Answer, got, refused, Format, pick, whole}
use Rattle.format.specs.Laws.Format.{bytes_all}
use Rattle.format.specs.ReadWrite.{pair_write, spelt, bit}
use Rattle.format.specs.Laws.ReadWrite.{eqb_bit}
use Rattle.format.specs.Combinators.{pair, seq, ◌then◌, judged, via, number, fixed, flag}
use Rattle.format.specs.Fault.{in_given}
use Rattle.format.specs.Laws.Fault.{given_ok}
use Rattle.format.specs.Laws.Seen.{seen, told, told_got, itself, none, unlike}
use Rattle.date.proofs.Floats.{date_no_nan}
use Rattle.element.specs.Data.{Data, Limit, one_zero, limit, word_data, size_data, date_data, data_of, words_of, sizes_of, span_of}
use Rattle.element.specs.Laws.Data.{list_parts}
use Rattle.value.specs.Value.{floats, value_in, from_data, from_kind}
use Rattle.format.specs.Laws.Written.{Held}
use Rattle.format.specs.Laws.Back.{Where, back_got, back_no}
use Rattle.value.specs.Laws.Held.{held_read, held_first, held_second, held_via, held_then, seen_fit}
use Rattle.date.specs.Date.{date}
use Rattle.kind.specs.declared.Kind.{Kind}
use Rattle.value.specs.declared.Value.{Value}

-- whatever data stand at the start, v is the value that f has of them
abbrev pub Holds : Format Data → List ℕ → (Data → Value) → Valued → Type 0
Holds a s f v = Where a s 0 (λ d. Ok (f d)) v

-- ---- what a field's reader says

module _ (s : List ℕ) (at : ℕ) {r : Read} {v m : ℕ} (bs : (i : ℕ) → Fits w8 (get_or s i 0)) where
  pub number_fits : (k : ℕ) → r ≡ seen itself (number k) s at → r ≡ Ok (m, v) → v < 256 ^ k
  unfolding number
  number_fits k e h = seen_fit (number k) s at (bytes_all s bs) e h

  pub number_fits_4 : r ≡ seen itself (number 4) s at → r ≡ Ok (m, v) → Fits w32 v
  number_fits_4 e h = record { fits = number_fits 4 e h }

  pub date_floats : r ≡ seen itself date s at → r ≡ Ok (m, v) → T (not (nan_bits binary64 v))
  unfolding date judged
  date_floats e h = date_no_nan v (seen_fit date s at (bytes_all s bs) e h).1

-- ---- the fields of sound data

-- a field is not there, so no data are
pub holds_none : {B : Type 0} (g : B → ℕ) (b : Format B) (a : Format Data) (s : List ℕ) (at : ℕ) (f : Data → Value) (v : Valued) {r : Read} {why : Refusal}
    → ((d : Data) → Held a s 0 d → (y : B) × Held b s at y) → r ≡ seen g b s at → r ≡ Err why → Holds a s f v
unfolding Where
holds_none g b a s at f v part e h d x = back_no g b s at (part d x).1.1 e h

-- how long the fields are, whatever they hold
one_zero_long : 8 ≡ 0 + length (one_zero.write tt)
unfolding one_zero fixed ◌then◌ seq pair pair_write via judged number spelt
one_zero_long = refl

number_long : (at n : ℕ) → at + 4 ≡ at + length ((number 4).write n)
unfolding number spelt
number_long at n = refl

flag_long : (at : ℕ) (b : Bool) → at + 4 ≡ at + length (flag.write b)
unfolding flag via judged number spelt
flag_long at b = refl

zero_long : (at : ℕ) → at + 4 ≡ at + length ((fixed 4 0 Fault.Field).write tt)
unfolding fixed via judged number spelt
zero_long at = refl

limit_long : (at : ℕ) (l : Limit) → at + 16 ≡ at + length (limit.write l)
unfolding limit flag fixed date ◌then◌ seq pair pair_write via judged number spelt
limit_long at l = refl

-- one end of a date span: 16 bytes, the flag and the date
limit_parts : (s : List ℕ) (at : ℕ) {l : Limit} → Held limit s at l → Held flag s at l.set × Held date s (at + 8) l.at
unfolding limit seq
limit_parts s at {l} h =
    let z = held_second flag (λ b. fixed 4 0 Fault.Field then date) s at (at + 4) (held_via _ _ _ _ s at h) (flag_long at l.set) in
    (held_first _ _ s at (held_via _ _ _ _ s at h), held_then _ date s (at + 4) (at + 8) z (omega (arith, zero_long (at + 4))))

module _ (s : List ℕ) (d : Data) where
  pub words_number : Held word_data s 0 d → Held (number 4) s 0 (length (words_of d))
  words_number h = (list_parts s 0 d h.0 h.1).0

  pub sizes_numbers : Held size_data s 0 d → Held (number 4) s 8 (sizes_of d).0 × Held (number 4) s 12 (sizes_of d).1
  unfolding size_data seq
  sizes_numbers h =
      let g = held_then one_zero _ s 0 8 (held_via _ _ _ _ s 0 h) one_zero_long in
      (held_first _ _ s 8 g, held_second _ _ s 8 12 g (number_long 8 (sizes_of d).0))

  span_limits : Held date_data s 0 d → Held limit s 8 (span_of d).0 × Held limit s 24 (span_of d).1
  unfolding date_data seq
  span_limits h =
      let g = held_then one_zero _ s 0 8 (held_via _ _ _ _ s 0 h) one_zero_long in
      (held_first _ _ s 8 g, held_second _ _ s 8 24 g (limit_long 8 (span_of d).0))

  pub span_starts : Held date_data s 0 d → Held flag s 8 (span_of d).0.set × Held date s 16 (span_of d).0.at
  span_starts h = limit_parts s 8 (span_limits h).0

  pub span_ends : Held date_data s 0 d → Held flag s 24 (span_of d).1.set × Held date s 32 (span_of d).1.at
  span_ends h = limit_parts s 24 (span_limits h).1

-- ---- as the code reads them

module _ (s : List ℕ) {r : Read} {v m : ℕ} where
  number_is : (at : ℕ) {x : ℕ} → Held (number 4) s at x → r ≡ seen itself (number 4) s at → r ≡ Ok (m, v) → v ≡ x
  number_is at x e h = (back_got itself (number 4) s at x.1 e h).0

  flag_is : (at : ℕ) {b : Bool} → Held flag s at b → r ≡ seen bit flag s at → r ≡ Ok (m, v) → eqb v 1 ≡ b
  flag_is at {b} x e h = ap (λ (n : ℕ). eqb n 1) (back_got bit flag s at x.1 e h).0 ∙ eqb_bit b

  date_is : (at : ℕ) {x : ℕ} → Held date s at x → r ≡ seen itself date s at → r ≡ Ok (m, v) → of_bits binary64 v ≡ of_bits binary64 x
  date_is at x e h = ap (of_bits binary64) (back_got itself date s at x.1 e h).0

abbrev as_value : Value → Valued
as_value v = Ok v

module _ (s : List ℕ) {r : Read} {v m : ℕ} where
  pub words_are : r ≡ seen itself (number 4) s 0 → r ≡ Ok (m, v) → Holds word_data s (λ d. Value.Words (length (words_of d))) (Ok (Value.Words v))
  unfolding Where
  words_are e h d x = ap (λ (n : ℕ). as_value (Value.Words n)) (number_is s 0 (words_number s d x) e h)

  pub sizes_are : {q : Read} {w l : ℕ} → r ≡ seen itself (number 4) s 8 → r ≡ Ok (m, v) → q ≡ seen itself (number 4) s 12 → q ≡ Ok (l, w)
      → Holds size_data s (λ d. Value.Size (sizes_of d).0 (sizes_of d).1) (Ok (Value.Size v w))
  unfolding Where
  sizes_are e h f k d x = let p = sizes_numbers s d x in ap₂ (λ (a b : ℕ). as_value (Value.Size a b)) (number_is s 8 p.0 e h) (number_is s 12 p.1 f k)

pub span_is : (s : List ℕ) {f a g b : Read} {starts after ends before i j k l : ℕ} → f ≡ seen bit flag s 8 → f ≡ Ok (i, starts) → a ≡ seen itself date s 16 → a ≡ Ok (j, after)
    → g ≡ seen bit flag s 24 → g ≡ Ok (k, ends) → b ≡ seen itself date s 32 → b ≡ Ok (l, before)
    → Holds date_data s (λ d. Value.Dates (floats (span_of d))) (Ok (Value.Dates (record { starts = eqb starts 1; ends = eqb ends 1; after = of_bits binary64 after; before = of_bits binary64 before })))
unfolding Where
span_is s ef hf ea ha eg hg eb hb d x =
    let p = span_starts s d x in
    let q = span_ends s d x in
    rw (flag_is s 8 p.0 ef hf, date_is s 16 p.1 ea ha, flag_is s 24 q.0 eg hg, date_is s 32 q.1 eb hb)

-- ---- lone data, as the code judges them

refused_data : (k : Kind) (id n : ℕ) (a : Answer Data) {r u : Read} {why : Refusal} → r ≡ told 0 none a → u ≡ in_given r → u ≡ Err why → from_data k id (whole n a) ≡ Err why
unfolding told whole
refused_data k id n (got d m) e f h = unlike (f ∙ ap in_given e) h
refused_data k id n (refused c p) {why = why} e f h =
    let z : ◌≡◌ {A = Read} (Err why) (Err (Given c (0 + p))) = sym h ∙ f ∙ ap in_given e in
    let y : why ≡ Given c (0 + p) = cc in
    rw (y, zero-add) refl

module _ (k : Kind) (id : ℕ) (s : List ℕ) {r u : Read} {x : Valued} where
  pub value_no : {why : Refusal} → r ≡ seen none (data_of k) s 0 → u ≡ in_given r → u ≡ Err why → x ≡ Err why → x ≡ from_kind k id s
  unfolding from_kind seen
  value_no e f h o = o ∙ sym (refused_data k id (length s) ((data_of k).read s) e f h)

  module _ {q v : ℕ} where
    pub value_over : r ≡ seen none (data_of k) s 0 → u ≡ in_given r → u ≡ Ok (q, v) → (q ≡ length s → ⊥) → x ≡ Err (Given Fault.Over q) → x ≡ from_kind k id s
    unfolding from_kind seen whole pick
    value_over e f h w o =
        let i = told_got 0 none ((data_of k).read s) e (given_ok r f h) in
        let z : i.n ≡ q = omega (arith, i.ends) in
        o ∙ rw (i.is, z, ne_eqb q (length s) w)

    pub value_is : ((i : ℕ) → Fits w8 (get_or s i 0)) → r ≡ seen none (data_of k) s 0 → u ≡ in_given r → u ≡ Ok (q, v) → q ≡ length s → Holds (data_of k) s (value_in k id) x → x ≡ from_kind k id s
    unfolding from_kind seen whole pick Where
    value_is bs e f h w o =
        let i = told_got 0 none ((data_of k).read s) e (given_ok r f h) in
        let z : i.n ≡ length s = omega (arith, i.ends) in
        rw (i.is, eq-eqb i.n (length s) z) (o i.x (held_read (data_of k) s 0 (bytes_all s bs) i.is))

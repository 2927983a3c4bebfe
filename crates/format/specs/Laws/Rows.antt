-- Rows as the code reads them: one value after the other; a row of numbers, all at once.
use Prim.Native.Nat.{ℕ, zero, suc, ◌+◌, ◌-◌, ◌*◌, ◌≤◌, ◌<◌}
use Rattle.std.proofs.Math.Nat.{add-zero, mul-suc}
use Rattle.std.proofs.Common.{zero-add, add_assoc, mul-zero, ◌∙◌, le-leb, Ok, Err}
use native.Mathlib.Omega.{arith}
use Rattle.std.proofs.Math.Decide.{dec_lt}
use Rattle.std.specs.Prelude.{◌≡◌, length, take}
use Rattle.std.proofs.Math.Path.{refl, sym, ap}
use mathlib.Core.List.{List, [], ◌∷◌}
use Rattle.std.proofs.Math.ListN.{drop, length-drop}
use Rattle.std.proofs.Math.Seq.{drop-drop}
use Rattle.std.proofs.lemmas.Bool.{lt-leb}
use Rattle.format.specs.declared.Fault.TheVariants.{Cut}
use Rattle.format.specs.Laws.Answers.{Read}
use Rattle.format.specs.declared.Refusal.{Refusal}
use Rattle.format.specs.declared.Refusal.TheVariants.{At}
use Rattle.format.specs.Format.{Answer, got, refused, shift, mapped, and_then, pick, Format}
use Rattle.format.specs.Laws.Format.{went, mapped_got}
use Rattle.format.specs.ReadWrite.{number_read, value, each_read}
use Rattle.format.specs.Combinators.{number, pair, each, counted, listed}
use Rattle.format.specs.Laws.Seen.{told, seen, none, told_got, on_stop, told_shift, told_mapped, via_is}

-- of a row of n the i first are read: none is left; the next is refused; the next is read
module _ {A : Type 0} (h : List A → ℕ) (a : ℕ → Format A) (s : List ℕ) (n i at : ℕ) where
  rest_of : A → ℕ → Answer (List A)
  rest_of x m = mapped (λ xs. x ∷ xs) (each_read a (i + 1) (n - (i + 1)) (drop m (drop at s)))

  next : i < n → seen h (each a i (n - i)) s at ≡ told at h (and_then ((a i).read (drop at s)) rest_of)
  unfolding seen each each_read rest_of
  next l = let e : n - i ≡ suc (n - (i + 1)) = omega arith in ap (λ (k : ℕ). told at h (each_read a i k (drop at s))) e

  row_end : n ≤ i → seen h (each a i (n - i)) s at ≡ Ok (at, h [])
  unfolding seen each each_read told
  row_end l = let z : n - i ≡ 0 = omega arith in ap (λ (k : ℕ). told at h (each_read a i k (drop at s))) z ∙ rw add-zero

  row_stop : (g : A → ℕ) {r : Read} {why : Refusal} → i < n → r ≡ seen g (a i) s at → r ≡ Err why → r ≡ seen h (each a i (n - i)) s at
  unfolding seen
  row_stop g l e k = on_stop h ((a i).read (drop at s)) rest_of at g e k ∙ sym (next l)

  row_go : (g : A → ℕ) {r : Read} {v p : ℕ} → i < n → r ≡ seen g (a i) s at → r ≡ Ok (p, v)
      → (x : A) × ((v ≡ g x) × (seen (λ xs. h (x ∷ xs)) (each a (i + 1) (n - (i + 1))) s p ≡ seen h (each a i (n - i)) s at))
  unfolding seen each rest_of and_then
  row_go g {v = v} {p = p} l e k =
      let o = told_got at g ((a i).read (drop at s)) e k in
      let m = o.n in
      let tail : List ℕ → Answer (List A) = each_read a (i + 1) (n - (i + 1)) in
      let d : drop m (drop at s) ≡ drop p s = drop-drop m at s ∙ ap (λ (w : ℕ). drop w s) (sym o.ends) in (
        o.x,
        (
          o.tells,
          sym (next l ∙ ap (λ (q : Answer A). told at h (and_then q rest_of)) o.is ∙ told_shift at m h (rest_of o.x m) ∙ told_mapped (at + m) h (λ xs. o.x ∷ xs) (tail (drop m (drop at s)))
              ∙ ap (λ (w : ℕ). told w (λ xs. h (o.x ∷ xs)) (tail (drop m (drop at s)))) (sym o.ends) ∙ ap (λ (t : List ℕ). told p (λ xs. h (o.x ∷ xs)) (tail t)) d),
        ),
      )

-- nothing is told of the row
module _ {A : Type 0} (a : ℕ → Format A) (s : List ℕ) (n i at : ℕ) {whole : Read} where
  pub run_done : seen none (each a i (n - i)) s at ≡ whole → n ≤ i → Ok (at, 0) ≡ whole
  run_done w l = sym (row_end none a s n i at l) ∙ w

  pub run_stop : (g : A → ℕ) {r : Read} {why : Refusal} → seen none (each a i (n - i)) s at ≡ whole → i < n → r ≡ seen g (a i) s at → r ≡ Err why → r ≡ whole
  run_stop g w l e k = row_stop none a s n i at g l e k ∙ w

  pub run_go : (g : A → ℕ) {r : Read} {v p : ℕ} → seen none (each a i (n - i)) s at ≡ whole → i < n → r ≡ seen g (a i) s at → r ≡ Ok (p, v)
      → seen none (each a (i + 1) (n - (i + 1))) s p ≡ whole
  run_go g w l e k = (row_go none a s n i at g l e k).1.1 ∙ w

-- an answer that tells t more
abbrev pub added : ℕ → Read → Read
added t (Ok (m, v)) = Ok (m, t + v)
added t (Err why) = Err why

pub added_none : (r : Read) → added 0 r ≡ r
added_none (Ok (m, v)) = rw zero-add
added_none (Err why) = refl

pub added_twice : (t v : ℕ) (r : Read) → added t (added v r) ≡ added (t + v) r
added_twice t v (Ok (m, w)) = rw add_assoc
added_twice t v (Err why) = refl

pub told_added : {A : Type 0} (p v : ℕ) (h : A → ℕ) (q : Answer A) → told p (λ x. v + h x) q ≡ added v (told p h q)
unfolding told
told_added p v h (got x m) = refl
told_added p v h (refused c o) = refl

-- a number of them, then they
module _ {A : Type 0} (g : List A → ℕ) (l : Format ℕ) (a : ℕ → Format (List A)) (long : (n : ℕ) (xs : List A) → (a n).Fit xs → length xs ≡ n) (s : List ℕ) (at : ℕ) where
  pub counted_is : {r : Read} → r ≡ seen (λ p. g p.1) (pair l a) s at → r ≡ seen g (counted l a long) s at
  unfolding counted
  counted_is e = via_is g (pair l a) (λ p. p.1) _ _ s at e

pub listed_is : {A : Type 0} (g : List A → ℕ) (l : Format ℕ) (a : Format A) (s : List ℕ) (at : ℕ) {r : Read} → r ≡ seen (λ p. g p.1) (pair l (each (λ i. a) 0)) s at → r ≡ seen g (listed l a) s at
unfolding listed
listed_is g l a s at e = counted_is g l (each (λ i. a) 0) _ s at e

-- a row that was read has as many values as it was asked for
read_long : {A : Type 0} (a : ℕ → Format A) (i n : ℕ) (t : List ℕ) (xs : List A) (m : ℕ) → each_read a i n t ≡ got xs m → length xs ≡ n
unfolding each_read
read_long a i zero t xs m e = let z : xs ≡ [] = cc in rw z
read_long a i (suc n) t xs m e =
    let w = went ((a i).read t) (λ x k. mapped (λ xs. x ∷ xs) (each_read a (i + 1) n (drop k t))) xs m e in
    let v = mapped_got (λ xs. w.x ∷ xs) (each_read a (i + 1) n (drop w.n t)) xs w.j w.rest in
    rw v.1.1 (ap suc (read_long a (i + 1) n (drop w.n t) v.0 w.j v.1.0))

pub row_length : {A : Type 0} (a : ℕ → Format A) (i n : ℕ) (t : List ℕ) (xs : List A) (m : ℕ) → (each a i n).read t ≡ got xs m → length xs ≡ n
unfolding each
row_length a i n t xs m e = read_long a i n t xs m e

pub row_long : {A : Type 0} (a : ℕ → Format A) (i n : ℕ) (s : List ℕ) (at : ℕ) {r : Read} {v m : ℕ} → r ≡ seen none (each a i n) s at → r ≡ Ok (m, v) → Ok (m, n) ≡ seen length (each a i n) s at
unfolding seen each told
row_long a i n s at e h =
    let o = told_got at none (each_read a i n (drop at s)) e h in
    rw (o.is, read_long a i n (drop at s) o.x o.n o.is, ← o.ends)

-- n numbers of k bytes are there where k times n bytes are, and else they are cut
pub record NumberRow (k i n : ℕ) (t : List ℕ) : Type 0 where
  pub xs : List ℕ
  pub is : each_read (λ j. number k) i n t ≡ got xs (k * n)
  pub long : length xs ≡ n

pub record Short (k i n : ℕ) (t : List ℕ) : Type 0 where
  pub place : ℕ
  pub is : each_read (λ j. number k) i n t ≡ refused Cut place

module _ (k : ℕ) where
  pub number_there : (t : List ℕ) → k ≤ length t → (number k).read t ≡ got (value (take k t)) k
  unfolding number number_read pick
  number_there t h = rw (le-leb k (length t) h)

  pub number_cut : (t : List ℕ) → length t < k → (number k).read t ≡ refused Cut 0
  unfolding number number_read pick
  number_cut t h = rw (lt-leb k (length t) h)

  row_more : (i n : ℕ) (t : List ℕ) → k ≤ length t → k + k * n ≡ k * suc n → NumberRow k (i + 1) n (drop k t) → NumberRow k i (suc n) t
  unfolding each_read and_then mapped shift
  row_more i n t h e r =
      record { xs = value (take k t) ∷ r.xs; is = rw (number_there t h, r.is) (ap (λ (m : ℕ). got (value (take k t) ∷ r.xs) m) e); long = ap suc r.long }

  pub row_there : (i n : ℕ) (t : List ℕ) → k * n ≤ length t → NumberRow k i n t
  unfolding each_read
  row_there i zero t h = record { xs = []; is = rw mul-zero; long = refl }
  row_there i (suc n) t h = row_more i n t (omega (arith, mul-suc k n)) (omega (arith, mul-suc k n)) (row_there (i + 1) n (drop k t) (omega (arith, length-drop k t, mul-suc k n)))

  short_more : (i n : ℕ) (t : List ℕ) → k ≤ length t → Short k (i + 1) n (drop k t) → Short k i (suc n) t
  unfolding each_read and_then mapped shift
  short_more i n t h r = record { place = k + r.place; is = rw (number_there t h, r.is) }

  short_here : (i n : ℕ) (t : List ℕ) → length t < k → Short k i (suc n) t
  unfolding each_read and_then
  short_here i n t h = record { place = 0; is = rw (number_cut t h) }

  pub row_cut : (i n : ℕ) (t : List ℕ) → length t < k * n → Short k i n t
  row_cut i zero t h = absurd (omega arith)
  row_cut i (suc n) t h =
      elim (dec_lt (length t) k) [
        | yes l ↦ short_here i n t l
        | no l ↦ short_more i n t (omega arith) (row_cut (i + 1) n (drop k t) (omega (arith, length-drop k t, mul-suc k n)))
      ]

  module _ (s : List ℕ) (p n : ℕ) where
    pub number_row : k * n ≤ length s - p → Ok (p + k * n, n) ≡ seen length (each (λ i. number k) 0 n) s p
    unfolding seen each told
    number_row h = let r = row_there 0 n (drop p s) (omega (arith, length-drop p s)) in rw (r.is, r.long)

    pub row_no : length s - p < k * n → (q : ℕ) × (Err (At Cut q) ≡ seen length (each (λ i. number k) 0 n) s p)
    unfolding seen each told
    row_no h = let r = row_cut 0 n (drop p s) (omega (arith, length-drop p s)) in (p + r.place, rw r.is)

-- The combinators: formats made of formats. What each reads and writes is in ReadWrite.antt; back, forth, inside and spells are its laws.
use Prim.Native.Nat.{ℕ, ◌^◌, ◌<◌}
use Rattle.std.proofs.Common.{arith, ap, ◌∙◌}
use Rattle.std.specs.Prelude.{◌≡◌, refl, Bool, List, [], leb, eqb}
use Rattle.std.proofs.Math.Path.{sym, ap₂}
use Rattle.std.proofs.Math.ListN.{length}
use borrow.Author.Tests.{leb-true, eqb-true}
use Rattle.format.specs.declared.Fault.{Fault}
use Rattle.format.specs.declared.Fault.TheVariants.{Count, Field}
use Rattle.format.specs.Format.{got, mapped, end_of, Bytes, Format}
use Rattle.format.specs.Laws.Format.{end_mapped}
use Rattle.format.specs.ReadWrite.{pair_read, pair_write, PairFit, judge_of, JudgedFit, ViaFit, home, value, spelt, number_read, within, bit, each_read, each_write, EachFit, weighed, WeighedFit}
use Rattle.format.specs.Laws.ReadWrite.{pair_back, pair_forth, pair_inside, pair_spells, judged_back, judged_forth, judged_end, via_back, via_forth, start_back, start_forth, start_inside, nothing_forth, number_back, number_forth, number_inside, bytes_spelt, bit_eqb, each_back, each_forth, each_inside, each_spells, end_weighed, weighed_back, weighed_forth}

-- a value of a, then one of the format that it picks
unfoldable pub pair : {A B : Type 0} → (a : Format A) → (A → Format B) → Format (A × B)
pair a b = record { read = pair_read a b; write = pair_write a b; Fit = PairFit a b; back = pair_back a b; forth = pair_forth a b; inside = pair_inside a b; spells = pair_spells a b }

-- a value x of a where ok x, else the fault c at its start
unfoldable pub judged : {A : Type 0} → (A → Bool) → Fault → Format A → Format A
judged ok c a =
    record { read = λ s. judge_of ok c (a.read s); write = a.write; Fit = JudgedFit ok a; back = judged_back ok c a; forth = judged_forth ok c a; inside = λ s. omega (arith, judged_end ok c a (a.read s), a.inside s); spells = a.spells }

-- the values of a, in the guise of B's
unfoldable pub via : {A B : Type 0} → (a : Format A) (to : A → B) (from : B → A) → ((x : A) → a.Fit x → from (to x) ≡ x) → Format B
via a to from same =
    record { read = λ s. mapped to (a.read s); write = λ y. a.write (from y); Fit = ViaFit a to from; back = via_back a to from same; forth = via_forth a to from same; inside = λ s. rw end_mapped (a.inside s); spells = λ y. a.spells (from y) }

-- the values of a; every fault of a stands at its start
unfoldable pub at_start : {A : Type 0} → Format A → Format A
at_start a = record { read = λ s. home (a.read s); write = a.write; Fit = a.Fit; back = start_back a; forth = start_forth a; inside = start_inside a; spells = a.spells }

-- no bytes
unfoldable pub nothing : Format (Unit {0})
unfolding end_of Bytes
nothing = record { read = λ s. got tt 0; write = λ u. []; Fit = λ u. Unit {0}; back = λ x t f. refl; forth = nothing_forth; inside = λ s. omega arith; spells = λ u. tt }

-- a value of a, then one of b, whatever the first is
unfoldable pub seq : {A B : Type 0} → Format A → Format B → Format (A × B)
seq a b = pair a (λ x. b)

infixr 4 ◌then◌
-- what has no value, then a value of b
unfoldable pub ◌then◌ : {B : Type 0} → Format (Unit {0}) → Format B → Format B
◌then◌ a b = via (seq a b) (λ p. p.1) (λ y. (tt, y)) (λ p f. refl)

-- ---- numbers of k bytes, the lowest first; constants; a yes or no
unfoldable pub number : ℕ → Format ℕ
number k = record { read = number_read k; write = spelt k; Fit = λ x. x < 256 ^ k; back = number_back k; forth = number_forth k; inside = number_inside k; spells = bytes_spelt k }

-- the number v in k bytes, else the fault c: no value
unfoldable pub fixed : ℕ → ℕ → Fault → Format (Unit {0})
unfolding judged
fixed k v c = via (judged (λ y. eqb y v) c (number k)) (λ x. tt) (λ u. v) (λ x f. sym (eqb-true x v f.1))

-- given bytes, else the fault c
unfoldable pub bytes : List ℕ → Fault → Format (Unit {0})
bytes bs c = fixed (length bs) (value bs) c

-- a count of k bytes "outside its range" is 6
unfoldable pub count : ℕ → ℕ → ℕ → Format ℕ
count k low high = judged (within low high) Count (number k)

-- a yes or no: 4 bytes, 0 or 1
unfoldable pub flag : Format Bool
unfolding judged
flag = via (judged (λ n. leb n 1) Field (number 4)) (λ n. eqb n 1) bit (λ n f. bit_eqb n (leb-true n 1 f.1))

-- ---- values in a row, each by the format of its place in the row; and a number of them before them

-- k values from place i on: the one at place i by the format a i
unfoldable pub each : {A : Type 0} → (ℕ → Format A) → ℕ → ℕ → Format (List A)
each a i k = record { read = each_read a i k; write = each_write a i; Fit = EachFit a i k; back = each_back a i k; forth = each_forth a i k; inside = each_inside a i k; spells = each_spells a i }

-- a number, then a row of so many
unfoldable pub counted : {A : Type 0} (l : Format ℕ) (a : ℕ → Format (List A)) → ((n : ℕ) (xs : List A) → (a n).Fit xs → length xs ≡ n) → Format (List A)
unfolding pair
counted l a long = via (pair l a) (λ p. p.1) (λ xs. (length xs, xs)) (λ p f. ap (λ (n : ℕ). (n, p.1)) (long p.0 p.1 f.1))

-- a number, then so many values of one format
unfoldable pub listed : {A : Type 0} → Format ℕ → Format A → Format (List A)
unfolding each
listed l a = counted l (each (λ i. a) 0) (λ n xs f. f.0)

-- ---- a body behind the number of its bytes, which is judged after the body was read

-- a value and the number of its bytes
unfoldable pub measured : {A : Type 0} → Format A → Format (A × ℕ)
measured a = record { read = λ s. weighed (a.read s); write = λ p. a.write p.0; Fit = WeighedFit a; back = weighed_back a; forth = weighed_forth a; inside = λ s. rw end_weighed (a.inside s); spells = λ p. a.spells p.0 }

-- the number of a value's bytes, in four, then the value; a wrong number is the fault c, at the number, once the value was read
module _ {A : Type 0} (c : Fault) (a : Format A) where
  abbrev pub right_size : ℕ × (A × ℕ) → Bool
  right_size p = eqb p.0 p.1.1

  abbrev pub sized_pair : Format (ℕ × (A × ℕ))
  sized_pair = judged right_size c (pair (number 4) (λ n. measured a))

  abbrev pub with_size : A → ℕ × (A × ℕ)
  with_size x = (length (a.write x), (x, length (a.write x)))

  unfoldable pub sized : Format A
  unfolding judged pair measured
  sized = via sized_pair (λ p. p.1.0) with_size same
    where
      same : (p : ℕ × (A × ℕ)) → sized_pair.Fit p → with_size p.1.0 ≡ p
      same p f =
          let h : p.1.1 ≡ length (a.write p.1.0) = f.0.1.1 in
          let g : p.0 ≡ p.1.1 = eqb-true p.0 p.1.1 f.1 in
          ap₂ (λ (m n : ℕ). (m, (p.1.0, n))) (sym h ∙ sym g) (sym h)

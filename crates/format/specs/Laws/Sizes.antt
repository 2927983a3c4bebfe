-- A body behind its size, as the code reads it.
use Rattle.std.specs.Prelude.{ℕ, ◌+◌, ◌-◌, ◌≡◌, refl, Bool, List, drop, eqb, Ok, Err}
use Rattle.std.proofs.Math.Nat.{add_assoc, add-zero}
use Rattle.std.proofs.Common.{arith, sym, ◌∙◌, eqb-true, eq-eqb, ne_eqb}
use Rattle.std.proofs.Math.Path.{ap}
use Rattle.std.proofs.Math.Bool.{true, false}
use Rattle.std.proofs.Math.Seq.{drop-drop}
use Rattle.std.proofs.lemmas.Bool.{eqb-false}
use Rattle.format.specs.declared.Fault.{Fault}
use Rattle.format.specs.Laws.Answers.{Read}
use Rattle.format.specs.declared.Refusal.{Refusal}
use Rattle.format.specs.declared.Refusal.TheVariants.{At}
use Rattle.format.specs.Format.{got, shift, mapped, and_then, pick, Format}
use Rattle.format.specs.ReadWrite.{pair_read, judge_of, judge, weighed}
use Rattle.format.specs.Combinators.{pair, judged, via, number, sized, measured}
use Rattle.format.specs.Laws.Seen.{told, seen, itself, told_got, told_why}

-- z is the size of the j bytes behind p, as the code tests it: they end at q
right_size_lem : (p z q j : ℕ) (t : Bool) → q ≡ p + j → t ≡ eqb (p + z) q → t ≡ eqb z j
right_size_lem p z q j true e h = sym (eq-eqb z j (omega (arith, eqb-true (p + z) q (sym h))))
right_size_lem p z q j false e h = sym (ne_eqb z j (λ w. eqb-false (p + z) q (sym h) (omega arith)))

same_pick : {t t' : Bool} {v v' q q' : ℕ} (o : Read) → t ≡ t' → v ≡ v' → q ≡ q' → pick t (Ok (q, v)) o ≡ pick t' (Ok (q', v')) o
same_pick o a b c = rw (a, b, c)

-- r is what the size was read as, x the body behind it
module _ {A : Type 0} (g : A → ℕ) (c : Fault) (a : Format A) (s : List ℕ) (at : ℕ) where
  pub sized_stop : {r : Read} {why : Refusal} → r ≡ seen itself (number 4) s at → r ≡ Err why → r ≡ seen g (sized c a) s at
  unfolding seen sized via judged judge_of pair pair_read measured weighed and_then mapped shift told
  sized_stop e h = let i = told_why at itself ((number 4).read (drop at s)) e h in rw (i.is, ← i.ends) h

  pub sized_halt : {r x : Read} {z p : ℕ} {why : Refusal} → r ≡ seen itself (number 4) s at → r ≡ Ok (p, z) → x ≡ seen g a s p → x ≡ Err why → x ≡ seen g (sized c a) s at
  unfolding seen sized via judged judge_of pair pair_read measured weighed and_then mapped shift told
  sized_halt {p = p} e h f k =
      let i = told_got at itself ((number 4).read (drop at s)) e h in
      let j = told_why p g (a.read (drop p s)) f k in
      let l : p + j.o ≡ at + (i.n + j.o) = omega (arith, i.ends) in
      rw (i.is, drop-drop, ← i.ends, j.is, ← l, ← j.ends) k

  judged_size : (z n j : ℕ) (y : A) (t : Bool) → pick t (Ok (at + n + j, g y)) (Err (At c at)) ≡ told at g (mapped (λ (w : ℕ × (A × ℕ)). w.1.0) (judge c t (z, (y, j)) (n + j)))
  unfolding pick told mapped judge
  judged_size z n j y true = rw add_assoc
  judged_size z n j y false = rw add-zero

  whole_size : (z n j : ℕ) (y : A) → (number 4).read (drop at s) ≡ got z n → a.read (drop (at + n) s) ≡ got y j
      → pick (eqb z j) (Ok (at + n + j, g y)) (Err (At c at)) ≡ seen g (sized c a) s at
  unfolding seen sized via judged judge_of pair pair_read measured weighed and_then mapped shift
  whole_size z n j y e f = rw (e, drop-drop n at s, f) (judged_size z n j y (eqb z j))

  sized_tested : {r x : Read} {z p v q : ℕ} (t : Bool) → r ≡ seen itself (number 4) s at → r ≡ Ok (p, z) → x ≡ seen g a s p → x ≡ Ok (q, v) → t ≡ eqb (p + z) q
      → pick t (Ok (q, v)) (Err (At c at)) ≡ seen g (sized c a) s at
  unfolding seen
  sized_tested {z = z} {p = p} {v = v} {q = q} t e h f k b =
      let i = told_got at itself ((number 4).read (drop at s)) e h in
      let j = told_got p g (a.read (drop p s)) f k in
      let eb : a.read (drop (at + i.n) s) ≡ got j.x j.n = ap (λ (o : ℕ). a.read (drop o s)) (sym i.ends) ∙ j.is in
      let eq : q ≡ at + i.n + j.n = omega (arith, i.ends, j.ends) in
      let ez : (number 4).read (drop at s) ≡ got z i.n = i.is ∙ ap (λ (o : ℕ). got o i.n) (sym i.tells) in
      same_pick (Err (At c at)) (right_size_lem p z q j.n t j.ends b) j.tells eq ∙ whole_size z i.n j.n j.x ez eb

  module _ {r x : Read} {z p v q : ℕ} (e : r ≡ seen itself (number 4) s at) (h : r ≡ Ok (p, z)) (f : x ≡ seen g a s p) (k : x ≡ Ok (q, v)) where
    pub sized_is : p + z ≡ q → Ok (q, v) ≡ seen g (sized c a) s at
    unfolding pick
    sized_is y = sized_tested true e h f k (sym (eq-eqb (p + z) q y))

    pub sized_no : (p + z ≡ q → ⊥) → Err (At c at) ≡ seen g (sized c a) s at
    unfolding pick
    sized_no y = sized_tested false e h f k (sym (ne_eqb (p + z) q y))

pub ruleset sizing = (refl, sized_stop, sized_halt, sized_is, sized_no)

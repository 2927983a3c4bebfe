-- Reading from a part of a slice that starts in its middle is reading at that place of the slice.
use Rattle.std.specs.Prelude.{ℕ, ◌+◌, ◌^◌, ◌<◌, ◌-◌, ◌≤◌, ◌≡◌, length, take, drop, Ok, Err}
use Rattle.std.proofs.Math.Nat.{zero-add}
use Rattle.std.proofs.Common.{arith, mod-eq_of_lt, ◌∙◌, take_all}
use Rattle.std.proofs.Math.Path.{ap}
use mathlib.Core.List.{List}
use Rattle.std.proofs.Math.ListN.{length-drop}
use Rattle.format.specs.Laws.Answers.{Read}
use Rattle.format.specs.declared.Fault.{Fault}
use Rattle.format.specs.declared.Refusal.{Refusal}
use Rattle.format.specs.declared.Refusal.TheVariants.{At}
use Rattle.format.specs.Format.{end_of, Format}
use Rattle.format.specs.Laws.Fault.{further}
use Rattle.format.specs.Laws.Seen.{told, seen, told_got, told_no, told_why}
use Rattle.format.specs.Laws.Written.{Stands}

-- the part of a list from a place on, as the code lends it
abbrev pub part : List ℕ → ℕ → List ℕ
part s at = take (length s - at) (drop at s)

part_is : (s : List ℕ) (at : ℕ) → part s at ≡ drop at s
part_is s at = let h : length (drop at s) ≤ length s - at = omega (arith, length-drop at s) in take_all (length s - at) (drop at s) h

-- what stands at a place of the slice stands at the start of the part
pub stands_part : {A : Type 0} (a : Format A) (s : List ℕ) (at : ℕ) {x : A} {u : List ℕ} → Stands a s at x u → Stands a (part s at) 0 x u
stands_part a s at b = record { fit = b.fit; is = part_is s at ∙ b.is }

module _ {A : Type 0} (g : A → ℕ) (a : Format A) (s : List ℕ) (at : ℕ) {r : Read} where
  whole : r ≡ seen g a (part s at) 0 → r ≡ told 0 g (a.read (drop at s))
  unfolding seen
  whole e = e ∙ ap (λ (t : List ℕ). told 0 g (a.read t)) (part_is s at)

  pub part_got : {v n : ℕ} → r ≡ seen g a (part s at) 0 → r ≡ Ok (n, v) → Ok (at + n, v) ≡ seen g a s at
  unfolding seen told
  part_got {v = v} e h = let i = told_got 0 g (a.read (drop at s)) (whole e) h in rw (i.is, ← i.tells) (ap (λ (m : ℕ). Ok (at + m, v)) (i.ends ∙ zero-add i.n))

  -- and it ends, or is refused, within the slice
  pub part_ends : {v n : ℕ} → at ≤ length s → r ≡ seen g a (part s at) 0 → r ≡ Ok (n, v) → at + n ≤ length s
  unfolding end_of
  part_ends l e h = let i = told_got 0 g (a.read (drop at s)) (whole e) h in omega (arith, i.ends, rw i.is at (a.inside (drop at s)), length-drop at s)

  pub part_no : {c : Fault} {p : ℕ} → r ≡ seen g a (part s at) 0 → r ≡ Err (At c p) → Err (At c (at + p)) ≡ seen g a s at
  unfolding seen told
  part_no {c = c} e h = let i = told_no 0 g (a.read (drop at s)) (whole e) h in rw i.is (ap (λ (m : ℕ). Err (At c (at + m))) (i.ends ∙ zero-add i.o))

  -- the same as the code hands it on, in 64 bits
  pub part_further : {why to : Refusal} → at ≤ length s → length s < 2 ^ 64 → r ≡ seen g a (part s at) 0 → r ≡ Err why → to ≡ further at why → Err to ≡ seen g a s at
  unfolding seen told end_of
  part_further {to = to} l m e h f =
      let i = told_why 0 g (a.read (drop at s)) (whole e) h in
      let p : at + (0 + i.o) < 2 ^ 64 = omega (arith, rw i.is at (a.inside (drop at s)), length-drop at s) in
      let w : to ≡ At i.c (at + i.o) = f ∙ ap (further at) i.ends ∙ rw (mod-eq_of_lt p, zero-add) in
      rw (i.is, w)

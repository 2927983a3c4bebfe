-- What stands written at a place is read there.
use Rattle.std.specs.Prelude.{ℕ, ◌+◌, ◌<◌, ◌≡◌, refl, length, Ok}
use Rattle.std.proofs.Common.{arith, sym, ap, ◌∙◌, drop-drop}
use mathlib.Core.List.{List, [], ◌∷◌, ◌++◌, append_assoc}
use Rattle.std.proofs.Math.ListN.{drop}
use Rattle.std.proofs.Math.Seq.{drop-append_seam}
use Rattle.format.specs.Format.{Format}
use Rattle.format.specs.ReadWrite.{each_write, AllFit}
use Rattle.format.specs.Laws.Seen.{seen, told}

-- behind u stands v
pub behind : (s : List ℕ) (at : ℕ) (u v : List ℕ) → drop at s ≡ u ++ v → drop (at + length u) s ≡ v
behind s at u v e = sym (drop-drop (length u) at s) ∙ ap (drop (length u)) e ∙ drop-append_seam u v

pub seen_back : {A : Type 0} (g : A → ℕ) (a : Format A) (x : A) (s : List ℕ) (at : ℕ) (t : List ℕ) → a.Fit x → drop at s ≡ a.write x ++ t → seen g a s at ≡ Ok (at + length (a.write x), g x)
unfolding seen told
seen_back g a x s at t f e = rw (e, a.back x t f)

-- a value that fits stands at a place, with u behind it
pub record Stands {A : Type 0} (a : Format A) (s : List ℕ) (at : ℕ) (x : A) (u : List ℕ) : Type 0 where
  pub fit : a.Fit x
  pub is : drop at s ≡ a.write x ++ u

-- with something behind it
abbrev pub Held : {A : Type 0} → Format A → List ℕ → ℕ → A → Type 0
Held a s at x = (u : List ℕ) × Stands a s at x u

-- a row that stands written at a place, taken apart
module _ {A : Type 0} (a : ℕ → Format A) where
  pub record Row (s : List ℕ) (i at : ℕ) (xs : List A) (t : List ℕ) : Type 0 where
    pub fit : AllFit a i xs
    pub is : drop at s ≡ each_write a i xs ++ t

  -- its first value, and the row behind it
  pub record First (s : List ℕ) (i at : ℕ) (xs : List A) (t : List ℕ) : Type 0 where
    pub x : A
    pub ys : List A
    pub whole : xs ≡ x ∷ ys
    pub stands : Stands (a i) s at x (each_write a (i + 1) ys ++ t)
    pub rest : Row s (i + 1) (at + length ((a i).write x)) ys t

  pub first : (s : List ℕ) (i at : ℕ) (xs : List A) (t : List ℕ) → 0 < length xs → Row s i at xs t → First s i at xs t
  unfolding AllFit each_write
  first s i at [] t h r = absurd (omega arith)
  first s i at (x ∷ ys) t h r =
      let e : drop at s ≡ (a i).write x ++ (each_write a (i + 1) ys ++ t) = r.is ∙ append_assoc ((a i).write x) (each_write a (i + 1) ys) t in
      record { x = x; ys = ys; whole = refl; stands = record { fit = r.fit.0; is = e }; rest = record { fit = r.fit.1; is = behind s at ((a i).write x) (each_write a (i + 1) ys ++ t) e } }

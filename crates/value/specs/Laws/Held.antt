-- What stands at a place of a slice: a value of a format, and of the formats that it is made of.
use Rattle.std.specs.Prelude.{ℕ, ◌+◌, ◌≡◌, length, drop, Ok}
use Rattle.std.proofs.Common.{◌∙◌}
use mathlib.Core.List.{List, ◌++◌, append_assoc}
use Rattle.std.proofs.Math.Seq.{drop-append_seam, drop-drop}
use Rattle.format.specs.Laws.Answers.{Read}
use Rattle.format.specs.Format.{got, Bytes, Format}
use Rattle.format.specs.Laws.Format.{bytes_drop}
use Rattle.format.specs.ReadWrite.{pair_write}
use Rattle.format.specs.Combinators.{pair, seq, ◌then◌, via}
use Rattle.format.specs.Laws.Written.{Held}
use Rattle.format.specs.Laws.Back.{seen_fits}
use Rattle.format.specs.Laws.Seen.{seen, itself}

-- what was read stands there
pub held_read : {A : Type 0} (a : Format A) (s : List ℕ) (at : ℕ) {x : A} {n : ℕ} → Bytes s → a.read (drop at s) ≡ got x n → Held a s at x
held_read a s at {x} {n} bs e =
    let f = a.forth (drop at s) x n (bytes_drop at s bs) e in
    (drop n (drop at s), record { is = f.is; fit = f.fit })

-- of two one after the other, each stands at its place
module _ {A B : Type 0} (a : Format A) (b : A → Format B) (s : List ℕ) (at : ℕ) {p : A × B} where
  both : (h : Held (pair a b) s at p) → drop at s ≡ a.write p.0 ++ ((b p.0).write p.1 ++ h.0)
  unfolding pair pair_write
  both h = h.1.is ∙ append_assoc (a.write p.0) ((b p.0).write p.1) h.0

  pub held_first : Held (pair a b) s at p → Held a s at p.0
  unfolding pair
  held_first h = ((b p.0).write p.1 ++ h.0, record { is = both h; fit = h.1.fit.0 })

  pub held_second : (m : ℕ) → Held (pair a b) s at p → m ≡ at + length (a.write p.0) → Held (b p.0) s m p.1
  unfolding pair
  held_second m h e = (
    h.0,
    record {
      is = rw (e, ← drop-drop (length (a.write p.0)) at s, both h) (drop-append_seam (a.write p.0) ((b p.0).write p.1 ++ h.0));
      fit = h.1.fit.1;
    },
  )

pub held_via : {A B : Type 0} (a : Format A) (to : A → B) (from : B → A) (same : (x : A) → a.Fit x → from (to x) ≡ x) (s : List ℕ) (at : ℕ) {y : B}
    → Held (via a to from same) s at y → Held a s at (from y)
unfolding via
held_via a to from same s at h = (h.0, record { is = h.1.is; fit = h.1.fit.0 })

pub held_then : {B : Type 0} (a : Format (Unit {0})) (b : Format B) (s : List ℕ) (at m : ℕ) {y : B} → Held (a then b) s at y → m ≡ at + length (a.write tt) → Held b s m y
unfolding ◌then◌ seq
held_then a b s at m h e = held_second a (λ u. b) s at m (held_via (pair a (λ u. b)) (λ p. p.1) (λ y. (tt, y)) _ s at h) e

-- a number that was read fits
pub seen_fit : (a : Format ℕ) (s : List ℕ) (at : ℕ) {r : Read} {v m : ℕ} → Bytes s → r ≡ seen itself a s at → r ≡ Ok (m, v) → a.Fit v
seen_fit a s at bs e h = let o = seen_fits itself a s at bs e h in rw o.1.1 o.1.0

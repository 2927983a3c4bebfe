-- What the loop of a copy has left of the buffer at each turn.
use Prim.Native.Nat.{ℕ, zero, suc, ◌+◌, ◌<◌}
use native.Mathlib.Omega.{arith}
use native.Mathlib.Numerals.{add-one}
use mathlib.Core.Path.{◌≡◌, sym, ap, ◌∙◌}
use mathlib.Core.List.{List, [], ◌∷◌}
use lib.ListN.{length, drop, get_or, set}
use lib.Seq.{drop-length, drop-cons}
use Rattle.buffer.specs.Laid.{put}
use Rattle.buffer.specs.Laws.Laid.{put_none}

put_cons : (y : ℕ) (zs : List ℕ) (n : ℕ) (bs : List ℕ) → put (y ∷ zs) (suc n) bs ≡ y ∷ put zs n bs
unfolding put
put_cons y zs n bs = let e : suc n + length bs ≡ suc (n + length bs) = omega arith in rw e

put_next : (xs : List ℕ) (at x : ℕ) (ys : List ℕ) → at < length xs → put (set xs at x) (suc at) ys ≡ put xs at (x ∷ ys)
unfolding put
put_next [] at x ys h = absurd (omega arith)
put_next (y ∷ xs) zero x ys h =
    let e : 1 + length ys ≡ suc (length ys) = omega arith in
    let f : 0 + suc (length ys) ≡ suc (length ys) = omega arith in
    rw (e, f)
put_next (y ∷ xs) (suc at) x ys h = put_cons y (set xs at x) (suc at) ys ∙ ap (λ (zs : List ℕ). y ∷ zs) (put_next xs at x ys (omega arith)) ∙ sym (put_cons y xs at (x ∷ ys))

module _ {goal : List ℕ} (p : List ℕ) (i : ℕ) where
  pub copy_next : (s : List ℕ) → put p i (drop i s) ≡ goal → i < length s → i < length p → put (set p i (get_or s i 0)) (i + 1) (drop (i + 1) s) ≡ goal
  copy_next s e h k = rw add-one (put_next p i (get_or s i 0) (drop (suc i) s) k) ∙ ap (put p i) (sym (drop-cons s i 0 h)) ∙ e

  pub copy_last : (s : List ℕ) → put p i (drop i s) ≡ goal → i ≡ length s → p ≡ goal
  copy_last s e h = sym (put_none p i) ∙ ap (put p i) (sym (drop-length s) ∙ ap (λ (j : ℕ). drop j s) (sym h)) ∙ e

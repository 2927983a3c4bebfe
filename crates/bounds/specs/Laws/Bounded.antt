-- How far a reading can go: of bytes, every reading of a format ends, or is refused, within a bound.
use Prim.Native.Nat.{ℕ, zero, suc, ◌+◌, ◌*◌, ◌≤◌}
use Rattle.std.proofs.Math.Nat.{mul-suc, mul-le-mul_left}
use native.Mathlib.Omega.{arith}
use Rattle.std.specs.Prelude.{◌≡◌, Bool, true, false, List, ◌∷◌, leb, eqb, length, take, drop}
use Rattle.std.proofs.Math.Path.{refl}
use Rattle.format.specs.declared.Fault.{Fault}
use Rattle.format.specs.Format.{Answer, got, refused, end_of, shift, mapped, and_then, pick, Format, Bytes}
use Rattle.format.specs.Laws.Format.{bytes_drop, end_mapped}
use Rattle.format.specs.ReadWrite.{pair_read, number_read, value, each_read}
use Rattle.format.specs.Laws.ReadWrite.{judged_end, home_end}
use Rattle.format.specs.Combinators.{pair, judged, via, at_start, nothing, seq, ◌then◌, number, fixed, flag, count, each, counted, listed}

unfoldable pub Bounded : {A : Type 0} → Format A → ℕ → Type 0
Bounded a n = (s : List ℕ) → Bytes s → end_of (a.read s) ≤ n

pub bounded_number : (k : ℕ) → Bounded (number k) k
unfolding Bounded number number_read pick end_of
bounded_number k s b = go (leb k (length s))
  where
    go : (t : Bool) → end_of (pick t (got (value (take k s)) k) (refused Fault.Cut 0)) ≤ k
    go true = omega arith
    go false = omega arith

pub bounded_nothing : Bounded nothing 0
unfolding Bounded nothing end_of
bounded_nothing s b = omega arith

pub bounded_pick : {A : Type 0} (t : Bool) (a b : Format A) (n : ℕ) → Bounded a n → Bounded b n → Bounded (pick t a b) n
unfolding pick
bounded_pick true a b n f g = f
bounded_pick false a b n f g = g

pub bounded_judged : {A : Type 0} (ok : A → Bool) (c : Fault) (a : Format A) (n : ℕ) → Bounded a n → Bounded (judged ok c a) n
unfolding Bounded judged
bounded_judged ok c a n f s b = omega (arith, judged_end ok c a (a.read s), f s b)

pub bounded_via : {A B : Type 0} (a : Format A) (to : A → B) (from : B → A) (same : (x : A) → a.Fit x → from (to x) ≡ x) (n : ℕ) → Bounded a n → Bounded (via a to from same) n
unfolding Bounded via
bounded_via a to from same n f s b = rw end_mapped (f s b)

pub bounded_start : {A : Type 0} (a : Format A) (n : ℕ) → Bounded a n → Bounded (at_start a) n
unfolding Bounded at_start
bounded_start a n f s b = omega (arith, home_end (a.read s), f s b)

-- what is read on from where a reading ended
on_end : {A B : Type 0} (k : ℕ) (f : A → B) (q : Answer A) → end_of (shift k (mapped f q)) ≡ k + end_of q
unfolding shift mapped end_of
on_end k f (got y j) = refl
on_end k f (refused c j) = refl

-- one after the other, the second by a value of the first that fits
module _ {A B : Type 0} (a : Format A) (b : A → Format B) where
  paired : A → B → A × B
  paired x y = (x, y)

  pub bounded_pair : (m n : ℕ) → Bounded a m → ((x : A) → a.Fit x → Bounded (b x) n) → Bounded (pair a b) (m + n)
  unfolding Bounded pair pair_read and_then end_of paired
  bounded_pair m n f g s bs = go (a.read s) refl (f s bs)
    where
      go : (q : Answer A) → a.read s ≡ q → end_of q ≤ m → end_of (and_then q (λ x k. mapped (paired x) ((b x).read (drop k s)))) ≤ m + n
      go (got x k) e h = omega (arith, on_end k (paired x) ((b x).read (drop k s)), g x (a.forth s x k bs e).fit (drop k s) (bytes_drop k s bs))
      go (refused c q) e h = omega arith

pub bounded_then : {B : Type 0} (a : Format (Unit {0})) (b : Format B) (m n : ℕ) → Bounded a m → Bounded b n → Bounded (a then b) (m + n)
unfolding ◌then◌ seq
bounded_then a b m n f g = bounded_via (pair a (λ x. b)) _ _ _ (m + n) (bounded_pair a (λ x. b) m n f (λ x h. g))

pub bounded_fixed : (k v : ℕ) (c : Fault) → Bounded (fixed k v c) k
unfolding fixed
bounded_fixed k v c = bounded_via _ _ _ _ k (bounded_judged (λ y. eqb y v) c (number k) k (bounded_number k))

pub bounded_flag : Bounded flag 4
unfolding flag
bounded_flag = bounded_via _ _ _ _ 4 (bounded_judged (λ n. leb n 1) Fault.Field (number 4) 4 (bounded_number 4))

pub bounded_count : (k low high : ℕ) → Bounded (count k low high) k
unfolding count
bounded_count k low high = bounded_judged _ Fault.Count (number k) k (bounded_number k)

-- k values of at most n bytes
module _ {A : Type 0} (a : Format A) (n : ℕ) (f : Bounded a n) where
  each_end : (i k : ℕ) (s : List ℕ) → Bytes s → end_of (each_read (λ j. a) i k s) ≤ n * k
  unfolding Bounded each_read and_then end_of
  each_end i zero s bs = omega arith
  each_end i (suc k) s bs = go (λ j. each_end (i + 1) k (drop j s) (bytes_drop j s bs)) (a.read s) (f s bs)
    where
      go : ((j : ℕ) → end_of (each_read (λ l. a) (i + 1) k (drop j s)) ≤ n * k) → (q : Answer A) → end_of q ≤ n → end_of (and_then q (λ x j. mapped (λ xs. x ∷ xs) (each_read (λ l. a) (i + 1) k (drop j s)))) ≤ n * suc k
      go w (got x j) h = omega (arith, mul-suc n k, on_end j (λ xs. x ∷ xs) (each_read (λ l. a) (i + 1) k (drop j s)), w j)
      go w (refused c q) h = omega (arith, mul-suc n k)

  pub bounded_row : (k most : ℕ) → k ≤ most → Bounded (each (λ i. a) 0 k) (n * most)
  unfolding Bounded each
  bounded_row k most w s bs = let m = mul-le-mul_left n w in omega (arith, each_end 0 k s bs, m)

-- at most most of them, behind their number
pub bounded_listed : {A : Type 0} (l : Format ℕ) (a : Format A) (m n most : ℕ) → Bounded l m → ((k : ℕ) → l.Fit k → k ≤ most) → Bounded a n → Bounded (listed l a) (m + n * most)
unfolding listed counted
bounded_listed l a m n most f g h = bounded_via _ _ _ _ (m + n * most) (bounded_pair l (each (λ i. a) 0) m (n * most) f (λ k w. bounded_row a n h k most (g k w)))

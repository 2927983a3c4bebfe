-- What the two loops have left of the bytes at each turn.
use Prim.Native.Nat.{ℕ, zero, suc, ◌+◌, ◌-◌, ◌≤◌, ◌<◌}
use native.Mathlib.Nat.{le_of_suc-le-suc, not-suc-le-zero}
use native.Mathlib.Omega.{arith}
use mathlib.Core.Path.{◌≡◌, refl, sym, ap, ◌∙◌}
use mathlib.Core.List.{List, [], ◌∷◌, ◌++◌, append_assoc, append-nil}
use lib.ListN.{length, take, drop, get_or, set, length-take, length-drop, get_or-append}
use lib.Seq.{take_all, take-length, slice_empty, get_or-drop, get_or-take, take-suc, drop-cons, take-take, set_at, length-take-le}
use Rattle.buffer.specs.Laws.Laid.{down, up}

-- ---- moved down, from the front: i bytes of s stand over d

unfoldable pub over : List ℕ → List ℕ → ℕ → List ℕ
over s d i = take i s ++ drop i d

over_next : (s d : List ℕ) (i : ℕ) → i < length s → i < length d → set (over s d i) i (get_or s i 0) ≡ over s d (suc i)
unfolding over
over_next [] d i h k = absurd (not-suc-le-zero h)
over_next (x ∷ s) [] i h k = absurd (not-suc-le-zero k)
over_next (x ∷ s) (y ∷ d) zero h k = refl
over_next (x ∷ s) (y ∷ d) (suc i) h k = ap (λ (l : List ℕ). x ∷ l) (over_next s d i (le_of_suc-le-suc h) (le_of_suc-le-suc k))

-- what the loop has not reached is as it was
over_ahead : (s d : List ℕ) (i j : ℕ) → i ≤ length s → i ≤ j → j < length d → get_or (over s d i) j 0 ≡ get_or d j 0
unfolding over
over_ahead s d zero j h k l = refl
over_ahead [] d (suc i) j h k l = absurd (not-suc-le-zero h)
over_ahead (x ∷ s) d (suc i) zero h k l = absurd (not-suc-le-zero k)
over_ahead (x ∷ s) [] (suc i) (suc j) h k l = absurd (not-suc-le-zero l)
over_ahead (x ∷ s) (y ∷ d) (suc i) (suc j) h k l = over_ahead s d i j (le_of_suc-le-suc h) (le_of_suc-le-suc k) (le_of_suc-le-suc l)

unfoldable pub lowered : List ℕ → ℕ → ℕ → List ℕ
lowered d b i = over (drop b d) d (i - b)

pub lowered_first : (d : List ℕ) (b : ℕ) → d ≡ lowered d b b
unfolding lowered over
lowered_first d b = let z : b - b ≡ 0 = omega arith in rw z

pub lowered_next : (d p : List ℕ) (b i : ℕ) → p ≡ lowered d b i → b ≤ i → i < length d → set p (i - b) (get_or p i 0) ≡ lowered d b (i + 1)
unfolding lowered
lowered_next d p b i e h k =
    let s = drop b d in
    let l = length-drop b d in
    let n : i + 1 - b ≡ suc (i - b) = omega arith in
    let m : b + (i - b) ≡ i = omega arith in
    let r : get_or p i 0 ≡ get_or s (i - b) 0 = ap (λ (x : List ℕ). get_or x i 0) e ∙ over_ahead s d (i - b) i (omega arith) (omega arith) k ∙ sym (rw m at (get_or-drop b d (i - b) 0)) in
    rw (r, e, n) (over_next s d (i - b) (omega arith) (omega arith))

pub lowered_last : (d p : List ℕ) (b i : ℕ) → p ≡ lowered d b i → i - b ≡ length d - b → p ≡ down b d
unfolding lowered over down
lowered_last d p b i e l = rw (e, l, ← length-drop b d, take-length)

-- ---- moved up, from the end

unfoldable pub lifted : List ℕ → ℕ → ℕ → List ℕ
lifted d b i = take i d ++ drop (i - b) (take (length d - b) d)

pub lifted_first : (d : List ℕ) (b : ℕ) → d ≡ lifted d b (length d)
unfolding lifted
lifted_first d b = rw (take-length, slice_empty (length d - b) d, append-nil)

pub lifted_next : (d p : List ℕ) (b i j : ℕ) → p ≡ lifted d b i → i ≡ suc j → b ≤ j → j < length d → set p j (get_or p (j - b) 0) ≡ lifted d b j
unfolding lifted
lifted_next d p b i j e s h k =
    let t = take (length d - b) d in
    let n : suc j - b ≡ suc (j - b) = omega arith in
    let l : j - b < length t = simp length-take (omega arith) in
    let q : p ≡ take (suc j) d ++ drop (suc (j - b)) t = e ∙ rw (s, n) in
    let r : get_or p (j - b) 0 ≡ get_or t (j - b) 0 =
    ap (λ (x : List ℕ). get_or x (j - b) 0) q ∙ get_or-append (take (suc j) d) (drop (suc (j - b)) t) 0 (j - b) (simp length-take (omega arith))
    ∙ get_or-take (suc j) d (j - b) 0 (omega arith) ∙ sym (get_or-take (length d - b) d (j - b) 0 (omega arith)) in
    let o : p ≡ take j d ++ (get_or d j 0 ∷ drop (suc (j - b)) t) = q ∙ rw (take-suc d j 0 k, append_assoc) in
    rw (r, o, set_at (take j d) (get_or d j 0) (drop (suc (j - b)) t) (get_or t (j - b) 0) j (length-take-le j d (omega arith)), drop-cons t (j - b) 0 l)

-- i is the smaller of b and the length
pub lifted_last : (d p : List ℕ) (b i : ℕ) → p ≡ lifted d b i → i ≤ b → i ≤ length d → b ≤ i + (b - length d) → p ≡ up b d
unfolding lifted up
lifted_last d p b i e h k l =
    let z : i - b ≡ 0 = omega arith in
    let t : take i d ≡ take b d = sym (take-take i b d h) ∙ take_all i (take b d) (simp length-take (omega arith)) in
    rw (e, z, t)

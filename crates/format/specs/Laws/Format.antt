-- Laws of ../Format.antt: answers put together, bytes, and what a promise that is an equation settles.
use Rattle.std.specs.Prelude.{ℕ, zero, suc, ◌+◌, ◌-◌, ◌≤◌, ◌≡◌, refl, Bool, true, false, ◌&&◌, List, [], ◌∷◌, ◌++◌, length, get_or, take, drop}
use Rattle.std.proofs.Common.{arith, sym, ◌∙◌, Fits, length-drop}
use Rattle.std.specs.Int.{w8}
use Rattle.format.specs.declared.Fault.{Fault}
use Rattle.format.specs.Format.{Answer, end_of, Bytes, shift, mapped, and_then, got, refused}

-- ---- how answers are put together

pub both : (a b : Bool) → (a && b) ≡ true → (a ≡ true) × (b ≡ true)
both true b e = (refl, e)
both false b e = absurd (let z : ◌≡◌ {A = ℕ} 0 1 = cc in omega arith)

-- ---- their laws

-- a promise that is an equation settles the outcome: two that it allows coincide
pub one : {A : Type 0} {x r q : A} → r ≡ x → q ≡ x → r ≡ q
one e f = e ∙ sym f

-- no value was refused
pub apart : {A : Type 0} {B : Type 0} {x : A} {n : ℕ} {c : Fault} {p : ℕ} → got x n ≡ refused c p → B
apart e = absurd (let z : ◌≡◌ {A = ℕ} 0 1 = cc in omega arith)

pub bytes_drop : (n : ℕ) (s : List ℕ) → Bytes s → Bytes (drop n s)
unfolding Bytes
bytes_drop zero s b = b
bytes_drop (suc n) [] b = b
bytes_drop (suc n) (x ∷ s) b = bytes_drop n s b.1

pub bytes_take : (k : ℕ) (s : List ℕ) → Bytes s → Bytes (take k s)
unfolding Bytes
bytes_take zero s h = tt
bytes_take (suc k) [] h = tt
bytes_take (suc k) (x ∷ s) h = (h.0, bytes_take k s h.1)

pub bytes_append : (s t : List ℕ) → Bytes s → Bytes t → Bytes (s ++ t)
unfolding Bytes
bytes_append [] t b c = c
bytes_append (x ∷ s) t b c = (b.0, bytes_append s t b.1 c)

-- what is known of a byte slice: each fits a byte
pub bytes_all : (s : List ℕ) → ((i : ℕ) → Fits w8 (get_or s i 0)) → Bytes s
unfolding Bytes
bytes_all [] h = tt
bytes_all (x ∷ s) h = ((h zero).fits, bytes_all s (λ i. h (suc i)))

-- a reading that went on, taken apart
pub record Went {A B : Type 0} (q : Answer A) (k : A → ℕ → Answer B) (y : B) (m : ℕ) : Type 0 where
  pub x : A
  pub n : ℕ
  pub j : ℕ
  pub first : q ≡ got x n
  pub rest : k x n ≡ got y j
  pub sum : m ≡ n + j

shift_got : {A : Type 0} (b : ℕ) (q : Answer A) (x : A) (m : ℕ) → shift b q ≡ got x m → (q ≡ got x (m - b)) × (m ≡ b + (m - b))
unfolding shift
shift_got b (got y n) x m e =
    let em : m ≡ b + n = cc in
    let ej : m - b ≡ n = omega arith in
    let ex : y ≡ x = cc in
    (rw (ej, ex), omega arith)
shift_got b (refused c p) x m e = apart (sym e)

pub went : {A B : Type 0} (q : Answer A) (k : A → ℕ → Answer B) (y : B) (m : ℕ) → and_then q k ≡ got y m → Went q k y m
unfolding and_then
went (got x n) k y m e =
    let h = shift_got n (k x n) y m e in
    record { x = x; n = n; j = m - n; first = refl; rest = h.0; sum = h.1 }
went (refused c p) k y m e = apart (sym e)

pub mapped_got : {A B : Type 0} (f : A → B) (q : Answer A) (y : B) (m : ℕ) → mapped f q ≡ got y m → (x : A) × ((q ≡ got x m) × (y ≡ f x))
unfolding mapped
mapped_got f (got x n) y m e = (x, ((cc), (cc)))
mapped_got f (refused c p) y m e = apart (sym e)

pub end_mapped : {A B : Type 0} (f : A → B) (q : Answer A) → end_of (mapped f q) ≡ end_of q
unfolding mapped end_of
end_mapped f (got x n) = refl
end_mapped f (refused c p) = refl

end_shift : {A : Type 0} (b : ℕ) (q : Answer A) → end_of (shift b q) ≡ b + end_of q
unfolding shift end_of
end_shift b (got x n) = refl
end_shift b (refused c p) = refl

pub end_then : {A B : Type 0} (s : List ℕ) (q : Answer A) (k : A → ℕ → Answer B) → end_of q ≤ length s
    → ((x : A) (n : ℕ) → end_of (k x n) ≤ length (drop n s)) → end_of (and_then q k) ≤ length s
unfolding and_then end_of
end_then s (got x n) k h f = omega (arith, end_shift n (k x n), f x n, length-drop n s)
end_then s (refused c p) k h f = h

-- A format: how a value is read from the front of a list of bytes, how it is written, which values fit, and the laws that tie them.
use Rattle.std.specs.Prelude.{ℕ, ◌+◌, ◌≤◌, ◌<◌, ◌≡◌, Bool, true, false, List, [], ◌∷◌, ◌++◌, eqb, length, drop}
use Rattle.format.specs.declared.Fault.{Fault}
use Rattle.format.specs.declared.Fault.TheVariants.{Over}

-- what is read: a value and how many bytes it took, or a fault and its place; both count from the start of what is read
pub data Answer (A : Type 0) : Type 0 where
  got : A → ℕ → Answer A
  refused : Fault → ℕ → Answer A

-- where a reading ends, or the place of its fault
unfoldable pub end_of : {A : Type 0} → Answer A → ℕ
end_of (got x n) = n
end_of (refused c p) = p

-- each is a byte
unfoldable pub Bytes : List ℕ → Type 0
Bytes [] = Unit {0}
Bytes (x ∷ xs) = (x < 256) × Bytes xs

-- what a reading that found x, n bytes long, tells of the list
pub record Found {A : Type 0} (write : A → List ℕ) (Fit : A → Type 0) (s : List ℕ) (x : A) (n : ℕ) : Type 0 where
  pub is : s ≡ write x ++ drop n s
  pub ends : n ≡ length (write x)
  pub fit : Fit x

pub record Format (A : Type 0) : Type 1 where
  pub read : List ℕ → Answer A
  pub write : A → List ℕ
  -- which values it can write
  pub Fit : A → Type 0
  -- what is written reads back as given, whatever follows
  pub back : (x : A) (t : List ℕ) → Fit x → read (write x ++ t) ≡ got x (length (write x))
  -- what was read, written again, gives the same bytes
  pub forth : (s : List ℕ) (x : A) (n : ℕ) → Bytes s → read s ≡ got x n → Found write Fit s x n
  -- a reading ends, or is refused, within the list
  pub inside : (s : List ℕ) → end_of (read s) ≤ length s
  -- what is written are bytes
  pub spells : (x : A) → Bytes (write x)

-- ---- how answers are put together

-- the answer of a reading that starts b bytes further on
unfoldable pub shift : {A : Type 0} → ℕ → Answer A → Answer A
shift b (got x n) = got x (b + n)
shift b (refused c p) = refused c (b + p)

unfoldable pub mapped : {A B : Type 0} → (A → B) → Answer A → Answer B
mapped f (got x n) = got (f x) n
mapped f (refused c p) = refused c p

-- read on with k, from where the first answer ended; a refusal is handed on
unfoldable pub and_then : {A B : Type 0} → Answer A → (A → ℕ → Answer B) → Answer B
and_then (got x n) k = shift n (k x n)
and_then (refused c p) k = refused c p

unfoldable pub pick {ℓ} : {A : Type ℓ} → Bool → A → A → A
pick true x y = x
pick false x y = y

-- "to the last byte": 13 where bytes are left over
unfoldable pub whole : {A : Type 0} → ℕ → Answer A → Answer A
whole n (got x m) = pick (eqb m n) (got x m) (refused Over m)
whole n (refused c q) = refused c q

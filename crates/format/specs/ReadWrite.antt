-- How formats made of formats read and write, and which values they can write. Combinators.antt makes formats of these; that they keep a
-- format's laws is in Laws/ReadWrite.antt.
use Rattle.std.specs.Prelude.{ℕ, zero, suc, ◌+◌, ◌*◌, ◌/◌, ◌%◌, ◌≡◌, Bool, true, false, ◌&&◌, List, [], ◌∷◌, ◌++◌, length, take, drop, leb}
use Rattle.format.specs.declared.Fault.{Fault}
use Rattle.format.specs.declared.Fault.TheVariants.{Cut}
use Rattle.format.specs.Format.{Answer, got, refused, mapped, and_then, pick, Format}

-- a value of a, then one of the format that it picks
module _ {A B : Type 0} (a : Format A) (b : A → Format B) where
  unfoldable pub pair_read : List ℕ → Answer (A × B)
  pair_read s = and_then (a.read s) (λ x n. mapped (λ y. (x, y)) ((b x).read (drop n s)))

  unfoldable pub pair_write : A × B → List ℕ
  pair_write p = a.write p.0 ++ (b p.0).write p.1

  abbrev pub PairFit : A × B → Type 0
  PairFit p = a.Fit p.0 × (b p.0).Fit p.1

-- a value x of a where ok x, else the fault c at its start
unfoldable pub judge : {A : Type 0} → Fault → Bool → A → ℕ → Answer A
judge c true x n = got x n
judge c false x n = refused c 0

unfoldable pub judge_of : {A : Type 0} → (A → Bool) → Fault → Answer A → Answer A
judge_of ok c (got x n) = judge c (ok x) x n
judge_of ok c (refused d q) = refused d q

abbrev pub JudgedFit : {A : Type 0} → (A → Bool) → Format A → A → Type 0
JudgedFit ok a x = a.Fit x × (ok x ≡ true)

-- the values of a, in the guise of B's
abbrev pub ViaFit : {A B : Type 0} → Format A → (A → B) → (B → A) → B → Type 0
ViaFit a to from y = a.Fit (from y) × (to (from y) ≡ y)

-- the values of a; every fault of a stands at its start
unfoldable pub home : {A : Type 0} → Answer A → Answer A
home (got x n) = got x n
home (refused c p) = refused c 0

-- the number that bytes spell, and the k bytes of a number: "Little-endian throughout"
unfoldable pub value : List ℕ → ℕ
value [] = 0
value (b ∷ bs) = b + 256 * value bs

unfoldable pub spelt : ℕ → ℕ → List ℕ
spelt zero n = []
spelt (suc k) n = n % 256 ∷ spelt k (n / 256)

-- k bytes, or Cut
unfoldable pub number_read : ℕ → List ℕ → Answer ℕ
number_read k s = pick (leb k (length s)) (got (value (take k s)) k) (refused Cut 0)

-- whether a count is in its range
unfoldable pub within : ℕ → ℕ → ℕ → Bool
within low high n = leb low n && leb n high

-- a yes or no
unfoldable pub bit : Bool → ℕ
bit b = pick b 1 0

-- k values from place i on: the one at place i by the format a i
module _ {A : Type 0} (a : ℕ → Format A) where
  unfoldable pub each_read : ℕ → ℕ → List ℕ → Answer (List A)
  each_read i zero s = got [] 0
  each_read i (suc k) s = and_then ((a i).read s) (λ x n. mapped (λ xs. x ∷ xs) (each_read (i + 1) k (drop n s)))

  unfoldable pub each_write : ℕ → List A → List ℕ
  each_write i [] = []
  each_write i (x ∷ xs) = (a i).write x ++ each_write (i + 1) xs

  unfoldable pub AllFit : ℕ → List A → Type 0
  AllFit i [] = Unit {0}
  AllFit i (x ∷ xs) = (a i).Fit x × AllFit (i + 1) xs

  abbrev pub EachFit : ℕ → ℕ → List A → Type 0
  EachFit i k xs = (length xs ≡ k) × AllFit i xs

-- a value and the number of its bytes
unfoldable pub weighed : {A : Type 0} → Answer A → Answer (A × ℕ)
weighed (got x n) = got (x, n) n
weighed (refused c p) = refused c p

abbrev pub WeighedFit : {A : Type 0} → Format A → A × ℕ → Type 0
WeighedFit a p = a.Fit p.0 × (p.1 ≡ length (a.write p.0))

-- An index of the places of what follows: offsets of one width, one for each value of a row, then the values. How it is read and written;
-- Indexed.antt makes a format of it, and its laws are in Laws/Index.antt. Document 02, W10.
use Rattle.std.specs.Prelude.{ℕ, zero, suc, ◌+◌, ◌*◌, List, [], ◌∷◌, ◌++◌, length, take, drop, eqb}
use Rattle.format.specs.declared.Fault.{Fault}
use Rattle.format.specs.Format.{Answer, got, refused, mapped, pick, Format}
use Rattle.format.specs.ReadWrite.{value, spelt, each_read, each_write}
use Rattle.format.specs.Combinators.{number}

-- read on with k from where a value, which begins at p, ended
unfoldable pub onward : {A B : Type 0} → ℕ → Answer A → (A → ℕ → Answer B) → Answer B
onward p (got x m) k = k x (p + m)
onward p (refused c q) k = refused c (p + q)

-- offsets of w bytes, counted from `origin` bytes before the first of them; a wrong one is the fault c
module _ {A : Type 0} (w origin : ℕ) (c : Fault) (a : ℕ → Format A) where
  -- k values from place i on, in s, which begins with the offsets; the first of them at p: its offset is "judged when the rule is reached"
  unfoldable pub values_read : List ℕ → ℕ → ℕ → ℕ → Answer (List A)
  values_read s i zero p = got [] p
  values_read s i (suc k) p = pick (eqb (value (take w (drop (w * i) s))) (value (spelt w (origin + p)))) (onward p ((a i).read (drop p s)) (λ x q. mapped (λ xs. x ∷ xs) (values_read s (i + 1) k q))) (refused c (w * i))

  -- n offsets, then n values
  unfoldable pub indexed_read : ℕ → List ℕ → Answer (List A)
  indexed_read n s = onward 0 (each_read (λ i. number w) 0 n s) (λ os p. values_read s 0 n p)

  -- the offsets of values from place i on, the first at p
  unfoldable pub index_write : ℕ → ℕ → List A → List ℕ
  index_write i p [] = []
  index_write i p (x ∷ xs) = spelt w (origin + p) ++ index_write (i + 1) (p + length ((a i).write x)) xs

  unfoldable pub indexed_write : List A → List ℕ
  indexed_write xs = index_write 0 (w * length xs) xs ++ each_write a 0 xs

-- Values in a row: where each starts, and sums over them.
use Rattle.std.specs.Prelude.{ℕ, ◌+◌, List, [], ◌∷◌, length, take}
use Rattle.format.specs.Format.{Format}
use Rattle.format.specs.ReadWrite.{each_write}

-- the sum of a number of each
unfoldable pub total : {A : Type 0} → (A → ℕ) → List A → ℕ
total g [] = 0
total g (x ∷ xs) = g x + total g xs

-- of a row that starts at a place, value k starts behind the k values before it
unfoldable pub start_in : {A : Type 0} → (ℕ → Format A) → ℕ → List A → ℕ → ℕ
start_in a from xs k = from + length (each_write a 0 (take k xs))

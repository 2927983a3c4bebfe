-- The code's table of lengths, and the row of a year. Assumes nothing.
use Prim.Native.Nat.{ℕ, ◌%◌}
use mathlib.Core.Path.{◌≡◌, refl, sym, ap, ◌∙◌}
use mathlib.Core.Bool.{Bool, true, false, not, ◌&&◌, ◌||◌}
use mathlib.Core.List.{List, [], ◌∷◌}
use lib.Dec.{eqb}
use lib.ListN.{get_or}
use Rattle.civil.specs.Calendar.{leap, lengths, month_days}
use Rattle.civil.specs.Laws.Steps.{row}

pub row_is : (y : ℕ) (a b c : Bool) → eqb (y % 4) 0 ≡ a → eqb (y % 100) 0 ≡ b → eqb (y % 400) 0 ≡ c → row ((a && not b) || c) ≡ row (leap y)
unfolding leap
row_is y a b c p q r = sym (rw (p, q, r))

abbrev table : List (List ℕ)
table = lengths false ∷ lengths true ∷ []

pub month_is : (y r m : ℕ) → r ≡ row (leap y) → get_or (get_or table r []) m 0 ≡ month_days y m
month_is y r m e = ap (λ (i : ℕ). get_or (get_or table i []) m 0) e ∙ ap (λ (l : List ℕ). get_or l m 0) (at (leap y))
  where
    at : (b : Bool) → get_or table (row b) [] ≡ lengths b
    at true = refl
    at false = refl

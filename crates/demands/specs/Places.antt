-- What stands where in a deck that was read: its rules, their elements, and the units of names and words.
use Rattle.std.specs.Prelude.{ℕ, ◌+◌, ◌-◌, ◌≡◌, List, length, take, drop}
use Rattle.format.specs.ReadWrite.{each_write}
use Rattle.format.specs.Combinators.{number}
use Rattle.format.specs.Row.{start_in}
use Rattle.kind.specs.declared.Product.{Product}
use Rattle.rule.specs.Rule.{Rule, placed}
use Rattle.rule.specs.Places.{elements_at}
use Rattle.deck.specs.Written.{start_of}
use Rattle.given.specs.Given.{units}

-- the bytes of s from a place to another are bs
pub record Between (s : List ℕ) (from to : ℕ) (bs : List ℕ) : Type 0 where
  pub ends : to ≡ from + length bs
  pub are : take (to - from) (drop from s) ≡ bs

-- "exactly the bytes of its units": bs is what the units us are written as, and is read as them
abbrev pub UnitsOf : List ℕ → List ℕ → Type 0
UnitsOf us bs = (bs ≡ each_write (λ i. number 2) 0 us) × (units bs ≡ us)

-- element i of rule k of rs in version v, which is r, starts behind those before it
abbrev pub element_start : Product → ℕ → List Rule → ℕ → Rule → ℕ → ℕ
element_start p v rs k r i = start_in (placed p) (elements_at p k (start_of v rs k) r) r.elements i

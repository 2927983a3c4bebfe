-- Deck version 2 and back: document 02, W10. A conversion reads a deck of one version and writes the deck of the same rules in another.
use Rattle.std.specs.Prelude.{ℕ, ◌≡◌, List, leb, eqb, length, take, Some, None}
use Rattle.format.specs.declared.Fault.TheVariants as Fault
use Rattle.kind.specs.Answers.{Edition}
use Rattle.format.specs.Answers.{Outcome}
use Rattle.format.specs.Format.{Answer, got, refused, pick}
use Rattle.kind.specs.declared.Product.{Product}
use Rattle.kind.specs.Kinds.{edition_of}
use Rattle.rule.specs.Rule.{Rule}
use Rattle.deck.specs.Deck.{Deck, version, read_as}
use Rattle.deck.specs.Written.{deck_of}
use Rattle.plan.specs.Edit.{Plan, become, refuse, in_room, says, leaves}

-- a reading that takes one version alone: another is 5 at 3, as soon as it is read
abbrev pub only_in : ℕ → Answer ℕ → Answer Deck → Answer Deck
only_in v (got u n) a = pick (eqb u v) a (refused Fault.Version 3)
only_in v (refused c q) a = a

unfoldable pub read_only : Product → ℕ → List ℕ → Answer Deck
read_only p v s = pick (leb (length s) 60000) (only_in v (version.read s) (read_as p s)) (refused Fault.Long 60000)

-- its rules in version u, where there is room: "a conversion's 19 and 20 last"
abbrev pub in_other : ℕ → ℕ → Answer Deck → Plan Deck
in_other u cap (got k n) = in_room cap (become (deck_of u k.rules))
in_other u cap (refused c q) = refuse c q

abbrev pub plan_other : Edition → ℕ → ℕ → ℕ → List ℕ → Plan Deck
plan_other (Some p) v u cap s = in_other u cap (read_only p v s)
plan_other None v u cap s = refuse Fault.Edition 0

unfoldable pub other_plan : ℕ → ℕ → ℕ → ℕ → List ℕ → Plan Deck
other_plan edition v u cap s = plan_other (edition_of edition) v u cap s

-- the promise of a conversion from version v to u: r is answered, and the buffer d becomes d', from its start, "bytes past it stay"
abbrev pub Converts : ℕ → ℕ → ℕ → List ℕ → List ℕ → Outcome → List ℕ → Type 0
Converts edition v u s d r d' = (r ≡ says (other_plan edition v u (length d) s)) × (d' ≡ leaves 0 d (other_plan edition v u (length d) s))

-- s was the deck of some rules in version v; the first m bytes of d are that of the same rules in version u
pub record Converted (edition v u : ℕ) (s : List ℕ) (m : ℕ) (d : List ℕ) : Type 0 where
  pub product : Product
  pub rules : List Rule
  pub known : edition_of edition ≡ Some product
  pub was : read_as product s ≡ got (deck_of v rules) (length s)
  pub is : read_as product (take m d) ≡ got (deck_of u rules) m

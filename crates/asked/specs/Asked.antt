-- What is asked of rule k of a deck in an edition: document 01, "Tables and views".
use Rattle.std.specs.Prelude.{ℕ, List, [], ◌∷◌, drop, Result, Err, Some, None}
use Rattle.format.specs.declared.Fault.{Fault}
use Rattle.format.specs.declared.Refusal.{Refusal}
use Rattle.format.specs.declared.Refusal.TheVariants.{At}
use Rattle.format.specs.Format.{Answer, got, refused}
use Rattle.kind.specs.declared.Product.{Product}
use Rattle.kind.specs.Answers.{Edition}
use Rattle.kind.specs.Kinds.{edition_of}
use Rattle.rule.specs.Rule.{Rule}
use Rattle.deck.specs.Deck.{Deck, read_as}
use Rattle.deck.specs.Written.{start_of}

-- by what is told of a rule that starts at a place
module _ {A : Type 0} where
  -- "no such rule": 16 at 0
  abbrev pub asked_first : (ℕ → Rule → Result A Refusal) → ℕ → List Rule → Result A Refusal
  asked_first f at [] = Err (At Fault.Absent 0)
  asked_first f at (r ∷ rs) = f at r

  -- "the read's refusals without 14, then 16"
  abbrev pub asked_of : (Product → ℕ → Rule → Result A Refusal) → ℕ → Product → Answer Deck → Result A Refusal
  asked_of f k p (got d n) = asked_first (f p) (start_of d.version d.rules k) (drop k d.rules)
  asked_of f k p (refused c q) = Err (At c q)

  -- "asked for by deck, edition and numbers": 1 at 0 where the edition is none
  abbrev pub asked_by : (Product → ℕ → Rule → Result A Refusal) → ℕ → Edition → List ℕ → Result A Refusal
  asked_by f k (Some p) s = asked_of f k p (read_as p s)
  asked_by f k None s = Err (At Fault.Edition 0)

  unfoldable pub asked : (Product → ℕ → Rule → Result A Refusal) → ℕ → ℕ → List ℕ → Result A Refusal
  asked f edition k s = asked_by f k (edition_of edition) s

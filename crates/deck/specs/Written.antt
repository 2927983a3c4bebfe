-- The deck as it is written, which is the same in both editions: mark and version, the number of rules, the rules.
use Rattle.std.specs.Prelude.{ℕ, List, length}
use Rattle.format.specs.Row.{start_in}
use Rattle.kind.specs.declared.Product.TheVariants.{Studio}
use Rattle.rule.specs.Rule.{Rule, rule}
use Rattle.deck.specs.Deck.{Deck, deck, base_of}

-- the deck of a version and a list of rules
abbrev pub deck_of : ℕ → List Rule → Deck
deck_of v rs = record { version = v; rules = rs }

-- the deck written afresh from them
unfoldable pub written : ℕ → List Rule → List ℕ
written v rs = (deck Studio).write (deck_of v rs)

abbrev pub afresh : Deck → List ℕ
afresh k = written k.version k.rules

-- rule k starts behind the k rules before it
unfoldable pub start_of : ℕ → List Rule → ℕ → ℕ
start_of v rs k = start_in (rule Studio) (base_of v (length rs)) rs k

-- Where a rule stands: document 01, "Tables and views": "start, end".
use Rattle.std.specs.Prelude.{ℕ, ◌+◌, ◌-◌, List, length, Ok, Err}
use Rattle.format.specs.Format.{Answer, got, refused}
use Rattle.rule.specs.Rule.{Rule}
use Rattle.deck.specs.Deck.{Deck, base_of}
use Rattle.deck.specs.Written.{start_of}
use Rattle.spot.specs.declared.Site.{Site}
use Rattle.spot.specs.Laws.Answers.{Spot}
use Rattle.format.specs.declared.Refusal.TheVariants.{At}

-- the number of the last rule
abbrev pub last_of : List Rule → ℕ
last_of rs = length rs - 1

-- of a deck of n bytes: where its rules start, where the rule that is asked for starts and where it ends; past the last rule both are the end of the deck
abbrev pub site_of : (List Rule → ℕ) → ℕ → ℕ → List Rule → Site
site_of k n v rs = record { bytes = n; version = v; rules = length rs; base = base_of v (length rs); start = start_of v rs (k rs); end = start_of v rs (k rs + 1) }

abbrev pub located : (List Rule → ℕ) → Answer Deck → Spot
located k (got d n) = Ok (site_of k n d.version d.rules)
located k (refused c q) = Err (At c q)

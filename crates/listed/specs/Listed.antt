-- The lines of a deck, from its bytes, and of a rule and an element, from their rows of the tables too: document 01, "One deck whole".
use Rattle.std.specs.Prelude.{ℕ, ◌-◌, ◌/◌, Bool, false, List, eqb, length, get_or, drop}
use Rattle.format.specs.Format.{Answer, got, refused}
use Rattle.format.specs.Combinators.{number}
use Rattle.line.specs.Line.{deck_line, rule_line, element_line}

-- number j of a row
abbrev pub entry : List ℕ → ℕ → ℕ
entry row j = get_or row j 0

-- a version as it was read
abbrev pub version_in : Answer ℕ → ℕ
version_in (got version n) = version
version_in (refused c q) = 0

-- a deck, "version, bytes": the version stands behind the mark
unfoldable pub deck_listed : List ℕ → List ℕ
deck_listed s = deck_line (version_in ((number 2).read (drop 3 s))) (length s)

-- "state ON or OFF", of Enabled as it was read
abbrev pub is_on : Answer ℕ → Bool
is_on (got enabled n) = eqb enabled 1
is_on (refused c q) = false

-- rule k, "rule, state ON or OFF, name units, elements": Enabled stands where the row's fifth number says, right behind the name's units
unfoldable pub rule_listed : List ℕ → ℕ → List ℕ → List ℕ
rule_listed s k row = rule_line k (is_on ((number 4).read (drop (entry row 4) s))) ((entry row 4 - entry row 2) / 2) (entry row 3)

-- element j of its rule, "element within its rule, identifier in eight upper-case hex digits, data bytes"
unfoldable pub element_listed : ℕ → List ℕ → List ℕ
element_listed j row = element_line j (entry row 0) (entry row 3 - entry row 2)

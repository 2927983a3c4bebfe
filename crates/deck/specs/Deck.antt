-- The deck, and its reading whole: document 01, "The deck" and "Numbers a refusal gives".
use Rattle.std.specs.Prelude.{ℕ, ◌+◌, ◌*◌, refl, List, [], ◌∷◌, length, leb, eqb, Ok, Err, Some, None}
use Rattle.format.specs.declared.Fault.{Fault}
use Rattle.kind.specs.Answers.{Edition}
use Rattle.format.specs.Answers.{Outcome}
use Rattle.scan.specs.Answers.{Scan}
use Rattle.format.specs.declared.Refusal.TheVariants.{At}
use Rattle.format.specs.Format.{Answer, got, refused, Format, pick, whole}
use Rattle.format.specs.ReadWrite.{within}
use Rattle.format.specs.Combinators.{pair, judged, via, ◌then◌, number, count, bytes, counted}
use Rattle.format.specs.Indexed.{indexed}
use Rattle.format.specs.Row.{total}
use Rattle.kind.specs.declared.Product.{Product}
use Rattle.kind.specs.Kinds.{edition_of}
use Rattle.rule.specs.Rule.{Rule, rule, elements_in}

-- mark `RDK`
unfoldable pub mark : List ℕ
mark = 0x52 ∷ 0x44 ∷ 0x4B ∷ []

-- "number of rules, 0 to 256": 2 bytes
abbrev pub rule_count : Format ℕ
rule_count = count 2 0 256

-- mark; version, 1 or 2: 2 bytes
unfoldable pub version : Format ℕ
version = bytes mark Fault.Mark then judged (within 1 2) Fault.Version (number 2)

-- document 02, W10: "Version 2 has, after the number of rules, one 4-byte offset per rule, counted from the deck's start"; in version 1 an offset has no bytes
unfoldable pub wide : ℕ → ℕ
wide v = pick (eqb v 2) 4 0

-- number of rules; their offsets; "the rules, back to back"
unfoldable pub rule_list : Product → ℕ → Format (List Rule)
unfolding indexed
rule_list p v = counted rule_count (indexed (wide v) 7 Fault.Offset (rule p)) (λ n rs f. f.0)

-- what a deck says
pub record Deck : Type 0 where
  pub version : ℕ
  pub rules : List Rule

unfoldable pub deck : Product → Format Deck
deck p = via (pair version (rule_list p)) (λ q. record { version = q.0; rules = q.1 }) (λ k. (k.version, k.rules)) (λ q f. refl)

-- "deck over 60,000 bytes": 2; then "left to right", "to the last byte"
unfoldable pub read_as : Product → List ℕ → Answer Deck
read_as p s = pick (leb (length s) 60000) (whole (length s) ((deck p).read s)) (refused Fault.Long 60000)

-- "A read judges 1, then 2"
unfoldable pub read_by : Edition → List ℕ → Answer Deck
read_by (Some p) s = read_as p s
read_by None s = refused Fault.Edition 0

unfoldable pub read_deck : ℕ → List ℕ → Answer Deck
read_deck edition s = read_by (edition_of edition) s

-- "for a read it is the number of rules"
abbrev pub answered : Answer Deck → Outcome
answered (got k n) = Ok (length k.rules)
answered (refused c p) = Err (At c p)

-- the rules, n of them, start behind the offsets
unfoldable pub base_of : ℕ → ℕ → ℕ
base_of v n = 7 + wide v * n

-- a pass over the deck tells its version, where the rules start, their number and that of their elements
abbrev pub scanned : Answer Deck → Scan
scanned (got k n) = Ok (k.version, base_of k.version (length k.rules), length k.rules, total elements_in k.rules)
scanned (refused c p) = Err (At c p)

-- Reading with tables: document 01, "Tables and views" and "Numbers a refusal gives".
use Rattle.std.specs.Prelude.{ℕ, ◌*◌, List, leb, length, Ok, Err, Some, None}
use Rattle.format.specs.declared.Fault.TheVariants as Fault
use Rattle.kind.specs.Answers.{Edition}
use Rattle.format.specs.Answers.{Outcome}
use Rattle.format.specs.declared.Refusal.TheVariants.{At, Given}
use Rattle.format.specs.Format.{Answer, got, refused, pick}
use Rattle.format.specs.Row.{total}
use Rattle.kind.specs.declared.Product.{Product}
use Rattle.rule.specs.Rule.{elements_in}
use Rattle.deck.specs.Deck.{Deck, base_of, read_as}
use Rattle.fill.specs.Rows.{rule_width, element_width, rule_rows, all_element_rows}
use Rattle.buffer.specs.Laid.{put}

-- n rules and m elements in tables of so many numbers: "14 last, rule table first"
unfoldable pub in_tables : ℕ → ℕ → ℕ → ℕ → Outcome
in_tables n m rules elements = pick (leb (rule_width * n) rules) (pick (leb (element_width * m) elements) (Ok n) (Err (At Fault.Table 1))) (Err (At Fault.Table 0))

-- what a read answers
abbrev pub tabled : ℕ → ℕ → Answer Deck → Outcome
tabled rules elements (got k n) = in_tables (length k.rules) (total elements_in k.rules) rules elements
tabled rules elements (refused c q) = Err (At c q)

-- the tables at exit: where the read is done the rows put at their start, "Later entries stay as they were"; else as found
abbrev pub rules_left : Product → Outcome → Answer Deck → List ℕ → List ℕ
rules_left p (Ok n) (got k m) t = put t 0 (rule_rows p 0 (base_of k.version (length k.rules)) k.rules)
rules_left p (Ok n) (refused c q) t = t
rules_left p (Err (At c q)) a t = t
rules_left p (Err (Given c q)) a t = t

abbrev pub elements_left : Product → Outcome → Answer Deck → List ℕ → List ℕ
elements_left p (Ok n) (got k m) t = put t 0 (all_element_rows p 0 (base_of k.version (length k.rules)) k.rules)
elements_left p (Ok n) (refused c q) t = t
elements_left p (Err (At c q)) a t = t
elements_left p (Err (Given c q)) a t = t

-- by the edition: 1 at 0 where there is none
abbrev pub read_says : Edition → ℕ → ℕ → List ℕ → Outcome
read_says (Some p) rules elements s = tabled rules elements (read_as p s)
read_says None rules elements s = Err (At Fault.Edition 0)

abbrev pub rules_after : Edition → List ℕ → List ℕ → List ℕ → List ℕ
rules_after (Some p) s rules elements = rules_left p (tabled (length rules) (length elements) (read_as p s)) (read_as p s) rules
rules_after None s rules elements = rules

abbrev pub elements_after : Edition → List ℕ → List ℕ → List ℕ → List ℕ
elements_after (Some p) s rules elements = elements_left p (tabled (length rules) (length elements) (read_as p s)) (read_as p s) elements
elements_after None s rules elements = elements

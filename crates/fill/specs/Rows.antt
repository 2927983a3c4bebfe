-- The rows of a deck's rules and elements: document 01, "Tables and views".
use Rattle.std.specs.Prelude.{ℕ, ◌+◌, List, [], ◌∷◌, ◌++◌, length}
use Rattle.format.specs.Format.{Format}
use Rattle.kind.specs.declared.Product.{Product}
use Rattle.element.specs.Element.{Element}
use Rattle.rule.specs.Rule.{Rule, rule, placed, elements_in}
use Rattle.rule.specs.Places.{rule_bytes, units_at, enabled_at, elements_at, data_at}

-- the numbers of a row: document 02, W8, "14 now counts five numbers a rule. An element's row stays at four"
abbrev pub rule_width : ℕ
rule_width = 5

abbrev pub element_width : ℕ
element_width = 4

-- the rows of values that stand one behind the other from a place on, each by its number and its place
unfoldable pub rows_of : {A : Type 0} → (ℕ → Format A) → (ℕ → ℕ → A → List ℕ) → ℕ → ℕ → List A → List ℕ
rows_of a row i at [] = []
rows_of a row i at (x ∷ xs) = row i at x ++ rows_of a row (i + 1) (at + length ((a i).write x)) xs

-- "start, end, first byte of the name's units, number of elements"; document 02, W8: "a fifth number, the offset of that field", Enabled
abbrev pub rule_row : Product → ℕ → ℕ → Rule → List ℕ
rule_row p i at r = at ∷ (at + rule_bytes p i r) ∷ units_at at r ∷ elements_in r ∷ enabled_at at r ∷ []

abbrev pub rule_rows : Product → ℕ → ℕ → List Rule → List ℕ
rule_rows p = rows_of (rule p) (rule_row p)

-- "Per element, four: identifier, rule number, start and end of data"
abbrev pub element_row : Product → ℕ → ℕ → ℕ → Element → List ℕ
element_row p i j at x = x.0 ∷ i ∷ data_at j at ∷ (at + length ((placed p j).write x)) ∷ []

-- the elements of rule i that start at a place
abbrev pub element_rows : Product → ℕ → ℕ → List Element → List ℕ
element_rows p i at xs = rows_of (placed p) (element_row p i) 0 at xs

abbrev pub rule_element_rows : Product → ℕ → ℕ → Rule → List ℕ
rule_element_rows p i at r = element_rows p i (elements_at p i at r) r.elements

abbrev pub all_element_rows : Product → ℕ → ℕ → List Rule → List ℕ
all_element_rows p = rows_of (rule p) (rule_element_rows p)

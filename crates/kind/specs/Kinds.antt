-- The kinds of elements: document 01, "The deck", the table of identifiers and the two editions.
use Rattle.std.specs.Prelude.{ℕ, Bool, true, false, ◌||◌, List, [], ◌∷◌, ◌++◌, eqb, Ok, Err, Some, None}
use Rattle.format.specs.declared.Fault.{Fault}
use Rattle.kind.specs.Answers.{Edition, Row}
use Rattle.format.specs.declared.Refusal.TheVariants.{At}
use Rattle.format.specs.Fault.{Said}
use Rattle.format.specs.Format.{pick}
use Rattle.kind.specs.declared.Product.{Product}
use Rattle.kind.specs.declared.Product.TheVariants.{Desk, Studio}
use Rattle.kind.specs.declared.Role.{Role}
use Rattle.kind.specs.declared.Role.TheVariants.{Condition, Action, Exception}
use Rattle.kind.specs.declared.Kind.{Kind}
use Rattle.kind.specs.declared.Kind.TheVariants.{Marker, Simple, WordList, Size, Dates}

-- "two editions (1 Desk, 2 Studio)"
unfoldable pub edition_of : ℕ → Edition
edition_of n = pick (eqb n 1) (Some Desk) (pick (eqb n 2) (Some Studio) None)

-- the table: kind, identifiers (hex)
abbrev pub kinds : List (Kind × List ℕ)
kinds =
    (Marker, 0x64 ∷ [])
    ∷ (Simple Condition, 0xC8 ∷ 0xC9 ∷ 0xCA ∷ 0xDE ∷ 0xE2 ∷ 0xE3 ∷ 0xF5 ∷ [])
    ∷ (Simple Action, 0x12D ∷ 0x132 ∷ 0x13A ∷ 0x13B ∷ 0x142 ∷ 0x14A ∷ 0x14C ∷ 0x14F ∷ 0x152 ∷ [])
    ∷ (Simple Exception, 0x1F4 ∷ 0x1F5 ∷ 0x1F6 ∷ 0x208 ∷ 0x20A ∷ 0x20E ∷ 0x20F ∷ 0x216 ∷ 0x21A ∷ 0x21B ∷ [])
    ∷ (WordList, 0x211 ∷ 0x212 ∷ 0x213 ∷ 0x219 ∷ [])
    ∷ (Size Condition, 0xE0 ∷ [])
    ∷ (Size Exception, 0x20C ∷ [])
    ∷ (Dates Condition, 0xE1 ∷ [])
    ∷ (Dates Exception, 0x20D ∷ [])
    ∷ []

-- whether a list has the number, compared whole
unfoldable pub has : List ℕ → ℕ → Bool
has [] n = false
has (x ∷ xs) n = eqb n x || has xs n

-- the row that has an identifier; 9 where none has
unfoldable pub row_in : List (Kind × List ℕ) → ℕ → Row
row_in [] id = Err (At Fault.Unknown 0)
row_in ((k, ids) ∷ rows) id = pick (has ids id) (Ok k) (row_in rows id)

-- "Desk has the marker, simple conditions and simple actions"
abbrev pub in_desk : Kind → Bool
in_desk Marker = true
in_desk (Simple Condition) = true
in_desk (Simple Action) = true
in_desk (Simple Exception) = false
in_desk WordList = false
in_desk (Size r) = false
in_desk (Dates r) = false

-- "Studio has all 35"
abbrev pub in_product : Product → Kind → Bool
in_product Desk k = in_desk k
in_product Studio k = true

-- 10 where the row is not in the product
unfoldable pub offered : Product → Row → Row
offered p (Ok k) = pick (in_product p k) (Ok k) (Err (At Fault.Foreign 0))
offered p (Err why) = Err why

unfoldable pub row_of : Product → ℕ → Row
row_of p id = offered p (row_in kinds id)

-- ---- "An identifier alone takes an edition and answers its row of the kinds, or 1, 9 or 10 at 0"

-- a role by its number: 0 is none
abbrev pub role_number : Role → ℕ
role_number Condition = 1
role_number Action = 2
role_number Exception = 3

-- a kind by its row of document 01's table, from 0, and its role
abbrev pub kind_values : Kind → List ℕ
kind_values Marker = 0 ∷ 0 ∷ []
kind_values (Simple Condition) = 1 ∷ 1 ∷ []
kind_values (Simple Action) = 2 ∷ 2 ∷ []
kind_values (Simple Exception) = 3 ∷ 3 ∷ []
kind_values WordList = 4 ∷ 3 ∷ []
kind_values (Size r) = 5 ∷ role_number r ∷ []
kind_values (Dates r) = 6 ∷ role_number r ∷ []

-- the answer as document 01 has it
abbrev pub kind_says : Row → Said
kind_says (Ok k) = (Ok 0, kind_values k)
kind_says (Err why) = (Err why, [])

unfoldable pub row_by : Edition → ℕ → Said
row_by (Some p) id = kind_says (row_of p id)
row_by None id = (Err (At Fault.Edition 0), [])

unfoldable pub kind_of : ℕ → ℕ → Said
kind_of edition id = row_by (edition_of edition) id

-- the identifiers of a product: 17 in Desk, 35 in Studio
unfoldable pub identifiers : Product → List (Kind × List ℕ) → List ℕ
identifiers p [] = []
identifiers p ((k, ids) ∷ rows) = pick (in_product p k) ids [] ++ identifiers p rows

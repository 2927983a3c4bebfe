-- A rule: document 01, "The deck"; source document 001, sections 2.2.10 and 2.3.
use Rattle.std.specs.Prelude.{ℕ, refl, Bool, List, [], ◌∷◌, length, eqb}
use Rattle.format.specs.declared.Fault.{Fault}
use Rattle.format.specs.Format.{Format, pick}
use Rattle.format.specs.Combinators.{via, seq, ◌then◌, number, count, fixed, bytes, flag, each, counted, sized}
use Rattle.format.specs.Laws.Combinators.{then_fit, each_long}
use Rattle.text.specs.Text.{string, Text}
use Rattle.kind.specs.declared.Product.{Product}
use Rattle.element.specs.Element.{Element, element}

-- what a rule says; Data Size, the number of elements, heads and 8001s are not in it, since they follow from it
pub record Rule : Type 0 where
  pub signature : ℕ
  pub name : Text
  pub on : Bool
  pub unknown2 : ℕ
  pub unknown3 : ℕ
  pub unknown4 : ℕ
  pub unknown5 : ℕ
  pub elements : List Element

-- "number of elements, 1 to 64": 2 bytes
abbrev pub element_count : Format ℕ
element_count = count 2 1 64

-- "8001 (2 bytes)"
abbrev pub separator : Format (Unit {0})
separator = fixed 2 0x8001 Fault.Field

-- `CRuleElement`
unfoldable pub class_name : List ℕ
class_name = 0x43 ∷ 0x52 ∷ 0x75 ∷ 0x6C ∷ 0x65 ∷ 0x45 ∷ 0x6C ∷ 0x65 ∷ 0x6D ∷ 0x65 ∷ 0x6E ∷ 0x74 ∷ []

-- "head: first rule FFFF, 0000, 000C, `CRuleElement`; other rules 8001"
unfoldable pub class_head : Format (Unit {0})
class_head = fixed 2 0x0000 Fault.Field then fixed 2 0x000C Fault.Field then bytes class_name Fault.Field

unfoldable pub first_head : Format (Unit {0})
first_head = fixed 2 0xFFFF Fault.Field then class_head

unfoldable pub head : ℕ → Format (Unit {0})
head i = pick (eqb i 0) first_head separator

-- "elements, with 8001 between two of one rule": the element at place j of its rule
unfoldable pub placed : Product → ℕ → Format Element
placed p j = pick (eqb j 0) (element p) (separator then element p)

-- the number of elements, the head of rule i, the elements
unfoldable pub body : Product → ℕ → Format (List Element)
body p i = counted element_count (λ n. head i then each (placed p) 0 n) (λ n xs f. each_long (placed p) 0 n xs (then_fit (head i) (each (placed p) 0 n) xs f))

-- the fields of rule i in order: signature and Unknown1, name, Enabled, Unknown2 to Unknown5, Data Size and what it counts
unfoldable pub from_unknown4 : Product → ℕ → Format (ℕ × (ℕ × List Element))
from_unknown4 p i = seq (number 4) (seq (number 4) (sized Fault.Size (body p i)))

unfoldable pub from_unknown2 : Product → ℕ → Format (ℕ × (ℕ × (ℕ × (ℕ × List Element))))
from_unknown2 p i = seq (number 4) (seq (number 4) (from_unknown4 p i))

unfoldable pub fields : Product → ℕ → Format (ℕ × (Text × (Bool × (ℕ × (ℕ × (ℕ × (ℕ × List Element)))))))
fields p i = seq (number 4) (seq string (seq flag (from_unknown2 p i)))

unfoldable pub rule : Product → ℕ → Format Rule
rule p i = via (fields p i)
    (λ f. record { signature = f.0; name = f.1.0; on = f.1.1.0; unknown2 = f.1.1.1.0; unknown3 = f.1.1.1.1.0; unknown4 = f.1.1.1.1.1.0; unknown5 = f.1.1.1.1.1.1.0; elements = f.1.1.1.1.1.1.1 })
    (λ r. (r.signature, (r.name, (r.on, (r.unknown2, (r.unknown3, (r.unknown4, (r.unknown5, r.elements))))))))
    (λ f h. refl)

-- "number of elements"
abbrev pub elements_in : Rule → ℕ
elements_in r = length r.elements

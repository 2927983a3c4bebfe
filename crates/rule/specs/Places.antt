-- Where the parts of a rule stand: behind what is written before them.
use Rattle.std.specs.Prelude.{ℕ, ◌+◌, ◌-◌, List, length, eqb}
use Rattle.format.specs.Format.{pick}
use Rattle.format.specs.ReadWrite.{each_write}
use Rattle.kind.specs.declared.Product.{Product}
use Rattle.text.specs.Text.{string, units_from}
use Rattle.element.specs.Element.{Element}
use Rattle.rule.specs.Rule.{Rule, rule, placed}

-- the bytes of rule i, and of a rule's elements
abbrev pub rule_bytes : Product → ℕ → Rule → ℕ
rule_bytes p i r = length ((rule p i).write r)

abbrev pub elements_bytes : Product → List Element → ℕ
elements_bytes p xs = length (each_write (placed p) 0 xs)

-- the first byte of the units of a rule's name: behind the signature and the String's length
abbrev pub units_at : ℕ → Rule → ℕ
units_at at r = units_from (at + 4) r.name

-- a rule's Enabled: behind the signature and the name
abbrev pub enabled_at : ℕ → Rule → ℕ
enabled_at at r = at + 4 + length (string.write r.name)

-- a rule's elements end where it ends
abbrev pub elements_at : Product → ℕ → ℕ → Rule → ℕ
elements_at p i at r = (at + rule_bytes p i r) - elements_bytes p r.elements

-- the data of the element at place j of its rule: behind the identifier; 8001 stands before all but the first
abbrev pub data_at : ℕ → ℕ → ℕ
data_at j at = at + pick (eqb j 0) 4 6

-- The fixed fields of a rule: document 01, "Tables and views".
use Rattle.std.specs.Prelude.{ℕ, List, [], ◌∷◌, Ok, Err}
use Rattle.fixed.specs.Answers.{Fielded}
use Rattle.format.specs.Fault.{Said}
use Rattle.format.specs.ReadWrite.{bit}
use Rattle.rule.specs.Rule.{Rule}
use Rattle.asked.specs.Asked.{asked}
use Rattle.rule.specs.declared.Fields.{Fields}

-- "(signature with Unknown1, Enabled, Unknown2 to Unknown5) are read as one value"
abbrev pub fixed_of : Rule → Fields
fixed_of r = record { signature = r.signature; on = r.on; unknown2 = r.unknown2; unknown3 = r.unknown3; unknown4 = r.unknown4; unknown5 = r.unknown5 }

abbrev pub fixed_at : ℕ → Rule → Fielded
fixed_at at r = Ok (fixed_of r)

unfoldable pub fixed_fields : ℕ → ℕ → List ℕ → Fielded
fixed_fields edition k s = asked (λ p. fixed_at) edition k s

-- by their numbers, on as 1 and off as 0
abbrev pub fields_values : Fields → List ℕ
fields_values f = f.signature ∷ bit f.on ∷ f.unknown2 ∷ f.unknown3 ∷ f.unknown4 ∷ f.unknown5 ∷ []

-- the answer as document 01 has it: "the read's refusals without 14, then 16"; where it is accepted, "otherwise 0"
abbrev pub fields_say : Fielded → Said
fields_say (Ok f) = (Ok 0, fields_values f)
fields_say (Err why) = (Err why, [])

abbrev pub fields_answer : ℕ → ℕ → List ℕ → Said
fields_answer edition k s = fields_say (fixed_fields edition k s)

-- What callers can hand over: bytes, and numbers of 32 bits. Every edit that can be asked for is handed over so, by the types of what is lent.
use Rattle.std.specs.Prelude.{◌<◌, ◌^◌}
use Rattle.format.specs.Format.{Bytes}
use Rattle.rule.specs.declared.Fields.{Fields}
use Rattle.plan.specs.Edit.{Edit, switch, rename, remove, insert, add_rule, add_element, add_word}

abbrev pub HandedFields : Fields → Type 0
HandedFields f = (f.signature < 256 ^ 4) × ((f.unknown2 < 256 ^ 4) × ((f.unknown3 < 256 ^ 4) × ((f.unknown4 < 256 ^ 4) × (f.unknown5 < 256 ^ 4))))

unfoldable pub Handed : Edit → Type 0
Handed (switch k on) = Unit {0}
Handed (rename k name) = Bytes name
Handed (remove k) = Unit {0}
Handed (insert k second j) = Bytes second
Handed (add_rule name f id s) = Bytes name × (HandedFields f × ((id < 256 ^ 4) × Bytes s))
Handed (add_element id s) = (id < 256 ^ 4) × Bytes s
Handed (add_word word) = Bytes word

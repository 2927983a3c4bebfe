-- What goes back over the products' door: "one 64-bit number, code plus 256 times place".
use Rattle.std.specs.Prelude.{ℕ, ◌/◌, ◌%◌, ◌≡◌, Bool, List, eqb, length}
use Rattle.format.specs.Fault.{packed, Said}
use Rattle.format.specs.Format.{pick}
use Rattle.date.specs.Double.{accepted}
use Rattle.moment.specs.Moment.{SaysBy}
use Rattle.lent.specs.Lent.{lent_says, lent_leaves, moment_width}
use Rattle.rule.specs.declared.Fields.{Fields}
use Rattle.plan.specs.Edit.{Edit, planned, says, leaves}
use Rattle.plan.specs.Handed.{Handed}
use Rattle.convert.specs.Convert.{other_plan}

-- the promise of every call with a table for its result: the library's own, packed
abbrev pub Hands : ℕ → List ℕ → Said → ℕ → List ℕ → Type 0
Hands width t x r t' = (r ≡ packed (lent_says width (length t) x)) × (t' ≡ lent_leaves width t x)

abbrev pub HandsMoment : ℕ → List ℕ → ℕ → List ℕ → Type 0
HandsMoment bits t r t' = (x : Said) × (SaysBy (accepted bits) bits x × Hands moment_width t x r t')

-- a rule's fixed fields, one after the other
abbrev pub fields_of : ℕ → Bool → ℕ → ℕ → ℕ → ℕ → Fields
fields_of signature on unknown2 unknown3 unknown4 unknown5 = record { signature = signature; on = on; unknown2 = unknown2; unknown3 = unknown3; unknown4 = unknown4; unknown5 = unknown5 }

-- the promise of every edit: the library's own, packed; and it was handed over as bytes and numbers of 32 bits
abbrev pub Sends : ℕ → ℕ → Edit → List ℕ → ℕ → List ℕ → Type 0
Sends edition n e d r d' = Handed e × ((r ≡ packed (says (planned edition n d e))) × (d' ≡ leaves n d (planned edition n d e)))

-- the promise of a conversion: the library's own, packed
abbrev pub SendsOther : ℕ → ℕ → ℕ → List ℕ → List ℕ → ℕ → List ℕ → Type 0
SendsOther edition v u s d r d' = (r ≡ packed (says (other_plan edition v u (length d) s))) × (d' ≡ leaves 0 d (other_plan edition v u (length d) s))

-- the length to go on with: its place where its code is 0, after a refusal the old one
abbrev pub length_sent : ℕ → ℕ → ℕ
length_sent n r = pick (eqb (r % 256) 0) (r / 256) n

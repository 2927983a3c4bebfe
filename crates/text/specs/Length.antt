-- The length of a String: document 01, "The deck"; document 02, W5; source document 001, section 2.2.2.
use Rattle.std.specs.Prelude.{ℕ, refl, leb, eqb}
use Rattle.format.specs.declared.Fault.TheVariants as Fault
use Rattle.format.specs.Format.{Format, pick}
use Rattle.format.specs.Combinators.{via, judged, nothing, number}
use Rattle.text.specs.declared.Form.{Form}
use Rattle.text.specs.declared.Form.TheVariants.{Short, Long}

-- what it says: "which form it had", and how many units
abbrev pub Length : Type 0
Length = Form × ℕ

-- the long form: "a 2-byte length follows"; "7 remains for more than 255 units"
unfoldable pub long_length : Format ℕ
long_length = judged (λ n. leb n 255) Fault.Form (number 2)

abbrev pub in_long : Format Length
in_long = via long_length (λ n. (Long, n)) (λ l. l.1) (λ n f. refl)

-- the short form: the length byte was the number of units
abbrev pub in_short : ℕ → Format Length
in_short b = via nothing (λ u. (Short, b)) (λ l. tt) (λ u f. refl)

-- "FF means that a 2-byte length follows"
unfoldable pub length_behind : ℕ → Format Length
length_behind b = pick (eqb b 255) in_long (in_short b)

-- the length byte
abbrev pub length_byte : Length → ℕ
length_byte (Short, n) = n
length_byte (Long, n) = 255

-- A date of 8 bytes: document 01, "Dates"; source document 001, section 2.4.11.
use Rattle.std.specs.Prelude.{ℕ}
use Rattle.format.specs.declared.Fault.TheVariants as Fault
use Rattle.format.specs.Format.{Format}
use Rattle.format.specs.Combinators.{judged, number}
use Rattle.date.specs.Double.{accepted}

-- its value is its bits, so that it is written as it was read
unfoldable pub date : Format ℕ
date = judged accepted Fault.Date (number 8)

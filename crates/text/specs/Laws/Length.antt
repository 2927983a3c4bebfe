-- Law of ../Length.antt: the byte before a length is told by it.
use Rattle.std.specs.Prelude.{ℕ, ◌≡◌, Bool, true, false, eqb}
use Rattle.std.proofs.Common.{sym, ap, ◌∙◌, eqb-true}
use Rattle.format.specs.Format.{pick}
use Rattle.format.specs.Combinators.{via}
use Rattle.text.specs.Length.{Length, in_long, in_short, length_byte}

pub length_byte_lem : (b : ℕ) (l : Length) (t : Bool) → eqb b 255 ≡ t → (pick t in_long (in_short b)).Fit l → length_byte l ≡ b
unfolding pick via
length_byte_lem b l true e f = ap length_byte (sym f.1) ∙ sym (eqb-true b 255 e)
length_byte_lem b l false e f = ap length_byte (sym f.1)

use native.Mathlib.Omega.{arith}
use mathlib.Core.Path.{ap, ◌∙◌}
use Rattle.date.specs.Double.{accepted}
use Rattle.date.proofs.Range.{nan_out, no_nan}
use Rattle.date.proofs.Floats.{bits_back}
use Rattle.date.proofs.is_date.Goals as goal

pub returns-then-bits-gt-INFINITY : goal.returns-then-bits-gt-INFINITY
returns-then-bits-gt-INFINITY c = nan_out c.args.bits c.if-bits-gt-INFINITY.true

pub float_from_bits-bits : goal.float_from_bits-bits
float_from_bits-bits c = no_nan c.args.bits c.if-bits-gt-INFINITY.false

pub returns : goal.returns
returns c =
    let bits = c.args.bits in
    c.in_range.ensures ∙ ap accepted (bits_back bits (omega arith) (no_nan bits c.if-bits-gt-INFINITY.false))

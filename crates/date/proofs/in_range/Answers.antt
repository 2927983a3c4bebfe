use mathlib.Core.Path.{refl, ◌∙◌}
use lib.Ieee.{of_bits, neg}
use Rattle.date.proofs.Floats.{float_both, float_low}
use Rattle.date.proofs.in_range.Goals as goal

pub returns-then-days : goal.returns-then-days
unfolding of_bits neg
returns-then-days c = float_both c.args.days c.well_formed.0.1 _ c.if-days.true refl

pub returns-else-days : goal.returns-else-days
unfolding of_bits neg
returns-else-days c = c.if-days.false ∙ float_low c.args.days c.well_formed.0.1 c.if-days.false

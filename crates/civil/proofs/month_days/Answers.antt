use mathlib.Core.Path.{◌∙◌}
use Rattle.civil.proofs.Table.{month_is}
use Rattle.civil.proofs.month_days.Goals as goal

pub returns : goal.returns
returns c = c.from.ensures ∙ month_is _ _ _ c.row_of-i.ensures.0

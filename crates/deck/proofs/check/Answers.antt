use mathlib.Core.Path.{◌∙◌}
use Rattle.deck.proofs.check.Goals as goal

pub returns : goal.returns
returns c = c.scan_says.ensures ∙ c.pass.ensures.1

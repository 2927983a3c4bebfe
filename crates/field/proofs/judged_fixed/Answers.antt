use Rattle.format.specs.Laws.Seen.{fixing}
use Rattle.field.proofs.judged_fixed.Goals as goal

pub returns-in_default : goal.returns-in_default
returns-in_default c = search fixing

pub returns-then-n-v : goal.returns-then-n-v
returns-then-n-v c = search fixing

pub returns : goal.returns
returns c = search fixing

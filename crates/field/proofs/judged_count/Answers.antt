use Rattle.format.specs.Laws.Seen.{counting}
use Rattle.field.proofs.judged_count.Goals as goal

pub returns-in_default : goal.returns-in_default
returns-in_default c = search counting

pub returns-then-n-low : goal.returns-then-n-low
returns-then-n-low c = search counting

pub returns-then-high-n : goal.returns-then-high-n
returns-then-high-n c = search counting

pub returns : goal.returns
returns c = search counting

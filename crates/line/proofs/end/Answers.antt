use Rattle.line.specs.Laws.Line.{end_is}
use Rattle.line.specs.Laws.Adds.{lined_as}
use Rattle.line.proofs.end.Goals as goal

pub returns : goal.returns
returns c = lined_as c.numbers.ensures (end_is _ _)

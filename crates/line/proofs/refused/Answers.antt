use Rattle.line.specs.Laws.Line.{refused_is}
use Rattle.line.specs.Laws.Adds.{lined_as}
use Rattle.line.proofs.refused.Goals as goal

pub returns : goal.returns
returns c = lined_as c.numbers.ensures (refused_is _ _)

use native.Mathlib.Omega.{arith}
use Rattle.line.specs.Laws.Line.{rule_is}
use Rattle.line.specs.Laws.Adds.{and, adds_as, adds_line}
use Rattle.line.proofs.rule.Goals as goal

pub returns : goal.returns
returns c = adds_line (adds_as (and (and (and (and (and c.add-a.ensures c.add_number-b.ensures.0) c.add_state-c.ensures.0) c.add_number-d.ensures.0) c.add_number-e.ensures.0) c.add.ensures) (rule_is _ _ _ _)) (omega arith) (omega arith)

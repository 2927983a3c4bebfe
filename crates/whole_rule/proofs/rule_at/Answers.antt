use native.Mathlib.Omega.{arith}
use Rattle.rule.specs.Laws.Rule.{rule_past}
use Rattle.format.specs.Laws.Parts.{part_got, part_further, part_ends}
use Rattle.whole_rule.proofs.rule_at.Goals as goal

pub returns-then-s-at : goal.returns-then-s-at
returns-then-s-at c = rule_past _ _ _ _ c.if-s-at.true

pub overflow_add-result : goal.overflow_add-result
overflow_add-result c = omega (arith, part_ends _ _ c.args.s.now c.args.at c.if-s-at.false c.read_rule-r.ensures c.in-Ok.is)

pub returns-in-Ok : goal.returns-in-Ok
returns-in-Ok c = part_got _ _ _ _ c.read_rule-r.ensures c.in-Ok.is

pub returns-in-Err : goal.returns-in-Err
returns-in-Err c = part_further _ _ c.args.s.now c.args.at c.if-s-at.false (omega arith) c.read_rule-r.ensures c.in-Err.is c.further.ensures

use native.Mathlib.Omega.{arith}
use Rattle.element.specs.Laws.Element.{element_past}
use Rattle.format.specs.Laws.Parts.{part_got, part_further, part_ends}
use Rattle.identified.proofs.element_at.Goals as goal

pub returns-then-s-at : goal.returns-then-s-at
returns-then-s-at c = element_past _ _ _ c.if-s-at.true

pub overflow_add-result : goal.overflow_add-result
overflow_add-result c = omega (arith, part_ends _ _ c.args.s.now c.args.at c.if-s-at.false c.read_element-r.ensures c.in-Ok.is)

pub returns-in-Ok : goal.returns-in-Ok
returns-in-Ok c = part_got _ _ _ _ c.read_element-r.ensures c.in-Ok.is

pub returns-in-Err : goal.returns-in-Err
returns-in-Err c = part_further _ _ c.args.s.now c.args.at c.if-s-at.false (omega arith) c.read_element-r.ensures c.in-Err.is c.further.ensures

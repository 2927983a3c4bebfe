use native.Mathlib.Omega.{arith}
use Rattle.listed.specs.Laws.Listed.{element_listed_lem}
use Rattle.listed.proofs.element_line.Goals as goal

pub returns-then-end-start : goal.returns-then-end-start
returns-then-end-start c = element_listed_lem _ _ c.entry-identifier.ensures c.entry-start.ensures c.entry-end.ensures (omega arith) c.element.ensures

pub returns : goal.returns
returns c = element_listed_lem _ _ c.entry-identifier.ensures c.entry-start.ensures c.entry-end.ensures (omega arith) c.element-2.ensures

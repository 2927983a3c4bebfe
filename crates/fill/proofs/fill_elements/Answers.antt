use native.Mathlib.Omega.{arith}
use mathlib.Core.Path.{◌∙◌}
use Rattle.format.specs.Laws.Format.{bytes_all}
use Rattle.format.specs.Laws.Back.{seen_ends}
use Rattle.element.specs.Laws.Element.{named}
use Rattle.fill.specs.Laws.Fill.{elements_start, elements_done, elements_stop, elements_fill, under_stop, identifier_small}
use borrow.Author.Rules.{rules}
use Rattle.fill.proofs.fill_elements.Goals as goal

pub loop-j-init : goal.loop-j-init
loop-j-init c = (elements_start _ _ _ _ _ _ _ _, (search rules, omega arith))

pub returns-in_default : goal.returns-in_default
returns-in_default c = (elements_stop _ _ _ _ _ _ _ _ _ _ _ c.loop-j.invariant.0 c.loop-j-test.true c.placed_at-r.ensures c.in_default.is, under_stop named _ _ _ c.placed_at-r.ensures c.in_default.is (omega arith))

pub overflow_cast-row : goal.overflow_cast-row
overflow_cast-row c = record { fits = identifier_small _ _ _ _ (bytes_all _ c.shared_slice_known-1.given) c.placed_at-r.ensures c.in-Ok.is }

pub overflow_add-row : goal.overflow_add-row
overflow_add-row c = omega (arith, seen_ends named _ _ _ c.placed_at-r.ensures c.in-Ok.is)

pub overflow_cast-row-in-loop-j-3 : goal.overflow_cast-row-in-loop-j-3
overflow_cast-row-in-loop-j-3 c = omega (arith, seen_ends named _ _ _ c.placed_at-r.ensures c.in-Ok.is)

pub loop-j-preserved : goal.loop-j-preserved
loop-j-preserved c = (elements_fill _ _ _ _ _ _ _ _ _ _ _ c.loop-j.invariant.0 c.loop-j-test.true c.placed_at-r.ensures c.in-Ok.is c.data_start-d.ensures.0 c.put_row.ensures, (c.put_row.auto.t ∙ c.loop-j.invariant.1.0, omega (arith, seen_ends named _ _ _ c.placed_at-r.ensures c.in-Ok.is)))

pub returns : goal.returns
returns c = (elements_done _ _ _ _ _ _ _ _ _ _ _ c.loop-j.invariant.0 c.loop-j-test.false, (search rules, omega arith))

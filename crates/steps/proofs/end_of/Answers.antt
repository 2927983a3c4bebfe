use native.Mathlib.Omega.{arith}
use Rattle.format.specs.Laws.Format.{bytes_all}
use Rattle.format.specs.Laws.Seen.{number_got, seen_own}
use Rattle.format.specs.Laws.Fours.{fours_got}
use Rattle.steps.specs.Laws.Steps.{name_own, following}
use borrow.Author.Rules.{rules}
use Rattle.steps.proofs.end_of.Goals as goal

pub returns-in_default : goal.returns-in_default
returns-in_default c = (search (rules, following), name_own _ _ c.name_end-t.ensures)

pub returns-in_default-f : goal.returns-in_default-f
returns-in_default-f c = (search (rules, following), seen_own _ _ _ _ c.numbers_at-f.ensures)

pub overflow_add-e : goal.overflow_add-e
overflow_add-e c = omega (arith, (fours_got c.args.s.now c.in-Ok.e 6 c.numbers_at-f.ensures c.in-Ok-f.is).0)

pub returns-in_default-z : goal.returns-in_default-z
returns-in_default-z c = (search (rules, following), seen_own _ _ _ _ c.u32_at-z.ensures)

pub overflow_add-end : goal.overflow_add-end
overflow_add-end c = omega (arith, number_got 4 c.args.s.now _ (bytes_all c.args.s.now c.shared_slice_known-1.given) (omega arith) c.u32_at-z.ensures c.in-Ok-z.is)

pub returns-then-s-end : goal.returns-then-s-end
returns-then-s-end c = (search (rules, following), tt)

pub returns : goal.returns
returns c = (search (rules, following), tt)

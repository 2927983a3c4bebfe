use Rattle.steps.specs.Laws.Steps.{name_within, name_got}
use Rattle.format.specs.Laws.Format.{bytes_all}
use native.Mathlib.Omega.{arith}
use Rattle.add_element.specs.Laws.Element.{element_none, element_uncounted, element_full, element_given, element_done}
use Rattle.plan.specs.Laws.Last.{last_unnamed}
use borrow.Author.Rules.{rules}
use Rattle.add_element.proofs.element_in.Goals as goal

pub returns-then-f-eq0 : goal.returns-then-f-eq0
returns-then-f-eq0 c = search (rules, element_none)

pub returns-in_err-e : goal.returns-in_err-e
returns-in_err-e c = last_unnamed _ _ _ _ _ _ c.if-f-eq0.false c.name_end.ensures c.in_err-e.was

pub overflow_add-e : goal.overflow_add-e
overflow_add-e c = let w = name_within c.args.buf.now c.args.f.start (omega (arith, c.requires.order, c.requires.inside, c.requires.room)) in search (rules, w, name_got _ _ c.name_end.ensures c.in_ok-e.was)

pub returns-in_err-count : goal.returns-in_err-count
returns-in_err-count c = element_uncounted _ _ _ _ _ _ _ c.if-f-eq0.false (name_got _ _ c.name_end.ensures c.in_ok-e.was) c.u16_at.ensures c.in_err-count.was

pub returns-then-count-ge64 : goal.returns-then-count-ge64
returns-then-count-ge64 c = element_full _ _ _ _ _ c.if-f-eq0.false (name_got _ _ c.name_end.ensures c.in_ok-e.was) c.u16_at.ensures c.in_ok-count.was c.if-count-ge64.true

pub returns-in_err-in_given : goal.returns-in_err-in_given
returns-in_err-in_given c = element_given _ _ _ _ _ c.if-f-eq0.false (name_got _ _ c.name_end.ensures c.in_ok-e.was) c.u16_at.ensures c.in_ok-count.was (omega arith) c.given_element.ensures c.in_given.ensures c.in_err-in_given.was (search rules)

pub grow-requires : goal.grow-requires
grow-requires c = let w = name_within c.args.buf.now c.args.f.start (omega (arith, c.requires.order, c.requires.inside, c.requires.room)) in (omega (arith, w, name_got _ _ c.name_end.ensures c.in_ok-e.was), c.requires.short, search rules)

pub returns : goal.returns
returns c = element_done _ _ _ _ _ _ _ c.if-f-eq0.false (name_got _ _ c.name_end.ensures c.in_ok-e.was) c.u16_at.ensures c.in_ok-count.was (omega arith) (bytes_all c.args.s.now c.shared_slice_known-1.given) c.given_element.ensures c.in_given.ensures c.in_ok-in_given.was c.grow.ensures

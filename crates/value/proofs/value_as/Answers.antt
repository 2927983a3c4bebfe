use native.Mathlib.Omega.{arith}
use Rattle.value.specs.Laws.Places.{value_no, value_over}
use borrow.Author.Rules.{rules}
use Rattle.std.proofs.Common.{refl}
use Rattle.value.proofs.value_as.Goals as goal

pub returns-in_err-e : goal.returns-in_err-e
returns-in_err-e c = value_no _ _ _ c.data_at.ensures c.in_given.ensures c.in_err-e.was (search (rules, c.in_err-e.was))

pub returns-then-e-s : goal.returns-then-e-s
returns-then-e-s c = value_over _ _ _ c.data_at.ensures c.in_given.ensures c.in_ok-e.was (omega (arith, c.before)) refl

use Prim.Native.Nat.{◌+◌, ◌-◌}
use native.Mathlib.Omega.{arith}
use mathlib.Core.Path.{◌≡◌, ◌∙◌}
use Rattle.rule.specs.Rule.{from_unknown2, from_unknown4}
use Rattle.format.specs.Laws.Fours.{fours_got, fours_no, four_on, four_no, size_no}
use Rattle.whole_rule.proofs.unknown2_at.Goals as goal

pub returns-in_default : goal.returns-in_default
unfolding from_unknown2 from_unknown4
returns-in_default c =
    let o = c.args in
    let w = fours_no o.s.now o.at 5 c.numbers_at-u.ensures c.in_default.is in
    w.1 ∙ four_no _ _ _ _ 4 w.0 (λ l x. four_no _ _ _ _ 3 l (λ l x. four_no _ _ _ _ 2 l (λ l x. four_no _ _ _ _ 1 l (λ l x. size_no _ _ _ _ _ l))))

pub overflow_sub-p : goal.overflow_sub-p
overflow_sub-p c = omega (arith, (fours_got c.args.s.now c.args.at 5 c.numbers_at-u.ensures c.in-Ok.is).1)

pub returns : goal.returns
unfolding from_unknown2 from_unknown4
returns c =
    let w = fours_got c.args.s.now c.args.at 5 c.numbers_at-u.ensures c.in-Ok.is in
    let e : c.in-Ok.p - 4 ≡ c.args.at + 4 + 4 + 4 + 4 = omega (arith, w.1) in
    four_on _ _ _ _ (omega arith) (λ x. four_on _ _ _ _ (omega arith) (λ x. four_on _ _ _ _ (omega arith) (λ x. four_on _ _ _ _ (omega arith) (λ x. rw e at c.sized_at.ensures))))

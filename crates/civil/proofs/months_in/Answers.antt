use Prim.Native.Nat.{◌+◌}
use native.Mathlib.Omega.{arith}
use borrow.Author.Rules.{rules}
use Rattle.civil.specs.Laws.Steps.{months, turn, fewer}
use Rattle.civil.proofs.months_in.Goals as goal

pub loop-left-init : goal.loop-left-init
loop-left-init c = (omega (arith, (months c.args.y).none), search rules)

pub returns-then-left-d : goal.returns-then-left-d
returns-then-left-d c = (record { sum = c.loop-left.invariant.0; inside = omega arith }, c.loop-left.invariant.1)

pub loop-left-preserved : goal.loop-left-preserved
loop-left-preserved c =
    let l = c.loop-left in
    let sum = months c.args.y in
    let e = turn sum _ _ _ _ l.invariant.0 c.month_days-d.ensures c.if-left-d.false in
    (e, fewer sum (l.m + 1) 12 (omega arith))

use Prim.Native.Nat.{◌%◌}
use mathlib.Core.Bool.{true, false}
use native.Mathlib.Omega.{arith}
use borrow.Author.Rules.{rules}
use borrow.Author.Tests.{eq-eqb, ne_eqb}
use Rattle.civil.proofs.Table.{row_is}
use Rattle.civil.proofs.row_of.Goals as goal

pub returns-then-y-eq0 : goal.returns-then-y-eq0
returns-then-y-eq0 c = let y = c.args.y in (row_is y true true true (eq-eqb (y % 4) 0 (omega arith)) (eq-eqb (y % 100) 0 (omega arith)) (eq-eqb _ _ c.if-y-eq0.true), search rules)

pub returns-then-y-eq0-2 : goal.returns-then-y-eq0-2
returns-then-y-eq0-2 c = let y = c.args.y in (row_is y true true false (eq-eqb (y % 4) 0 (omega arith)) (eq-eqb _ _ c.if-y-eq0-2.true) (ne_eqb _ _ c.if-y-eq0.false), search rules)

pub returns-then-y-eq0-3 : goal.returns-then-y-eq0-3
returns-then-y-eq0-3 c = (row_is c.args.y true false false (eq-eqb _ _ c.if-y-eq0-3.true) (ne_eqb _ _ c.if-y-eq0-2.false) (ne_eqb _ _ c.if-y-eq0.false), search rules)

pub returns : goal.returns
returns c = (row_is c.args.y false false false (ne_eqb _ _ c.if-y-eq0-3.false) (ne_eqb _ _ c.if-y-eq0-2.false) (ne_eqb _ _ c.if-y-eq0.false), search rules)

use native.Mathlib.Omega.{arith}
use mathlib.Core.Path.{refl}
use Rattle.format.specs.Laws.Seen.{parts_off, parts_got}
use Rattle.wire.proofs.fixed96_at.Goals as goal

pub returns-then-value_at-first : goal.returns-then-value_at-first
returns-then-value_at-first c = parts_off 8 4 _ _ _ c.args.s.now c.args.at c.value_at.ensures refl (omega arith) (omega arith) (omega arith) (λ e l. c.if-value_at-first.true e)

pub returns-then-value_at-last : goal.returns-then-value_at-last
returns-then-value_at-last c = parts_off 8 4 _ _ _ c.args.s.now c.args.at c.value_at.ensures c.value_at-2.ensures (omega arith) (omega arith) (omega arith) (λ e l. c.if-value_at-last.true l)

pub returns : goal.returns
returns c = parts_got 8 4 _ _ _ c.args.s.now c.args.at c.value_at.ensures c.value_at-2.ensures (omega arith) c.if-value_at-first.false c.if-value_at-last.false

use native.Mathlib.Omega.{arith}
use Rattle.format.specs.Laws.Format.{bytes_all}
use Rattle.format.specs.Laws.Seen.{number_got}
use mathlib.Core.Path.{◌∙◌}
use Rattle.format.specs.Laws.Sizes.{sizing, sized_is}
use Rattle.whole_rule.proofs.sized_at.Goals as goal

pub returns-in_default : goal.returns-in_default
returns-in_default c = search sizing

pub returns-in_default-rest : goal.returns-in_default-rest
returns-in_default-rest c = search sizing

pub overflow_add-p : goal.overflow_add-p
overflow_add-p c = omega (arith, number_got 4 c.args.s.now c.args.at (bytes_all c.args.s.now c.shared_slice_known-1.given) (omega arith) c.u32_at-d.ensures c.in-Ok.is)

pub returns-then-p-size : goal.returns-then-p-size
returns-then-p-size c = search sizing

pub returns : goal.returns
returns c = c.in-Ok-rest.is ∙ sized_is _ _ _ _ _ c.u32_at-d.ensures c.in-Ok.is c.body_at-rest.ensures c.in-Ok-rest.is c.if-p-size.false

use native.Mathlib.Omega.{arith}
use Rattle.plan.specs.Laws.Makes.{makes_unnamed}
use Rattle.switch.proofs.switch_at.Goals as goal

pub returns-in_err-e : goal.returns-in_err-e
returns-in_err-e c = λ edition. makes_unnamed edition _ _ _ _ _ _ (omega (arith, c.if-f-k.false)) c.name_end.ensures c.in_err-e.was

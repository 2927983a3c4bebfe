use mathlib.Core.Path.{refl}
use Rattle.fixed.specs.Laws.Fixed.{fixed_unreached, fixed_unsigned, fixed_unnamed, fixed_is}
use Rattle.fixed.proofs.fields_at.Goals as goal

pub returns-in_err-at : goal.returns-in_err-at
returns-in_err-at c = fixed_unreached _ _ _ _ _ c.in_err-at.ensures.0 refl

pub returns-in_err-signature : goal.returns-in_err-signature
returns-in_err-signature c = fixed_unsigned _ _ _ _ _ c.in_ok-at.ensures.0 refl c.in_err-signature.ensures refl

pub returns-in_err-e : goal.returns-in_err-e
returns-in_err-e c = fixed_unnamed _ _ _ _ _ c.in_ok-at.ensures.0 refl c.in_err-e.ensures refl

pub returns : goal.returns
returns c = fixed_is _ _ _ _ _ c.in_ok-at.ensures.0 refl c.in_ok-signature.ensures refl c.in_ok-e.ensures refl (λ l. c.kept_at.ensures)

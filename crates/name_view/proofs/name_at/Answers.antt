use native.Mathlib.Omega.{arith}
use mathlib.Core.Path.{refl}
use Rattle.view.specs.Laws.View.{no_inside, units_inside}
use Rattle.name_view.specs.Laws.Name.{name_unreached, name_cut, name_is}
use Rattle.name_view.proofs.name_at.Goals as goal

pub returns-in_err-at : goal.returns-in_err-at
returns-in_err-at c = (name_unreached _ _ _ _ _ c.in_err-at.ensures.0 refl, no_inside _ _ c.from_residual.ensures.0)

pub returns-then-left-lt4 : goal.returns-then-left-lt4
returns-then-left-lt4 c = (name_cut _ _ _ _ _ c.in_ok-at.ensures.0 refl c.left.ensures (omega arith), tt)

pub returns : goal.returns
returns c = (name_is _ _ _ _ _ c.in_ok-at.ensures.0 refl c.string_at-t.ensures c.units_of.ensures, units_inside _ _ c.units_of.ensures)

use native.Mathlib.Omega.{arith}
use Rattle.format.specs.Laws.Format.{bytes_all}
use Rattle.name_view.specs.Name.{name_at, name_view}
use Rattle.view.specs.Laws.View.{no_inside}
use Rattle.asked.specs.Laws.Asked.{asked_refused, asked_absent, asked_is}
use mathlib.Core.Path.{refl}
use borrow.Author.Rules.{rules}
use Rattle.name_view.proofs.find_name.Goals as goal

pub returns-in_err-version : goal.returns-in_err-version
unfolding name_view
returns-in_err-version c = (search (rules, asked_refused (λ p. name_at) c.args.edition c.args.k c.args.s.now c.in_err-version.ensures.0 refl), no_inside _ _ c.from_residual.ensures.0)

pub returns-then-n-k : goal.returns-then-n-k
unfolding name_view
returns-then-n-k c = (asked_absent _ _ _ _ (bytes_all c.args.s.now c.shared_slice_known-1.given) c.in_ok-version.ensures.0 refl (omega arith), tt)

pub returns : goal.returns
unfolding name_view
returns c = (asked_is _ _ _ _ (bytes_all c.args.s.now c.shared_slice_known-1.given) c.in_ok-version.ensures.0 refl (omega arith) (λ p h. c.name_at.ensures.0 p), c.name_at.ensures.1)

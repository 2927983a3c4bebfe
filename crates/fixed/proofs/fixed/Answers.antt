use native.Mathlib.Omega.{arith}
use mathlib.Core.Path.{refl}
use Rattle.format.specs.Laws.Format.{bytes_all}
use Rattle.fixed.specs.Fixed.{fixed_at, fixed_fields}
use Rattle.fixed.specs.Laws.Fixed.{fields_say_lem}
use Rattle.asked.specs.Laws.Asked.{asked_refused, asked_absent, asked_is}
use borrow.Author.Rules.{rules}
use Rattle.fixed.proofs.fixed.Goals as goal

pub returns-in_err-version : goal.returns-in_err-version
unfolding fixed_fields
returns-in_err-version c = fields_say_lem _ _ _ (search (rules, asked_refused (λ p. fixed_at) c.args.edition c.args.k c.args.s.now c.in_err-version.ensures.0 refl))

pub returns-then-n-k : goal.returns-then-n-k
unfolding fixed_fields
returns-then-n-k c = fields_say_lem _ _ _ (asked_absent _ _ _ _ (bytes_all c.args.s.now c.shared_slice_known-1.given) c.in_ok-version.ensures.0 refl (omega arith))

pub returns : goal.returns
unfolding fixed_fields
returns c = fields_say_lem _ _ _ (asked_is _ _ _ _ (bytes_all c.args.s.now c.shared_slice_known-1.given) c.in_ok-version.ensures.0 refl (omega arith) (λ p h. c.fields_at.ensures p))

use borrow.Author.Rules.{rules}
use native.Mathlib.Omega.{arith}
use mathlib.Core.Path.{sym, ◌∙◌}
use Rattle.format.specs.Laws.Format.{bytes_all}
use Rattle.convert.specs.Laws.Convert.{convert_unknown, convert_long, convert_other, convert_no, convert_is, convert_ready}
use Rattle.convert.proofs.convert.Goals as goal

pub returns-in_default : goal.returns-in_default
returns-in_default c = convert_unknown _ _ _ _ _ c.edition_of.ensures c.in_default.is

pub returns-then-s-gt60000 : goal.returns-then-s-gt60000
returns-then-s-gt60000 c = convert_long _ _ _ _ _ c.edition_of.ensures c.in-Some.is c.if-s-gt60000.true

pub returns-then-not-takes : goal.returns-then-not-takes
returns-then-not-takes c = convert_other _ _ _ _ _ c.edition_of.ensures c.in-Some.is (omega (arith, c.if-s-gt60000.false)) c.version_at.ensures (sym c.takes.ensures ∙ c.if-not-takes.true)

pub returns-in_err-base : goal.returns-in_err-base
returns-in_err-base c = convert_no _ _ _ _ _ c.edition_of.ensures c.in-Some.is (omega (arith, c.if-s-gt60000.false)) c.version_at.ensures (sym c.takes.ensures ∙ c.if-not-takes.false) c.pass.ensures.0 c.in_err-base.was (search rules)

pub rewrite-requires : goal.rewrite-requires
rewrite-requires c = convert_ready _ _ (bytes_all c.args.s.now c.shared_slice_known-1.given) c.pass.ensures.0 c.in_ok-base.was

pub returns : goal.returns
returns c = convert_is _ _ _ _ _ c.edition_of.ensures c.in-Some.is (omega (arith, c.if-s-gt60000.false)) c.version_at.ensures (sym c.takes.ensures ∙ c.if-not-takes.false) c.pass.ensures.0 _ _ (bytes_all c.args.s.now c.shared_slice_known-1.given) c.in_ok-base.was c.rewrite.ensures

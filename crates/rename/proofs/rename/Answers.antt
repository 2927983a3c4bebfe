use borrow.Author.Rules.{rules}
use native.Mathlib.Omega.{arith}
use Rattle.format.specs.Laws.Format.{bytes_all}
use Rattle.steps.specs.Laws.Steps.{name_got}
use Rattle.plan.specs.Laws.Found.{edit_no, edit_done}
use Rattle.plan.specs.Laws.Makes.{makes_unnamed}
use Rattle.rename.specs.Laws.Rename.{rename_absent, found_named}
use Rattle.rename.proofs.rename.Goals as goal

pub returns-in_err-site : goal.returns-in_err-site
returns-in_err-site c = edit_no _ _ _ _ _ c.find.ensures c.in_err-site.was (search rules)

pub returns-then-site-k : goal.returns-then-site-k
returns-then-site-k c = edit_done _ _ _ _ _ (bytes_all c.args.buf.now c.slice_known-1.given) c.find.ensures c.in_ok-site.was (rename_absent _ _ _ _ _ c.if-site-k.true)

pub returns-in_err-e : goal.returns-in_err-e
returns-in_err-e c = edit_done _ _ _ _ _ (bytes_all c.args.buf.now c.slice_known-1.given) c.find.ensures c.in_ok-site.was (makes_unnamed _ _ _ _ _ _ _ (omega (arith, c.if-site-k.false)) c.name_end.ensures c.in_err-e.was)

pub rename_at-requires : goal.rename_at-requires
rename_at-requires c = found_named _ _ _ _ (bytes_all c.args.buf.now c.slice_known-1.given) c.find.ensures c.in_ok-site.was (omega (arith, c.if-site-k.false)) (name_got _ _ c.name_end.ensures c.in_ok-e.was)

pub returns : goal.returns
returns c = edit_done _ _ _ _ _ (bytes_all c.args.buf.now c.slice_known-1.given) c.find.ensures c.in_ok-site.was (c.rename_at.ensures _ _ (omega (arith, c.if-site-k.false)) (name_got _ _ c.name_end.ensures c.in_ok-e.was))

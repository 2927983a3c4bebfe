use borrow.Author.Rules.{rules}
use Rattle.format.specs.Laws.Format.{bytes_all}
use Rattle.plan.specs.Laws.Found.{edit_no, edit_done}
use Rattle.switch.proofs.switch.Goals as goal

pub returns-in_err-site : goal.returns-in_err-site
returns-in_err-site c = edit_no _ _ _ _ _ c.find.ensures c.in_err-site.was (search rules)

pub returns : goal.returns
returns c = edit_done _ _ _ _ _ (bytes_all c.args.buf.now c.slice_known-1.given) c.find.ensures c.in_ok-site.was (c.switch_at.ensures _)

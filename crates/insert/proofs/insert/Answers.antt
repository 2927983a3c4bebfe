use borrow.Author.Rules.{rules}
use Rattle.insert.specs.Laws.Insert.{found_place}
use Rattle.plan.specs.Laws.Found.{edit_no, edit_done}
use Rattle.format.specs.Laws.Format.{bytes_all}
use Rattle.insert.proofs.insert.Goals as goal

pub returns-in_err-site : goal.returns-in_err-site
returns-in_err-site c = edit_no _ _ _ _ _ c.find.ensures c.in_err-site.was (search rules)

pub insert_from-requires : goal.insert_from-requires
insert_from-requires c = found_place _ _ _ _ (bytes_all c.args.buf.now c.slice_known-1.given) c.find.ensures c.in_ok-site.was

pub returns : goal.returns
returns c = edit_done _ _ _ _ _ (bytes_all c.args.buf.now c.slice_known-1.given) c.find.ensures c.in_ok-site.was c.insert_from.ensures

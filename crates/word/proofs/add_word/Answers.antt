use borrow.Author.Rules.{rules}
use Rattle.plan.specs.Laws.Found.{edit_unknown, edit_no, edit_made, found_within}
use Rattle.locate.specs.Laws.Located.{last_of}
use Rattle.format.specs.Laws.Format.{bytes_all}
use Rattle.word.proofs.add_word.Goals as goal

pub returns-in_default : goal.returns-in_default
returns-in_default c = edit_unknown _ _ _ _ c.edition_of.ensures c.in_default.is

pub returns-in_err-site : goal.returns-in_err-site
returns-in_err-site c = edit_no _ _ _ _ _ c.find_last.ensures c.in_err-site.was (search rules)

pub word_in-requires : goal.word_in-requires
word_in-requires c = found_within last_of _ _ _ (bytes_all c.args.buf.now c.slice_known-1.given) c.find_last.ensures c.in_ok-site.was

pub returns : goal.returns
returns c = edit_made _ _ _ _ _ (bytes_all c.args.buf.now c.slice_known-1.given) c.find_last.ensures c.in_ok-site.was c.edition_of.ensures c.in-Some.is c.word_in.ensures

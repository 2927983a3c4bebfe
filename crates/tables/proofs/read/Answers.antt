use Rattle.format.specs.Laws.Format.{bytes_all}
use Rattle.tables.specs.Laws.Whole.{read_none, read_refused, read_full, read_unlike, read_done}
use borrow.Author.Rules.{rules}
use Rattle.tables.proofs.read.Goals as goal

pub returns-in_default : goal.returns-in_default
returns-in_default c = read_none _ _ c.edition_of.ensures _ _ c.in_default.is

pub returns-in_err-base : goal.returns-in_err-base
returns-in_err-base c = read_refused _ _ c.edition_of.ensures c.in-Some.is c.pass.ensures.0 _ _ c.in_err-base.was (search (rules, c.in_err-base.was))

pub returns-in_err-count : goal.returns-in_err-count
returns-in_err-count c = read_full _ _ c.edition_of.ensures c.in-Some.is c.pass.ensures.0 _ _ c.in_ok-base.was c.room.ensures c.in_err-count.was (search (rules, c.in_err-count.was))

pub returns-in_err-fill_rules : goal.returns-in_err-fill_rules
returns-in_err-fill_rules c = read_unlike _ _ c.edition_of.ensures c.in-Some.is c.pass.ensures.0 _ _ c.in_ok-base.was c.room.ensures c.in_ok-count.was (bytes_all _ c.shared_slice_known-1.given) c.fill_rules.ensures.0 c.in_err-fill_rules.was

pub returns : goal.returns
returns c = read_done _ _ c.edition_of.ensures c.in-Some.is c.pass.ensures.0 _ _ c.in_ok-base.was c.room.ensures c.in_ok-count.was (bytes_all _ c.shared_slice_known-1.given) c.fill_rules.ensures.0

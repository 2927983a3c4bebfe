use Rattle.locate.specs.Laws.Spots.{spots_past, spots_unreached, spots_unended, spots_is}
use borrow.Author.Rules.{rules}
use Rattle.locate.proofs.spot_of.Goals as goal

pub returns-then-n-k : goal.returns-then-n-k
returns-then-n-k c = search (rules, spots_past)

pub returns-in_err-start : goal.returns-in_err-start
returns-in_err-start c = search (rules, spots_unreached, c.in_err-start.was)

pub returns-in_err-end : goal.returns-in_err-end
returns-in_err-end c = search (rules, spots_unended, c.in_ok-start.was, c.in_err-end.was)

pub returns : goal.returns
returns c = search (rules, spots_is, c.in_ok-start.was, c.in_ok-end.was)

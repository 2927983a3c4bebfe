use borrow.Author.Rules.{rules}
use Rattle.std.proofs.Common.{refl}
use Rattle.moment.specs.Moment.{Says}
use Rattle.lent.specs.Laws.Lent.{lent_no}
use Rattle.lent_moment.proofs.moment.Goals as goal

pub returns-in_err-date : goal.returns-in_err-date
unfolding Says
returns-in_err-date c = (_, (c.in_err-date.ensures, lent_no _ _ refl (search (rules, c.in_err-date.was))))

pub returns : goal.returns
unfolding Says
returns c = (_, (c.in_ok-date.ensures, c.put_row.ensures))

use Rattle.format.specs.Laws.Seen.{fixed_is}
use borrow.Author.Rules.{rules}
use Rattle.field.proofs.fixed24_at.Goals as goal

pub returns : goal.returns
returns c = search (rules, fixed_is)

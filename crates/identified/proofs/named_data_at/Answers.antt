use mathlib.Core.Path.{refl}
use Rattle.format.specs.Laws.Seen.{told_is, refused_is}
use borrow.Author.Rules.{rules}
use Rattle.identified.proofs.named_data_at.Goals as goal

pub returns-in_default : goal.returns-in_default
returns-in_default c = search (rules, refused_is)

pub returns : goal.returns
returns c = told_is _ _ _ _ _ c.data_at-d.ensures c.in-Ok.is refl (λ x. refl)

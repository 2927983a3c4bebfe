use native.Mathlib.Omega.{arith}
use Rattle.format.specs.Laws.Seen.{seen_own}
use Rattle.walk.specs.Laws.Elements.{identified_first, identified_later, identified_cut}
use borrow.Author.Rules.{rules}
use Rattle.walk.proofs.identifier_at.Goals as goal

pub returns-then-j-eq0 : goal.returns-then-j-eq0
returns-then-j-eq0 c = (search (rules, identified_first), search (rules, seen_own))

pub returns-then-left-lt2 : goal.returns-then-left-lt2
returns-then-left-lt2 c = (identified_cut _ _ _ _ (search rules) (omega arith), tt)

pub returns : goal.returns
returns c = (search (rules, identified_later), search (rules, seen_own))

use mathlib.Core.Path.{sym}
use lib.Seq.{length-take-le}
use Rattle.plan.specs.Laws.Found.{found_none, found_beyond, found_is}
use native.Mathlib.Omega.{arith}
use borrow.Author.Rules.{rules}
use Rattle.plan.proofs.find_last.Goals as goal

pub returns-in_default : goal.returns-in_default
returns-in_default c = search (rules, found_none)

pub returns-then-buf-n : goal.returns-then-buf-n
returns-then-buf-n c = search (rules, found_beyond)

pub slice_bounds-deck-end : goal.slice_bounds-deck-end
slice_bounds-deck-end c = sym (length-take-le _ _ (omega arith))

pub returns : goal.returns
returns c = search (rules, found_is)

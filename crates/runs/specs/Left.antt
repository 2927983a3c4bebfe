-- What a run leaves of the buffer, from an accepted deck and from a started one; and the run in one edition.
use Rattle.std.specs.Prelude.{ℕ, ◌≡◌, List, [], ◌∷◌, length, take, drop}
use Rattle.format.specs.Format.{got}
use Rattle.kind.specs.declared.Product.{Product}
use Rattle.deck.specs.Deck.{read_as}
use Rattle.plan.specs.Edit.{Edit}
use Rattle.runs.specs.Run.{Buffer, Call, Rules, taken, plan_in, buffer_with}

-- the buffer d was, and b is, with its deck's length, after a run that made l of the deck and of the longest length so far
pub record Left (p : Product) (d : List ℕ) (l : Rules) (b : Buffer) : Type 0 where
  -- "the deck that would be written afresh from the edited list of rules"
  pub holds : b ≡ buffer_with d l
  pub reads : read_as p (take b.1 b.0) ≡ got l.0 b.1
  -- "Bytes past the longest deck length so far are never touched"
  pub untouched : drop l.1 b.0 ≡ drop l.1 d
  pub as_long : length b.0 ≡ length d

-- ---- in one edition, which accepted the deck, the deck takes every edit
unfoldable pub calls : ℕ → List Edit → List Call
calls edition [] = []
calls edition (e ∷ es) = (edition, e) ∷ calls edition es

unfoldable pub run_in : Product → ℕ → List Edit → Rules → Rules
run_in p cap [] l = l
run_in p cap (e ∷ es) l = run_in p cap es (taken (plan_in p cap e l.0) l)

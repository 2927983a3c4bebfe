-- Laws of ../Lent.antt: a row that was put, a refusal that was handed on.
use Rattle.std.specs.Prelude.{ℕ, ◌≤◌, ◌≡◌, refl, Bool, true, false, List, [], leb, length, Ok, Err}
use Rattle.std.proofs.Common.{arith}
use borrow.Author.Tests.{le-leb, lt-leb}
use Rattle.format.specs.declared.Fault.TheVariants as Fault
use Rattle.format.specs.Answers.{Outcome}
use Rattle.format.specs.declared.Refusal.{Refusal}
use Rattle.format.specs.declared.Refusal.TheVariants.{At}
use Rattle.format.specs.Fault.{place_of, Said}
use Rattle.format.specs.Format.{pick}
use Rattle.buffer.specs.Laid.{put}
use Rattle.lent.specs.Lent.{lent_says, lent_leaves, Lends}

-- accepted, with these numbers
abbrev pub told : List ℕ → Said
told vs = (Ok 0, vs)

-- whether there is room
pub ruleset room = (le-leb, lt-leb)

module _ (width : ℕ) (t : List ℕ) where
  -- where there is room
  pub lent_put : (vs : List ℕ) {r : Outcome} {t' : List ℕ} → Lends width t (told vs) r t' → width ≤ length t → t' ≡ put t 0 vs
  unfolding lent_leaves pick
  lent_put vs f h = let e = le-leb width (length t) h in rw e at f.1

  module _ {x : Said} {r : Outcome} where
    pub lent_no : {why : Refusal} → ◌≡◌ {A = Said} (Err why, []) x → r ≡ Err why → Lends width t x r t
    unfolding lent_says lent_leaves
    lent_no e f = rw (← e) (f, refl)

    -- of what is said by another name
    pub lent_as : (y : Said) {t' : List ℕ} → Lends width t y r t' → y ≡ x → Lends width t x r t'
    lent_as y f e = rw e at f

-- a place that is small stays so
pub lent_place : (width room : ℕ) (x : Said) → place_of x.0 ≤ 60000 → place_of (lent_says width room x) ≤ 60000
unfolding lent_says pick
lent_place width room (Ok n, vs) h = go (leb width room)
  where
    go : (b : Bool) → place_of (pick b (Ok n) (Err (At Fault.Table 0))) ≤ 60000
    go true = h
    go false = omega arith
lent_place width room (Err why, vs) h = h

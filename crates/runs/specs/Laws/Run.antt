-- Laws of ../Run.antt: a run of edits of a buffer is the same run on the deck.
use Rattle.std.specs.Prelude.{ℕ, ◌≤◌, ◌≡◌, take, Some, None}
use Rattle.std.proofs.Common.{arith, ap₂, ◌∙◌, le-leb}
use Rattle.std.proofs.Math.Path.{refl, ap}
use mathlib.Core.List.{List, [], ◌∷◌}
use Rattle.std.proofs.Math.ListN.{length}
use Rattle.kind.specs.Answers.{Edition}
use Rattle.format.specs.Answers.{Outcome}
use Rattle.format.specs.Format.{Answer, got, refused, pick}
use Rattle.kind.specs.declared.Product.{Product}
use Rattle.kind.specs.declared.Product.TheVariants.{Studio}
use Rattle.kind.specs.Kinds.{edition_of}
use Rattle.deck.specs.Deck.{Deck, version, deck, read_as}
use Rattle.deck.specs.Written.{afresh}
use Rattle.buffer.specs.Laid.{laid}
use Rattle.buffer.specs.Laws.Laid.{take_laid, length_laid, laid_again}
use Rattle.plan.specs.Edit.{Edit, Plan, become, refuse, refuse_given, edited, plan, plan_by, planned, says, leaves, Edits}
use Rattle.plan.specs.Handed.{Handed}
use Rattle.plan.specs.Laws.Fits.{deck_fits, fits_deck, fits_version, Every}
use Rattle.runs.specs.Laws.Both.{deck_studio, reads_same}
use Rattle.plan.specs.Laws.Kept.{edited_fits, in_room_lem}
use Rattle.runs.specs.Run.{Buffer, Call, length_from, step_by, step, Promise, Ran, Steps, Called, Rules, taken, if_accepted, plan_in, plan_rules, step_rules, run_rules, buffer_with}

unfoldable pub run : List Call → Buffer → Buffer
run [] b = b
run (c ∷ cs) b = run cs (step c b)

module _ {A : Type 0} (P : Promise A) (next : ℕ → A → ℕ) where
  pub ran_is : Steps P next → (cs : List Call) (b b' : Buffer) → Ran P next cs b b' → Every (λ c. Handed c.1) cs × (b' ≡ run cs b)
  unfolding Ran run Every
  ran_is f [] b b' h = (tt, h)
  ran_is f (c ∷ cs) b b' h =
      let s = f c.0 b.1 c.1 b.0 h.0 h.1.0 h.1.1.0 in
      let w = ran_is f cs (h.1.0, next b.1 h.0) b' h.1.1.1 in
      ((s.0, w.0), w.1 ∙ ap (run cs) s.1)

-- whatever the promise of an edit allows is a step
pub edit_step : (edition n : ℕ) (e : Edit) (d : List ℕ) (r : Outcome) (d' : List ℕ) → Edits edition n e d r d' → (d', length_from n r) ≡ step (edition, e) (d, n)
unfolding step
edit_step edition n e d r d' f = ap₂ (λ (x : List ℕ) (o : Outcome). (x, length_from n o)) f.1 f.0

pub called : Steps Called length_from
called edition n e d r d' f = (f.0, edit_step edition n e d r d' f.1)

-- what stays true of a list through a run
pub record Good (cap : ℕ) (l : Rules) : Type 0 where
  pub fit : (deck Studio).Fit l.0
  pub short : length (afresh l.0) ≤ 60000
  pub below : length (afresh l.0) ≤ l.1
  pub room : l.1 ≤ cap

module _ (cap : ℕ) where
  -- an edit that a product takes leaves a list that it takes
  pub good_taken : (p : Product) (e : Edit) (l : Rules) → Handed e → (deck p).Fit l.0 → Good cap l → Good cap (taken (plan_in p cap e l.0) l) × (deck p).Fit (taken (plan_in p cap e l.0) l).0
  good_taken p e l h f g = go (plan_in p cap e l.0) refl
    where
      go : (q : Plan Deck) → plan_in p cap e l.0 ≡ q → Good cap (taken q l) × (deck p).Fit (taken q l).0
      go (become k) z =
          let o = in_room_lem cap l.0.version (edited p e l.0.rules) z in
          let u : version.Fit k.version = rw o.1.0 (fits_version p l.0 f) in
          let w = deck_fits p k u (edited_fits p l.0.rules (fits_deck p l.0 f) e k.rules h o.0) o.1.1.0 o.1.1.1.0 in
          let v = g.room in
          (record { fit = deck_studio p k w o.1.1.1.0; short = o.1.1.1.0; below = omega arith; room = omega (arith, o.1.1.1.1) }, w)
      go (refuse c q) z = (g, f)
      go (refuse_given c q) z = (g, f)

  good_step : (c : Call) (l : Rules) → Handed c.1 → Good cap l → Good cap (step_rules cap c l)
  unfolding step_rules
  good_step c l h g = by (edition_of c.0)
    where
      read : (p : Product) (a : Answer Deck) → read_as p (afresh l.0) ≡ a → Good cap (taken (if_accepted a (plan_in p cap c.1 l.0)) l)
      read p (got xs m) r = (good_taken p c.1 l h (reads_same p l.0 xs m g.fit g.short r).1 g).0
      read p (refused x q) r = g

      by : (o : Edition) → Good cap (taken (plan_rules o cap c.1 l.0) l)
      by (Some p) = read p (read_as p (afresh l.0)) refl
      by None = g

  pub good_run : (cs : List Call) (l : Rules) → Every (λ c. Handed c.1) cs → Good cap l → Good cap (run_rules cap cs l)
  unfolding run_rules Every
  good_run [] l h g = g
  good_run (c ∷ cs) l h g = good_run cs (step_rules cap c l) h.1 (good_step c l h.0 g)

  -- the version stays
  pub taken_version : (p : Product) (e : Edit) (l : Rules) → (taken (plan_in p cap e l.0) l).0.version ≡ l.0.version
  taken_version p e l = go (plan_in p cap e l.0) refl
    where
      go : (q : Plan Deck) → plan_in p cap e l.0 ≡ q → (taken q l).0.version ≡ l.0.version
      go (become k) z = (in_room_lem cap l.0.version (edited p e l.0.rules) z).1.0
      go (refuse c q) z = refl
      go (refuse_given c q) z = refl

  step_version : (c : Call) (l : Rules) → (step_rules cap c l).0.version ≡ l.0.version
  unfolding step_rules
  step_version c l = by (edition_of c.0)
    where
      read : (p : Product) (a : Answer Deck) → (taken (if_accepted a (plan_in p cap c.1 l.0)) l).0.version ≡ l.0.version
      read p (got k m) = taken_version p c.1 l
      read p (refused x q) = refl

      by : (o : Edition) → (taken (plan_rules o cap c.1 l.0) l).0.version ≡ l.0.version
      by (Some p) = read p (read_as p (afresh l.0))
      by None = refl

  pub kept_version : (cs : List Call) (l : Rules) → (run_rules cap cs l).0.version ≡ l.0.version
  unfolding run_rules
  kept_version [] l = refl
  kept_version (c ∷ cs) l = kept_version cs (step_rules cap c l) ∙ step_version c l

module _ (d : List ℕ) where
  -- the deck is read as its list
  plan_is : (c : Call) (l : Rules) → Good (length d) l → planned c.0 (length (afresh l.0)) (laid (afresh l.0) l.1 d) c.1 ≡ plan_rules (edition_of c.0) (length d) c.1 l.0
  unfolding planned pick
  plan_is c l g = by (edition_of c.0)
    where
      read : (p : Product) (a : Answer Deck) → read_as p (afresh l.0) ≡ a → plan p (length d) c.1 a ≡ if_accepted a (plan_in p (length d) c.1 l.0)
      read p (got xs m) r = ap (plan_in p (length d) c.1) (reads_same p l.0 xs m g.fit g.short r).0
      read p (refused x q) r = refl

      by : (o : Edition) → plan_by o (length (afresh l.0)) (laid (afresh l.0) l.1 d) c.1 ≡ plan_rules o (length d) c.1 l.0
      by (Some p) =
          let y = laid (afresh l.0) l.1 d in
          let n = length (afresh l.0) in
          let t : take n y ≡ afresh l.0 = take_laid (afresh l.0) l.1 d refl in
          let w : length y ≡ length d = length_laid (afresh l.0) l.1 d g.below g.room in
          let b : n ≤ length y = omega (arith, g.below, g.room, w) in
          rw (le-leb n (length y) b, t, w) (read p (read_as p (afresh l.0)) refl)
      by None = refl

  step_is : (c : Call) (l : Rules) → Good (length d) l → step c (buffer_with d l) ≡ buffer_with d (step_rules (length d) c l)
  unfolding step step_rules leaves says
  step_is c l g = rw (plan_is c l g) (go (plan_rules (edition_of c.0) (length d) c.1 l.0))
    where
      go : (q : Plan Deck) → step_by q (buffer_with d l) ≡ buffer_with d (taken q l)
      go (become k) = ap (λ (z : List ℕ). (z, length (afresh k))) (laid_again (afresh k) (afresh l.0) l.1 d g.below)
      go (refuse c q) = refl
      go (refuse_given c q) = refl

  pub runs : (cs : List Call) (l : Rules) → Every (λ c. Handed c.1) cs → Good (length d) l → run cs (buffer_with d l) ≡ buffer_with d (run_rules (length d) cs l)
  unfolding run run_rules Every
  runs [] l h g = refl
  runs (c ∷ cs) l h g = rw (step_is c l g) (runs cs (step_rules (length d) c l) h.1 (good_step (length d) c l h.0 g))

-- Laws of ../Left.antt: any run, from an accepted deck or a started one, leaves the buffer so.
use Rattle.std.specs.Prelude.{ℕ, ◌≤◌, ◌≡◌, refl, length, take, Some}
use Rattle.std.proofs.Common.{arith, sym, ap, ap₂, ◌∙◌, length-take-le}
use mathlib.Core.List.{List, [], ◌∷◌}
use Rattle.format.specs.Fault.{code_of, place_of}
use Rattle.format.specs.Format.{got, Bytes}
use Rattle.format.specs.Laws.Format.{bytes_take}
use Rattle.kind.specs.declared.Product.{Product}
use Rattle.kind.specs.declared.Product.TheVariants.{Studio}
use Rattle.kind.specs.Kinds.{edition_of}
use Rattle.deck.specs.Deck.{Deck, deck, read_as}
use Rattle.deck.specs.Laws.Deck.{read_writes_back}
use Rattle.deck.specs.Written.{deck_of, afresh}
use Rattle.deck.specs.Laws.Written.{written_as}
use Rattle.buffer.specs.Laid.{laid}
use Rattle.buffer.specs.Laws.Laid.{laid_start, take_laid, length_laid, drop_laid}
use Rattle.room.specs.Laws.Room.{room_judged}
use Rattle.plan.specs.Edit.{Edit}
use Rattle.plan.specs.Handed.{Handed}
use Rattle.start.specs.Start.{start_says, start_leaves}
use Rattle.start.specs.Laws.Start.{start_laid, empty_long}
use Rattle.plan.specs.Laws.Fits.{deck_fits, version_fits, Every}
use Rattle.runs.specs.Laws.Both.{deck_studio, reads_back}
use Rattle.runs.specs.Run.{Buffer, Call, Promise, Ran, Steps, Rules, taken, plan_in, step_rules, run_rules, buffer_with}
use Rattle.runs.specs.Laws.Run.{ran_is, run, Good, good_taken, good_run, taken_version, runs}
use Rattle.runs.specs.Left.{Left, calls, run_in}

-- where a run begins
pub record Begins (p : Product) (d : List ℕ) (l : Rules) (b : Buffer) : Type 0 where
  pub good : Good (length d) l
  pub fit : (deck p).Fit l.0
  pub is : b ≡ buffer_with d l

-- at an accepted deck in the first n bytes
pub at_accepted : (p : Product) (d : List ℕ) (n m : ℕ) (k : Deck) → Bytes d → n ≤ length d → read_as p (take n d) ≡ got k m → Begins p d (k, n) (d, n)
at_accepted p d n m k bs l r =
    let w = read_writes_back p (take n d) k m (bytes_take n d bs) r in
    let t : take n d ≡ afresh k = w.is ∙ written_as k.version k.rules p in
    let e : length (afresh k) ≡ n = sym (ap length t) ∙ length-take-le n d l in
    let s : length (afresh k) ≤ 60000 = omega (arith, w.short, ap length t) in
    record {
      good = record { fit = deck_studio p k w.fit s; short = s; below = omega arith; room = l };
      fit = w.fit;
      is = ap₂ (λ (a : List ℕ) (b : ℕ). (a, b)) (laid_start d n l ∙ ap (λ (x : List ℕ). laid x n d) t) (sym e);
    }

-- an accepted start: "It begins a run of edits and is no member of one"
accepted_start : (cap : ℕ) → code_of (start_says cap) ≡ 0 → (7 ≤ cap) × (place_of (start_says cap) ≡ 7)
accepted_start cap =
    room_judged 0 7 cap (λ o. code_of o ≡ 0 → (7 ≤ cap) × (place_of o ≡ 7)) (λ w e. (w.inside, refl)) (λ l. absurd (omega arith)) (λ l. absurd (omega arith)) (λ l e. absurd (omega arith))

pub at_start_lem : (p : Product) (d : List ℕ) → code_of (start_says (length d)) ≡ 0 → Begins p d (deck_of 1 [], 7) (start_leaves d, place_of (start_says (length d)))
unfolding Every
at_start_lem p d z =
    let s = accepted_start (length d) z in
    let e = empty_long in
    record {
      good = record { fit = deck_fits Studio (deck_of 1 []) (version_fits 1 (omega arith) (omega arith)) tt (omega arith) (omega arith); short = omega arith; below = omega arith; room = s.0 };
      fit = deck_fits p (deck_of 1 []) (version_fits 1 (omega arith) (omega arith)) tt (omega arith) (omega arith);
      is = ap₂ (λ (a : List ℕ) (b : ℕ). (a, b)) (start_laid d s.0) (s.1 ∙ sym empty_long);
    }

left : (p : Product) (d : List ℕ) (l : Rules) (b : Buffer) → Good (length d) l → (deck p).Fit l.0 → b ≡ buffer_with d l → Left p d l b
left p d l b g f e =
    let t : take (length (afresh l.0)) (laid (afresh l.0) l.1 d) ≡ afresh l.0 = take_laid (afresh l.0) l.1 d refl in
    rw e
    (record {
      holds = refl;
      reads = ap (read_as p) t ∙ reads_back p l.0 f g.short;
      untouched = drop_laid (afresh l.0) l.1 d g.below;
      as_long = length_laid (afresh l.0) l.1 d g.below g.room;
    })

module _ (edition : ℕ) (p : Product) (ed : edition_of edition ≡ Some p) (cap : ℕ) where
  step_in : (e : Edit) (l : Rules) → Good cap l → (deck p).Fit l.0 → step_rules cap (edition, e) l ≡ taken (plan_in p cap e l.0) l
  unfolding step_rules
  step_in e l g f = let r = reads_back p l.0 f g.short in rw (ed, r)

  run_in_lem : (es : List Edit) (l : Rules) → Every (λ c. Handed c.1) (calls edition es) → Good cap l → (deck p).Fit l.0 → (run_rules cap (calls edition es) l ≡ run_in p cap es l) × (deck p).Fit (run_in p cap es l).0
  unfolding calls run_in run_rules Every
  run_in_lem [] l h g f = (refl, f)
  run_in_lem (e ∷ es) l h g f =
      let w = good_taken cap p e l h.0 f g in
      let i = run_in_lem es (taken (plan_in p cap e l.0) l) h.1 w.0 w.1 in
      (ap (run_rules cap (calls edition es)) (step_in e l g f) ∙ i.0, i.1)

-- the version stays
pub kept_in_one : (p : Product) (cap : ℕ) (es : List Edit) (l : Rules) → (run_in p cap es l).0.version ≡ l.0.version
unfolding run_in
kept_in_one p cap [] l = refl
kept_in_one p cap (e ∷ es) l = kept_in_one p cap es (taken (plan_in p cap e l.0) l) ∙ taken_version cap p e l

-- ---- DEMAND 3
module _ {A : Type 0} {P : Promise A} {next : ℕ → A → ℕ} (is : Steps P next) {p : Product} {d : List ℕ} {l : Rules} {b b' : Buffer} where
  pub left_by : (cs : List Call) → Begins p d l b → Ran P next cs b b' → Left Studio d (run_rules (length d) cs l) b'
  left_by cs f h =
      let w = ran_is P next is cs b b' h in
      let g = good_run (length d) cs l w.0 f.good in
      left Studio d (run_rules (length d) cs l) b' g g.fit (w.1 ∙ ap (run cs) f.is ∙ runs d cs l w.0 f.good)

  pub left_in : (edition : ℕ) (es : List Edit) → edition_of edition ≡ Some p → Begins p d l b → Ran P next (calls edition es) b b' → Left p d (run_in p (length d) es l) b'
  left_in edition es ed f h =
      let w = ran_is P next is (calls edition es) b b' h in
      let r = run_in_lem edition p ed (length d) es l w.0 f.good f.fit in
      let x = left_by (calls edition es) f h in
      let g = good_run (length d) (calls edition es) l w.0 f.good in
      left p d (run_in p (length d) es l) b' (rw r.0 at g) r.1 (rw r.0 at x.holds)

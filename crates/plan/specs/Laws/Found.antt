-- An edit's deck found in its buffer, and what is left to do: the edits' promise, from what they make of a sound deck.
use Rattle.std.specs.Prelude.{ℕ, ◌+◌, ◌≤◌, ◌<◌, Bool, true, false, List, leb, take, Ok, Err, Some, None}
use Rattle.std.proofs.Common.{arith, ◌∙◌}
use Rattle.std.proofs.Math.Path.{◌≡◌, refl, sym, ap}
use Rattle.std.proofs.Math.ListN.{length}
use Rattle.std.proofs.Math.Seq.{length-take-le}
use borrow.Author.Tests.{le-leb, lt-leb, leb-true}
use Rattle.format.specs.declared.Fault.{Fault}
use Rattle.kind.specs.Answers.{Edition}
use Rattle.format.specs.Answers.{Outcome}
use Rattle.spot.specs.Laws.Answers.{Spot}
use Rattle.format.specs.declared.Refusal.{Refusal}
use Rattle.format.specs.declared.Refusal.TheVariants.{At}
use Rattle.format.specs.Format.{Answer, got, refused, pick, Bytes}
use Rattle.format.specs.Laws.Format.{bytes_take}
use Rattle.kind.specs.declared.Product.{Product}
use Rattle.kind.specs.Kinds.{edition_of}
use Rattle.rule.specs.Rule.{Rule}
use Rattle.deck.specs.Deck.{Deck, base_of, read_as, read_by, read_deck}
use Rattle.deck.specs.Laws.Deck.{deck_small, read_writes_back}
use Rattle.deck.specs.Written.{deck_of, start_of}
use Rattle.spot.specs.declared.Site.{Site}
use Rattle.locate.specs.Laws.Located.{site_of, located}
use Rattle.steps.specs.Laws.Steps.{Sound, sound_read, start_within}
use Rattle.plan.specs.Edit.{Edit, Plan, refuse, edited, in_version, in_room, plan, plan_by, planned, says, leaves, Edits}

-- "1, 15, 2 to 13 on its deck", then where the rule stands that is asked for
abbrev pub found_by : Edition → (List Rule → ℕ) → ℕ → List ℕ → Spot
found_by (Some p) k n d = pick (leb n (length d)) (located k (read_as p (take n d))) (Err (At Fault.Stated 0))
found_by None k n d = Err (At Fault.Edition 0)

unfoldable pub found : (List Rule → ℕ) → ℕ → ℕ → List ℕ → Spot
found k edition n d = found_by (edition_of edition) k n d

-- what a plan, before 18, 19 and 20, comes to in a version
abbrev pub Does : ℕ → ℕ → Plan (List Rule) → List ℕ → Outcome → List ℕ → Type 0
Does v n q d r d' = (r ≡ says (in_room (length d) (in_version v q))) × (d' ≡ leaves n d (in_room (length d) (in_version v q)))

-- what f tells of the sound deck in its buffer d, the rule that is asked for being k of its rules
pub record Sits (k : List Rule → ℕ) (f : Site) (d : List ℕ) (p : Product) (v : ℕ) (rs : List Rule) : Type 0 where
  pub sound : Sound p v (take f.bytes d) rs
  pub within : f.bytes ≤ length d
  pub version : f.version ≡ v
  pub many : f.rules ≡ length rs
  pub base : f.base ≡ base_of v (length rs)
  pub starts : f.start ≡ start_of v rs (k rs)
  pub ends : f.end ≡ start_of v rs (k rs + 1)

-- whatever rules it has: r is answered and d becomes d'
unfoldable pub Makes : ℕ → (List Rule → ℕ) → Site → Edit → List ℕ → Outcome → List ℕ → Type 0
Makes edition k f e d r d' = (p : Product) (v : ℕ) (rs : List Rule) → edition_of edition ≡ Some p → Sits k f d p v rs → Does v f.bytes (edited p e rs) d r d'

-- the same of one product
unfoldable pub MakesAs : Product → (List Rule → ℕ) → Site → Edit → List ℕ → Outcome → List ℕ → Type 0
MakesAs p k f e d r d' = (v : ℕ) (rs : List Rule) → Sits k f d p v rs → Does v f.bytes (edited p e rs) d r d'

-- its bounds, which keep sums from wrapping
pub record Within (f : Site) (d : List ℕ) : Type 0 where
  pub order : f.start ≤ f.end
  pub inside : f.end ≤ f.bytes
  pub room : f.bytes ≤ length d
  pub short : f.bytes ≤ 60000
  pub few : f.rules ≤ 256

pub sits_within : {k : List Rule → ℕ} (f : Site) (d : List ℕ) {p : Product} {v : ℕ} {rs : List Rule} → Sits k f d p v rs → Within f d
sits_within {k} f d {p} {v} {rs} o =
    let w = start_within p v (take f.bytes d) rs (k rs) o.sound in
    let l = length-take-le f.bytes d o.within in
    record {
      order = omega (arith, w.0, o.starts, o.ends);
      inside = omega (arith, w.1, o.ends, l);
      room = o.within;
      short = omega (arith, o.sound.short, l);
      few = omega (arith, o.many, deck_small p (deck_of v rs) o.sound.fit);
    }

-- ---- as the code finds it

pub edit_unknown : (edition n : ℕ) (d : List ℕ) (e : Edit) {o : Edition} → o ≡ edition_of edition → o ≡ None → Edits edition n e d (Err (At Fault.Edition 0)) d
unfolding planned says leaves
edit_unknown edition n d e f h = rw (← f, h) (refl, refl)

module _ (k : List Rule → ℕ) (edition n : ℕ) (d : List ℕ) where
  pub found_none : {o : Edition} → o ≡ edition_of edition → o ≡ None → Err (At Fault.Edition 0) ≡ found k edition n d
  unfolding found
  found_none e h = rw (← e, h)

  module _ {o : Edition} {p : Product} where
    pub found_beyond : o ≡ edition_of edition → o ≡ Some p → length d < n → Err (At Fault.Stated 0) ≡ found k edition n d
    unfolding found pick
    found_beyond e h l = rw (← e, h, lt-leb n (length d) l)

  -- a deck that is there is judged by its edition as it is read
  pub found_is : {c : Spot} → n ≤ length d → c ≡ located k (read_deck edition (take n d)) → c ≡ found k edition n d
  unfolding found pick read_deck read_by
  found_is {c} l f = f ∙ go (edition_of edition)
    where
      go : (o : Edition) → located k (read_by o (take n d)) ≡ found_by o k n d
      go (Some p) = rw (le-leb n (length d) l)
      go None = refl

  -- what was found, by the deck that was read
  pub record Ground (f : Site) : Type 0 where
    pub product : Product
    pub version : ℕ
    pub rs : List Rule
    pub by : edition_of edition ≡ Some product
    pub bytes : f.bytes ≡ n
    pub sits : Sits k f d product version rs
    pub plans : (e : Edit) → planned edition n d e ≡ in_room (length d) (in_version version (edited product e rs))

  -- c is what was found
  module _ {c : Spot} where
    pub ground : {f : Site} → Bytes d → c ≡ found k edition n d → c ≡ Ok f → Ground f
    unfolding found planned pick
    ground {f} bs g h = by (edition_of edition) refl (sym h ∙ g)
      where
        read : (p : Product) (x : Answer Deck) → edition_of edition ≡ Some p → n ≤ length d → read_as p (take n d) ≡ x → Ok f ≡ located k x → ((e : Edit) → plan_by (edition_of edition) n d e ≡ plan p (length d) e x) → Ground f
        read p (got a l) o i y z w =
            let bt = bytes_take n d bs in
            let e : f ≡ site_of k l a.version a.rules = cc in
            let ln : l ≡ n = (read_writes_back p (take n d) a l bt y).ends ∙ length-take-le n d i in
            let fn : f.bytes ≡ n = ap (λ (x : Site). x.bytes) e ∙ ln in
            record {
              product = p;
              version = a.version;
              rs = a.rules;
              by = o;
              bytes = fn;
              sits = record {
                sound = rw fn (sound_read p (take n d) a l bt y);
                within = rw fn i;
                version = ap (λ (x : Site). x.version) e;
                many = ap (λ (x : Site). x.rules) e;
                base = ap (λ (x : Site). x.base) e;
                starts = ap (λ (x : Site). x.start) e;
                ends = ap (λ (x : Site). x.end) e;
              };
              plans = w;
            }
        read p (refused x y) o i v z w = absurd (let u : ◌≡◌ {A = ℕ} 0 1 = cc in omega arith)

        stated : (p : Product) (t : Bool) → leb n (length d) ≡ t → edition_of edition ≡ Some p → Ok f ≡ pick t (located k (read_as p (take n d))) (Err (At Fault.Stated 0))
            → ((e : Edit) → plan_by (edition_of edition) n d e ≡ pick t (plan p (length d) e (read_as p (take n d))) (refuse Fault.Stated 0)) → Ground f
        stated p true t o z w = read p (read_as p (take n d)) o (leb-true n (length d) t) refl z w
        stated p false t o z w = absurd (let u : ◌≡◌ {A = ℕ} 0 1 = cc in omega arith)

        by : (o : Edition) → edition_of edition ≡ o → Ok f ≡ found_by o k n d → Ground f
        by (Some p) o z = stated p (leb n (length d)) refl o z (λ e. ap (λ (o : Edition). plan_by o n d e) o)
        by None o z = absurd (let u : ◌≡◌ {A = ℕ} 0 1 = cc in omega arith)

    pub found_within : {f : Site} → Bytes d → c ≡ found k edition n d → c ≡ Ok f → Within f d
    found_within {f} bs g h = sits_within f d (ground bs g h).sits

  module _ (e : Edit) {c : Spot} where
    pub edit_no : {r : Outcome} {why : Refusal} → c ≡ found k edition n d → c ≡ Err why → r ≡ Err why → Edits edition n e d r d
    unfolding found planned pick says leaves
    edit_no {why = why} g h i = let z = by (edition_of edition) (sym h ∙ g) in (i ∙ z.0, z.1)
      where
        read : (p : Product) (a : Answer Deck) → Err why ≡ located k a → (Err why ≡ says (plan p (length d) e a)) × (d ≡ leaves n d (plan p (length d) e a))
        read p (got rs m) z = absurd (let u : ◌≡◌ {A = ℕ} 0 1 = cc in omega arith)
        read p (refused x y) z = ((cc), refl)

        stated : (p : Product) (b : Bool) → Err why ≡ pick b (located k (read_as p (take n d))) (Err (At Fault.Stated 0))
            → (Err why ≡ says (pick b (plan p (length d) e (read_as p (take n d))) (refuse Fault.Stated 0))) × (d ≡ leaves n d (pick b (plan p (length d) e (read_as p (take n d))) (refuse Fault.Stated 0)))
        stated p true z = read p (read_as p (take n d)) z
        stated p false z = ((cc), refl)

        by : (o : Edition) → Err why ≡ found_by o k n d → (Err why ≡ says (plan_by o n d e)) × (d ≡ leaves n d (plan_by o n d e))
        by (Some p) z = stated p (leb n (length d)) z
        by None z = ((cc), refl)

    pub edit_done : {f : Site} {r : Outcome} {d' : List ℕ} → Bytes d → c ≡ found k edition n d → c ≡ Ok f → Makes edition k f e d r d' → Edits edition n e d r d'
    unfolding Makes
    edit_done {f} {r} {d'} bs g h w = go (ground bs g h)
      where
        go : Ground f → Edits edition n e d r d'
        go o = rw (o.plans e) (rw o.bytes at (w o.product o.version o.rs o.by o.sits))

    -- by a product that was told before
    pub edit_made : {f : Site} {r : Outcome} {d' : List ℕ} {o : Edition} {p : Product} → Bytes d → c ≡ found k edition n d → c ≡ Ok f → o ≡ edition_of edition → o ≡ Some p → MakesAs p k f e d r d' → Edits edition n e d r d'
    unfolding Makes MakesAs
    edit_made {p = p} bs g h f i w = edit_done bs g h (λ q v rs x s. let z : q ≡ p = let u : Some q ≡ Some p = sym x ∙ sym f ∙ i in cc in rw z (w v rs (rw z at s)))

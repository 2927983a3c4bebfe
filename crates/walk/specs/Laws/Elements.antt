-- Laws of ../Elements.antt: the elements of a rule that is known to stand at a place, as the code finds them.
use Rattle.std.specs.Prelude.{ℕ, ◌+◌, ◌-◌, ◌<◌, List, Ok, Err}
use native.Mathlib.Omega.{arith}
use Rattle.std.proofs.Math.Path.{◌≡◌, sym, ap}
use Rattle.std.proofs.Common.{◌∙◌}
use Rattle.std.proofs.Math.ListN.{length}
use Rattle.format.specs.Laws.Answers.{Read}
use Rattle.kind.specs.Answers.{Row}
use Rattle.format.specs.declared.Refusal.{Refusal}
use Rattle.format.specs.Laws.ReadWrite.{length_spelt}
use Rattle.format.specs.Combinators.{number}
use Rattle.format.specs.Laws.Seen.{ok_parts, seen, itself, none, unlike, got_at}
use Rattle.format.specs.Laws.Written.{Stands, Held}
use Rattle.format.specs.Laws.Back.{Where, stands_seen, stands_room, back_got, back_no}
use Rattle.format.specs.Row.{start_in}
use Rattle.format.specs.Laws.Skip.{Skipped, skip_is, skip_never, nth}
use Rattle.kind.specs.declared.Product.{Product}
use Rattle.kind.specs.declared.Kind.{Kind}
use Rattle.kind.specs.Kinds.{kinds, row_in, row_of}
use Rattle.kind.specs.Laws.Kinds.{offered_is}
use Rattle.element.specs.Data.{Data, data_of}
use Rattle.element.specs.Element.{Element}
use Rattle.rule.specs.Rule.{Rule, rule, body, head, placed, elements_in}
use Rattle.rule.specs.Places.{elements_at, data_at}
use Rattle.rule.specs.Laws.Places.{body_parts, behind_count, rule_parts, rule_elements, placed_parts, data_first, data_later}
use Rattle.steps.specs.Laws.Steps.{name_read, name_end, name_end_lem, name_never}
use Rattle.walk.specs.Elements.{of_first, of_element}

-- ---- the number of elements and where they start

-- behind the fields of rule i
unfoldable pub Counts : List ℕ → ℕ → ℕ → Read → Type 0
Counts s at i r = (p : Product) → Where (body p i) s at (λ xs. Ok (at + 2 + length ((head i).write tt), length xs)) r

module _ (s : List ℕ) (at i : ℕ) {c : Read} (e : c ≡ seen itself (number 2) s at) where
  pub counts_cut : (r : Read) {why : Refusal} → c ≡ Err why → Counts s at i r
  unfolding Counts Where
  counts_cut r h p xs b = back_no itself (number 2) s at (body_parts p i s at xs b.0 b.1).many.1 e h

  module _ {n m : ℕ} (h : c ≡ Ok (m, n)) {d : Read} (g : d ≡ seen none (head i) s m) where
    pub counts_off : (r : Read) {why : Refusal} → d ≡ Err why → Counts s at i r
    unfolding Counts Where
    counts_off r k p xs b = back_no none (head i) s m (behind_count p i s at (body_parts p i s at xs b.0 b.1) e h).1.1.1 g k

    pub counts_is : {v q : ℕ} → d ≡ Ok (q, v) → Counts s at i (Ok (q, n))
    unfolding Counts Where
    counts_is k p xs b =
        let z = behind_count p i s at (body_parts p i s at xs b.0 b.1) e h in
        let y = (back_got none (head i) s m z.1.1.1 g k).1 in
        rw (z.0, y, z.1.0)

-- from its start
unfoldable pub Elements : List ℕ → ℕ → ℕ → Read → Type 0
Elements s at i r = (p : Product) → Where (rule p i) s at (λ x. Ok (elements_at p i at x, elements_in x)) r

pub elements_unnamed : (s : List ℕ) (at i : ℕ) (r : Read) {t : Read} {why : Refusal} → t ≡ name_read s at → t ≡ Err why → Elements s at i r
unfolding Elements Where
elements_unnamed s at i r f h p x b = name_never s at f h p i x b

-- e is where its name ends
module _ (s : List ℕ) (at i : ℕ) (r : Read) {e : ℕ} (n : e ≡ name_end s at) where
  pub elements_short : length s - e < 24 → Elements s at i r
  unfolding Elements Where
  elements_short l p x b = absurd (omega (arith, n, name_end_lem s at p i x b, stands_room (rule p i) s at b.1, (rule_parts p i s at x b.0 b.1).ends))

  pub elements_go : Counts s (e + 24) i r → Elements s at i r
  unfolding Elements Counts Where
  elements_go k p x b =
      let y = rule_parts p i s at x b.0 b.1 in
      let z = n ∙ name_end_lem s at p i x b in
      k p x.elements (b.0, rw z y.bodied) ∙ got_at (ap (λ (m : ℕ). m + 24 + 2 + length ((head i).write tt)) z ∙ y.begins)

-- ---- an element: its identifier and where its data start

unfoldable pub Identifies : List ℕ → ℕ → ℕ → Read → Type 0
Identifies s at j r = (p : Product) → Where (placed p j) s at (λ x. Ok (data_at j at, x.0)) r

module _ (s : List ℕ) (at j : ℕ) where
  identified : (q : ℕ) {r : Read} → q + 4 ≡ data_at j at → r ≡ seen itself (number 4) s q → Identifies s at j r
  unfolding Identifies Where number
  identified q z e p x b =
      let y = placed_parts p j s at x b.0 b.1 in
      let o : data_at j at - 4 ≡ q = omega arith in
      let i : Held (number 4) s q x.0 = rw o at y.identified in
      e ∙ stands_seen itself (number 4) s q i.1 ∙ got_at (ap (λ (m : ℕ). q + m) (length_spelt 4 x.0) ∙ z)

  pub identified_first : {r : Read} → j ≡ 0 → r ≡ seen itself (number 4) s at → Identifies s at j r
  identified_first h = identified at (data_first j at h)

  pub identified_later : {r : Read} → (j ≡ 0 → ⊥) → r ≡ seen itself (number 4) s (at + 2) → Identifies s at j r
  identified_later h = identified (at + 2) (let z = data_later j at h in omega arith)

  pub identified_cut : (r : Read) → (j ≡ 0 → ⊥) → length s - at < 2 → Identifies s at j r
  unfolding Identifies Where number
  identified_cut r h l p x b =
      let y = placed_parts p j s at x b.0 b.1 in
      absurd (omega (arith, data_later j at h, stands_room (number 4) s (data_at j at - 4) y.identified.1, length_spelt 4 x.0))

-- ---- what is told of an element's data

-- of data of the kind that a match found
pub of_kind : {W : Type 0} (k j : Kind) (s : List ℕ) (at : ℕ) (f : Data → W) (v : W) → k ≡ j → Where (data_of j) s at f v → Where (data_of k) s at f v
of_kind k j s at f v e h = rw e h

-- whatever element stands at a place, the one at place j of its rule, v is f of its data
unfoldable pub Carries : {W : Type 0} → Product → List ℕ → ℕ → ℕ → (ℕ → Data → W) → W → Type 0
Carries p s at j f v = Where (placed p j) s at (λ x. f (data_at j at) x.1) v

module _ {W : Type 0} (p : Product) (s : List ℕ) (at j : ℕ) (f : ℕ → Data → W) (v : W) {r : Read} (i : Identifies s at j r) where
  pub carries_cut : {why : Refusal} → r ≡ Err why → Carries p s at j f v
  unfolding Carries Identifies Where
  carries_cut h x b = unlike (i p x b) h

  module _ {id q : ℕ} (h : r ≡ Ok (q, id)) {o : Row} (g : o ≡ row_of p id) where
    told : (x : Element) → Held (placed p j) s at x → (id ≡ x.0) × (q ≡ data_at j at)
    unfolding Identifies Where
    told x b = let z = ok_parts (sym h ∙ i p x b) in (z.1, z.0)

    -- its identifier has a row, and its data are of that kind
    pub carries_none : {why : Refusal} → o ≡ Err why → Carries p s at j f v
    unfolding Carries Where
    carries_none {why} e x b =
        let z : row_of p x.0 ≡ Err why = rw (told x b).0 at (sym g ∙ e) in
        let y = (placed_parts p j s at x b.0 b.1).offers in
        absurd (let u : ◌≡◌ {A = ℕ} 0 1 = cc in omega arith)

    pub carries_is : {k : Kind} → o ≡ Ok k → Where (data_of k) s q (f q) v → Carries p s at j f v
    unfolding Carries Where row_of
    carries_is {k} e m x b =
        let t = told x b in
        let y = (placed_parts p j s at x b.0 b.1).carries in
        let z : row_in kinds x.0 ≡ Ok k = rw t.0 at (offered_is p (row_in kinds id) (sym g ∙ e)) in
        let d : Stands (data_of k) s (data_at j at) x.1 b.0 = rw z at y in
        (rw t.1 at m) x.1 (b.0, d)

-- of a rule that stands at a place
module _ (p : Product) (s : List ℕ) (at k : ℕ) (x : Rule) (b : Held (rule p k) s at x) {c : Read} (i : Elements s at k c) where
  pub elements_none : {B : Type 0} {why : Refusal} → c ≡ Err why → B
  unfolding Elements Where
  elements_none h = unlike (i p x b) h

  module _ {n q : ℕ} (h : c ≡ Ok (q, n)) where
    pub elements_are : (n ≡ elements_in x) × (q ≡ elements_at p k at x)
    unfolding Elements Where
    elements_are = let z = ok_parts (sym h ∙ i p x b) in (z.1, z.0)

    -- element e starts where z tells
    module _ (e : ℕ) (z : Read) (l : e < n) (g : Skipped (placed p) s q e e z) where
      skips : Skipped (placed p) s (elements_at p k at x) e e z
      skips = rw elements_are.1 at g

      pub element_never : {B : Type 0} {why : Refusal} → z ≡ Err why → B
      element_never j = skip_never (placed p) s (elements_at p k at x) e e skips x.elements b.0 (rule_elements p k s at x b.0 b.1) (omega (arith, elements_are.0)) j

      pub of_element_lem : {W : Type 0} {u o : ℕ} (absent : W) (f : ℕ → Data → W) (v : W) → z ≡ Ok (o, u) → Carries p s o e f v → v ≡ of_element absent f p k e at x
      unfolding Carries Where
      of_element_lem {o = o} absent f v j m =
          let t = elements_are.0 in
          let row = rule_elements p k s at x b.0 b.1 in
          let y = nth (placed p) s (elements_at p k at x) e o x.elements b.0 (skip_is (placed p) s (elements_at p k at x) e e skips x.elements b.0 row (omega arith) j) row (omega arith) in
          m y.x (y.tail, y.stands) ∙ ap (λ (a : ℕ). f (data_at e a) y.x.1) y.starts ∙ ap (of_first absent f e (start_in (placed p) (elements_at p k at x) x.elements e)) (sym y.whole)

-- Laws of ../Asked.antt: how the code finds rule k, by a pass over the deck first.
use Rattle.std.specs.Prelude.{ℕ, ◌≤◌, ◌<◌, List, [], drop, Result, Ok, Err, Some, None}
use Rattle.std.proofs.Common.{arith, sym, ◌∙◌, drop_of_length-le}
use Rattle.std.proofs.Math.Path.{◌≡◌, refl, ap}
use Rattle.std.proofs.Math.ListN.{length, length-drop}
use Rattle.format.specs.declared.Fault.{Fault}
use Rattle.kind.specs.Answers.{Edition}
use Rattle.format.specs.Laws.Answers.{Read}
use Rattle.scan.specs.Answers.{Scan}
use Rattle.format.specs.declared.Refusal.{Refusal}
use Rattle.format.specs.declared.Refusal.TheVariants.{At}
use Rattle.format.specs.Format.{Answer, got, refused, Bytes}
use Rattle.format.specs.Laws.Back.{Where}
use Rattle.kind.specs.declared.Product.{Product}
use Rattle.kind.specs.Kinds.{edition_of}
use Rattle.rule.specs.Rule.{Rule, rule}
use Rattle.deck.specs.Deck.{Deck, base_of, read_as, read_by, read_deck, scanned}
use Rattle.deck.specs.Written.{start_of}
use Rattle.steps.specs.Laws.Steps.{Sound, sound_read, Here, here, here_stands}
use Rattle.steps.specs.Laws.Starts.{Starts, starts_is, starts_never}
use Rattle.asked.specs.Asked.{asked_first, asked_of, asked_by, asked}

-- ---- as the code finds it

-- whatever rules a sound deck of version v has, which start at base, w is what is told of rule k
unfoldable pub Finds : {W : Type 0} → Product → ℕ → List ℕ → ℕ → ℕ → (ℕ → Rule → W) → W → Type 0
Finds p v s base k f w = (rs : List Rule) → Sound p v s rs → base ≡ base_of v (length rs) → (h : Here p v s rs k) → w ≡ f (start_of v rs k) h.r

-- in either edition
abbrev pub Tells : {W : Type 0} → ℕ → List ℕ → ℕ → ℕ → (ℕ → Rule → W) → W → Type 0
Tells v s base k f w = (p : Product) → Finds p v s base k f w

-- it is told of the rule where the code went: r is what was told of its start
module _ {W : Type 0} (p : Product) (v : ℕ) (s : List ℕ) (base k : ℕ) (f : ℕ → Rule → W) (w : W) {r : Read} where
  pub finds : {u at : ℕ} → Starts s v base k r → r ≡ Ok (at, u) → Where (rule p k) s at (f at) w → Finds p v s base k f w
  unfolding Finds Where
  finds {at = at} c i g rs o b h =
      let e : at ≡ start_of v rs k = starts_is s v base k c p rs o b (omega (arith, length-drop k rs, ap length h.from)) i in
      g h.r (rw e (here_stands p v s rs k h)) ∙ ap (λ (a : ℕ). f a h.r) e

  pub finds_never : {why : Refusal} → Starts s v base k r → r ≡ Err why → Finds p v s base k f w
  unfolding Finds
  finds_never c i rs o b h = starts_never s v base k c p rs o b (omega (arith, length-drop k rs, ap length h.from)) i

-- the product is that of the edition
pub by_product : {W : Type 0} (f : Product → ℕ → Rule → W) (edition v base k : ℕ) (s : List ℕ) (w : W) {e : Edition} {p : Product} → e ≡ edition_of edition → e ≡ Some p → Finds p v s base k (f p) w → (q : Product) → edition_of edition ≡ Some q → Finds q v s base k (f q) w
by_product f edition v base k s w {p = p} h i g q j = let z : Some p ≡ Some q = sym i ∙ h ∙ j in let y : p ≡ q = cc in rw (← y) g

-- what a pass found, number for number
abbrev found : Scan → ℕ × ℕ × ℕ × ℕ
found (Ok x) = x
found (Err why) = (0, 0, 0, 0)

module _ {A : Type 0} (f : Product → ℕ → Rule → Result A Refusal) (edition k : ℕ) (s : List ℕ) where
  pub asked_none : {e : Edition} {v : Result A Refusal} → e ≡ edition_of edition → e ≡ None → v ≡ Err (At Fault.Edition 0) → v ≡ asked f edition k s
  unfolding asked
  asked_none h i w = rw (← h, i) w

  module _ {c : Scan} where
    pub asked_refused : {why : Refusal} → c ≡ scanned (read_deck edition s) → c ≡ Err why → Err why ≡ asked f edition k s
    unfolding asked read_deck read_by
    asked_refused {why} g o = by (edition_of edition) (sym o ∙ g)
      where
        go : (p : Product) (a : Answer Deck) → Err why ≡ scanned a → Err why ≡ asked_of f k p a
        go p (got x m) z = absurd (let y : ◌≡◌ {A = ℕ} 0 1 = cc in omega arith)
        go p (refused x y) z = let u : why ≡ At x y = cc in rw u

        by : (e : Edition) → Err why ≡ scanned (read_by e s) → Err why ≡ asked_by f k e s
        by (Some p) z = go p (read_as p s) z
        by None z = let u : why ≡ At Fault.Edition 0 = cc in rw u

    module _ {v base n t : ℕ} where
      -- an accepted deck is sound
      asked_got : {w : Result A Refusal} → Bytes s → c ≡ scanned (read_deck edition s) → c ≡ Ok (v, base, n, t)
          → ((p : Product) (d : Deck) → edition_of edition ≡ Some p → v ≡ d.version → n ≡ length d.rules → base ≡ base_of d.version (length d.rules) → Sound p d.version s d.rules → w ≡ asked_first (f p) (start_of d.version d.rules k) (drop k d.rules))
          → w ≡ asked f edition k s
      unfolding asked read_deck read_by
      asked_got {w} bs g o h = by (edition_of edition) refl (sym o ∙ g)
        where
          go : (p : Product) (a : Answer Deck) → edition_of edition ≡ Some p → read_as p s ≡ a → ◌≡◌ {A = Scan} (Ok (v, base, n, t)) (scanned a) → w ≡ asked_of f k p a
          go p (got d m) i y z = let q = ap found z in h p d i (ap (λ (x : ℕ × ℕ × ℕ × ℕ). x.0) q) (ap (λ (x : ℕ × ℕ × ℕ × ℕ). x.2) q) (ap (λ (x : ℕ × ℕ × ℕ × ℕ). x.1) q) (sound_read p s d m bs y)
          go p (refused x q) i y z = absurd (let u : ◌≡◌ {A = ℕ} 0 1 = cc in omega arith)

          by : (e : Edition) → edition_of edition ≡ e → ◌≡◌ {A = Scan} (Ok (v, base, n, t)) (scanned (read_by e s)) → w ≡ asked_by f k e s
          by (Some p) i z = go p (read_as p s) i refl z
          by None i z = absurd (let u : ◌≡◌ {A = ℕ} 0 1 = cc in omega arith)

      pub asked_absent : Bytes s → c ≡ scanned (read_deck edition s) → c ≡ Ok (v, base, n, t) → n ≤ k → Err (At Fault.Absent 0) ≡ asked f edition k s
      asked_absent bs g o l = asked_got bs g o (λ p d i x m b y. let z : drop k d.rules ≡ [] = drop_of_length-le d.rules {i = k} (omega arith) in rw z)

      pub asked_is : {w : Result A Refusal} → Bytes s → c ≡ scanned (read_deck edition s) → c ≡ Ok (v, base, n, t) → k < n → ((p : Product) → edition_of edition ≡ Some p → Finds p v s base k (f p) w) → w ≡ asked f edition k s
      unfolding Finds
      asked_is {w} bs g o l h = asked_got bs g o (λ p d i x m b y. go p d i x b y (here p d.version s d.rules k y (omega arith)))
        where
          go : (p : Product) (d : Deck) → edition_of edition ≡ Some p → v ≡ d.version → base ≡ base_of d.version (length d.rules) → Sound p d.version s d.rules → Here p d.version s d.rules k → w ≡ asked_first (f p) (start_of d.version d.rules k) (drop k d.rules)
          go p d i x b y e = (rw x at (h p i)) d.rules y b e ∙ ap (asked_first (f p) (start_of d.version d.rules k)) (sym e.from)

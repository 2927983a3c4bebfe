-- The word list that is the last element of a rule, and where the number of its words stands.
use Rattle.std.specs.Prelude.{ℕ, ◌+◌, ◌-◌, ◌≡◌, refl, Bool, true, false, List, [], ◌∷◌, ◌++◌, length, take, drop, eqb, Ok, Err}
use Rattle.std.proofs.Common.{arith, sym, ◌∙◌, append_assoc, length-append, drop_of_length-le, drop-drop}
use Rattle.std.proofs.Math.Path.{ap}
use Rattle.format.specs.declared.Fault.{Fault}
use Rattle.format.specs.Laws.Answers.{Read}
use Rattle.kind.specs.Answers.{Row}
use Rattle.format.specs.declared.Refusal.{Refusal}
use Rattle.format.specs.declared.Refusal.TheVariants.{At}
use Rattle.format.specs.Format.{pick}
use Rattle.format.specs.ReadWrite.{pair_write, spelt, each_write}
use Rattle.format.specs.Laws.ReadWrite.{length_spelt, length_before}
use Rattle.format.specs.Combinators.{pair, judged, via, seq, ◌then◌, number, fixed, count, each, counted, listed}
use Rattle.format.specs.Laws.Seen.{seen, itself, unlike, ok_parts}
use Rattle.format.specs.Laws.Written.{Held}
use Rattle.format.specs.Laws.Back.{Where, back_got, back_no}
use Rattle.format.specs.Row.{start_in}
use Rattle.format.specs.Laws.Skip.{Skipped, nth}
use Rattle.text.specs.Text.{word, Text}
use Rattle.kind.specs.declared.Product.{Product}
use Rattle.kind.specs.declared.Kind.{Kind}
use Rattle.kind.specs.declared.Role.TheVariants as Role
use Rattle.kind.specs.Kinds.{kinds, row_in}
use Rattle.element.specs.Data.{Data, plain, words, sizes, span, of_words, words_of, data_of, word_data}
use Rattle.element.specs.Laws.Data.{Other, words_none, list_parts}
use Rattle.element.specs.Element.{Element, element, identifier, data_by}
use Rattle.rule.specs.Rule.{Rule, rule, separator, placed}
use Rattle.rule.specs.Laws.Rule.{rule_fits}
use Rattle.rule.specs.Laws.Parts.{head_bytes, inner, inner_as}
use Rattle.rule.specs.Places.{elements_at, data_at, enabled_at}
use Rattle.rule.specs.Laws.Places.{rule_parts, rule_elements, placed_parts}
use Rattle.walk.specs.Laws.Elements.{Elements, Carries, elements_none, elements_are, element_never, of_element_lem}
use Rattle.walk.specs.Elements.{of_first, of_element}
use Rattle.plan.specs.Edit.{Plan, refuse, at_list}

-- the number of words of a list whose data start at a place, and where it stands; other data are no list
abbrev pub list_of : ℕ → Data → Read
list_of at d = of_words (Err (At Fault.Last 0)) (λ ws. Ok (at, length ws)) d

-- of the last element of rule k, which starts at a place
abbrev pub last_list : Product → ℕ → ℕ → Rule → Read
last_list p k at r = of_element (Err (At Fault.Last 0)) list_of p k (length r.elements - 1) at r

-- ---- as the code finds it

abbrev counted_at : ℕ → ℕ → Read
counted_at at n = Ok (at, n)

module _ (s : List ℕ) (at : ℕ) {z : Read} (e : z ≡ seen itself (number 4) s at) where
  pub list_cut : (r : Read) {why : Refusal} → z ≡ Err why → Where word_data s at (list_of at) r
  unfolding Where
  list_cut r h x b = back_no itself (number 4) s at (list_parts s at x b.0 b.1).0.1 e h

  pub list_is : {n q : ℕ} → z ≡ Ok (q, n) → Where word_data s at (list_of at) (Ok (at, n))
  unfolding Where word_data via
  list_is h x b = ap (counted_at at) (back_got itself (number 4) s at (list_parts s at x b.0 b.1).0.1 e h).0 ∙ ap (list_of at) b.1.fit.1

pub list_other : (k : Kind) (s : List ℕ) (at : ℕ) → Other k → Where (data_of k) s at (list_of at) (Err (At Fault.Last 0))
unfolding Where
list_other k s at o x b = sym (words_none {W = Read} (Err (At Fault.Last 0)) (λ ws. counted_at at (length ws)) k x b.1.fit o)

module _ (p : Product) (s : List ℕ) (at k : ℕ) (r : Read) {c : Read} (i : Elements s at k c) where
  pub last_list_cut : {why : Refusal} → c ≡ Err why → Where (rule p k) s at (last_list p k at) r
  unfolding Where
  last_list_cut h x b = elements_none p s at k x b i h

  module _ {n q : ℕ} (h : c ≡ Ok (q, n)) where
    -- never, of a rule
    pub last_list_none : n ≡ 0 → Where (rule p k) s at (last_list p k at) r
    unfolding Where
    last_list_none e x b = absurd (omega (arith, (elements_are p s at k x b i h).0, (rule_fits p k x b.1.fit).0))

    pub last_list_never : {z : Read} {why : Refusal} → (n ≡ 0 → ⊥) → Skipped (placed p) s q (n - 1) (n - 1) z → z ≡ Err why → Where (rule p k) s at (last_list p k at) r
    unfolding Where
    last_list_never e g j x b = element_never p s at k x b i h (n - 1) _ (omega arith) g j

    pub last_list_is : {z : Read} {u o : ℕ} → (n ≡ 0 → ⊥) → Skipped (placed p) s q (n - 1) (n - 1) z → z ≡ Ok (o, u) → Carries p s o (n - 1) list_of r → Where (rule p k) s at (last_list p k at) r
    unfolding Where
    last_list_is e g j m x b =
        of_element_lem p s at k x b i h (n - 1) _ (omega arith) g (Err (At Fault.Last 0)) list_of r j m
        ∙ ap (λ (l : ℕ). of_element (Err (At Fault.Last 0)) list_of p k (l - 1) at x) (elements_are p s at k x b i h).0

-- ---- what it tells of the rule's elements

-- 8001 where it is not the first, and the identifier
unfoldable pub leading : ℕ → ℕ → List ℕ
leading j id = pick (eqb j 0) (spelt 4 id) (spelt 2 0x8001 ++ spelt 4 id)

leading_long : (j id : ℕ) → length (leading j id) ≡ pick (eqb j 0) 4 6
unfolding leading pick
leading_long j id = go (eqb j 0)
  where
    go : (b : Bool) → length (pick b (spelt 4 id) (spelt 2 0x8001 ++ spelt 4 id)) ≡ pick b 4 6
    go true = length_spelt 4 id
    go false = omega (arith, length_before 2 0x8001 (spelt 4 id), length_spelt 4 id)

-- a list as it is written: the number of words, the words
pub list_written : (p : Product) (j id : ℕ) (ws : List Text) → row_in kinds id ≡ Ok Kind.WordList → (placed p j).write (id, words ws) ≡ leading j id ++ (spelt 4 (length ws) ++ each_write (λ i. word) 0 ws)
unfolding leading placed pick fixed ◌then◌ seq element identifier judged pair pair_write number word_data listed counted via each count
list_written p j id ws e = go (eqb j 0)
  where
    go : (b : Bool) → (pick b (element p) (separator then element p)).write (id, words ws) ≡ pick b (spelt 4 id) (spelt 2 0x8001 ++ spelt 4 id) ++ (spelt 4 (length ws) ++ each_write (λ i. word) 0 ws)
    go true = rw e
    go false = rw e (simp append_assoc)

-- in rule k, whose name ends at e and which has these elements, the last of them is a list of c words, whose number stands at t
pub record EndsInList (k e : ℕ) (els : List Element) (c t : ℕ) : Type 0 where
  pub id : ℕ
  pub ws : List Text
  pub is : drop (length els - 1) els ≡ (id, words ws) ∷ []
  pub row : row_in kinds id ≡ Ok Kind.WordList
  pub many : c ≡ length ws
  pub place : e + 26 + length (head_bytes k) + length (inner (take (length els - 1) els) ++ leading (length els - 1) id) ≡ t

-- data that tell of words are a list's
words_are : (at : ℕ) (r : Row) (x : Data) {c t : ℕ} → (data_by r).Fit x → list_of at x ≡ Ok (t, c) → (r ≡ Ok Kind.WordList) × ((x ≡ words (words_of x)) × ((c ≡ length (words_of x)) × (t ≡ at)))
unfolding word_data via
words_are at (Ok Kind.Marker) x f h = unlike h (words_none _ _ Kind.Marker x f tt)
words_are at (Ok (Kind.Simple r)) x f h = unlike h (words_none _ _ (Kind.Simple r) x f tt)
words_are at (Ok Kind.WordList) x {c} {t} f h = let z = ok_parts (sym h ∙ sym (ap (list_of at) f.1)) in (refl, (sym f.1, (z.1, z.0)))
words_are at (Ok (Kind.Size r)) x f h = unlike h (words_none _ _ (Kind.Size r) x f tt)
words_are at (Ok (Kind.Dates r)) x f h = unlike h (words_none _ _ (Kind.Dates r) x f tt)
words_are at (Err why) x f h = unlike h (words_none _ _ (Kind.Simple Role.Condition) x f tt)

pub ends_in_list : (p : Product) (s : List ℕ) (at k e : ℕ) (x : Rule) {c t : ℕ} → Held (rule p k) s at x → e ≡ enabled_at at x → last_list p k at x ≡ Ok (t, c) → EndsInList k e x.elements c t
unfolding start_in head_bytes
ends_in_list p s at k e x b ee h =
    let els = x.elements in
    let j = length els - 1 in
    let a = start_in (placed p) (elements_at p k at x) els j in
    let l = (rule_fits p k x b.1.fit).0 in
    let y = nth (placed p) s (elements_at p k at x) j a els b.0 refl (rule_elements p k s at x b.0 b.1) (omega arith) in
    let id = y.x.0 in
    let w = words_are (data_at j a) (row_in kinds id) y.x.1 (placed_parts p j s a y.x y.tail y.stands).carries.fit (sym (ap (of_first (Err (At Fault.Last 0)) list_of j a) y.whole) ∙ h) in
    let nil : y.ys ≡ [] = sym (ap (drop 1) y.whole) ∙ drop-drop 1 j els ∙ drop_of_length-le els {i = j + 1} (omega arith) in
    record {
      id = id;
      ws = words_of y.x.1;
      is = y.whole ∙ ap (λ (ys : List Element). y.x ∷ ys) nil ∙ ap (λ (d : Data). (id, d) ∷ []) w.1.0;
      row = w.0;
      many = w.1.1.0;
      place = omega (arith, w.1.1.1, ee, (rule_parts p k s at x b.0 b.1).begins, ap length (inner_as p (take j els)), length-append (inner (take j els)) (leading j id), leading_long j id);
    }

-- other elements are none
no_list : {why : Refusal} → ◌≡◌ {A = Read} (Err (At Fault.Last 0)) (Err why) → why ≡ At Fault.Last 0
no_list h = cc

pub list_none : {A : Type 0} (j at : ℕ) (xs : List Element) {why : Refusal} → of_first (Err (At Fault.Last 0)) list_of j at xs ≡ Err why → (g : ℕ → List Text → Plan A) → (why ≡ At Fault.Last 0) × (at_list xs g ≡ refuse Fault.Last 0)
unfolding at_list
list_none j at [] h g = (no_list h, refl)
list_none j at ((id, plain) ∷ xs) h g = (no_list h, refl)
list_none j at ((id, words ws) ∷ xs) h g = unlike refl h
list_none j at ((id, sizes a b) ∷ xs) h g = (no_list h, refl)
list_none j at ((id, span a b) ∷ xs) h g = (no_list h, refl)

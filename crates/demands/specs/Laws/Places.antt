-- What stands where in a deck that was read: laws for ../Tables.antt and ../Views.antt.
use Rattle.std.specs.Prelude.{ℕ, ◌+◌, ◌-◌, ◌*◌, ◌/◌, ◌%◌, ◌≡◌, refl, List, [], ◌∷◌, ◌++◌, length, take, drop, Ok, Err}
use Rattle.std.proofs.Common.{arith, sym, ap, ◌∙◌, append_assoc, length-append, length-drop}
use Rattle.std.proofs.Math.Seq.{take-append_seam}
use Rattle.format.specs.Format.{Format, Bytes, got}
use Rattle.format.specs.ReadWrite.{spelt, each_write, AllFit}
use Rattle.format.specs.Laws.ReadWrite.{length_spelt}
use Rattle.format.specs.Combinators.{number}
use Rattle.format.specs.Laws.Written.{behind, Stands, Held, Row}
use Rattle.format.specs.Row.{start_in}
use Rattle.format.specs.Laws.Skip.{nth}
use Rattle.text.specs.Text.{Text, length_of, string_length, unit, string, word, units_from}
use Rattle.text.specs.Laws.Written.{string_written, string_fits, string_long, word_written, word_fits}
use Rattle.kind.specs.declared.Product.{Product}
use Rattle.kind.specs.declared.Role.TheVariants.{Condition}
use Rattle.kind.specs.declared.Kind.{Kind}
use Rattle.kind.specs.Answers.{Row as KindRow}
use Rattle.element.specs.Data.{Data, words_of, data_of}
use Rattle.element.specs.Laws.Data.{Other, words_none, list_parts}
use Rattle.element.specs.Element.{Element, data_by}
use Rattle.rule.specs.Rule.{Rule, rule, placed}
use Rattle.rule.specs.Places.{elements_at}
use Rattle.rule.specs.Laws.Places.{rule_elements}
use Rattle.deck.specs.Deck.{base_of, read_as}
use Rattle.deck.specs.Laws.Deck.{read_writes_back}
use Rattle.deck.specs.Written.{deck_of, start_of}
use Rattle.deck.specs.Laws.Written.{start_as, deck_row}
use Rattle.given.specs.Given.{units}
use Rattle.demands.specs.Places.{Between, UnitsOf, element_start}

-- ---- what stands at a place
pub between : {A : Type 0} (a : Format A) (s : List ℕ) (at : ℕ) {x : A} {u : List ℕ} → Stands a s at x u → Between s at (at + length (a.write x)) (a.write x)
between a s at {x} {u} b =
    let z : at + length (a.write x) - at ≡ length (a.write x) = omega arith in
    record { ends = refl; are = rw (z, b.is) (take-append_seam (a.write x) u) }

-- a number of four bytes
pub four_between : (s : List ℕ) (at : ℕ) {v : ℕ} {u : List ℕ} → Stands (number 4) s at v u → Between s at (at + 4) (spelt 4 v)
unfolding number
four_between s at {v} b = rw length_spelt at (between (number 4) s at b)

-- value k of a row stands where it starts
pub stands_in : {A : Type 0} (a : ℕ → Format A) (s : List ℕ) (from k : ℕ) (xs : List A) {x : A} {ys : List A} {t : List ℕ} → Row a s 0 from xs t → drop k xs ≡ x ∷ ys → Held (a k) s (start_in a from xs k) x
stands_in a s from k xs {x} {ys} {t} row d =
    let n = nth a s from k (start_in a from xs k) xs t refl row (omega (arith, length-drop k xs, ap length d)) in
    let f : n.x ∷ n.ys ≡ x ∷ ys = sym n.whole ∙ d in
    let z : n.x ≡ x = cc in
    (n.tail, rw z at n.stands)

-- the units of a String, and of a word
units_back : (i : ℕ) (us : List ℕ) → AllFit (λ j. number 2) i us → units (each_write (λ j. number 2) i us) ≡ us
unfolding units each_write AllFit number spelt
units_back i [] f = refl
units_back i (u ∷ us) f =
    let z : u % 256 + 256 * (u / 256 % 256) ≡ u = omega (arith, f.0) in
    rw (z, units_back (i + 1) us f.1)

pub string_units : (s : List ℕ) (at : ℕ) {t : Text} {u : List ℕ} → Stands string s at t u → UnitsOf t.units (take (2 * length t.units) (drop (units_from at t) s))
string_units s at {t} {u} b =
    let n = string_length.write (length_of t) in
    let bs = each_write (λ i. number 2) 0 t.units in
    let w = string_written unit t in
    let l : length bs ≡ 2 * length t.units = omega (arith, string_long t, ap length w, length-append n bs) in
    let e : take (2 * length t.units) (drop (at + length n) s) ≡ bs = rw (← l, behind s at n (bs ++ u) (b.is ∙ rw (w, append_assoc))) (take-append_seam bs u) in
    (e, ap units e ∙ units_back 0 t.units (string_fits unit t b.fit).1)

pub word_units : (s : List ℕ) (at : ℕ) {t : Text} {u : List ℕ} → Stands word s at t u → UnitsOf t.units (take (2 * length t.units) (drop (units_from (at + 4) t) s))
word_units s at {t} {u} b =
    let e = behind s at (spelt 4 0) (string.write t ++ u) (b.is ∙ rw (word_written, append_assoc)) in
    string_units s (at + 4) (record { fit = word_fits unit t b.fit; is = rw length_spelt at e })

-- the words of data that have a word: only a word list has
pub words_row : (w : ℕ) (s : List ℕ) (at : ℕ) {x : Data} {u : List ℕ} {t : Text} {ws : List Text} (o : KindRow) → drop w (words_of x) ≡ t ∷ ws → Stands (data_by o) s at x u → Row (λ i. word) s 0 (at + 4) (words_of x) u
words_row w s at {x} {u} o d = by o
  where
    other : (k : Kind) → Other k → Stands (data_of k) s at x u → Row (λ i. word) s 0 (at + 4) (words_of x) u
    other k i b = let z : words_of x ≡ [] = words_none [] (λ ws. ws) k x b.fit i in absurd (omega (arith, length-drop w (words_of x), ap length d, ap length z))

    of : (k : Kind) → Stands (data_of k) s at x u → Row (λ i. word) s 0 (at + 4) (words_of x) u
    of Kind.Marker b = other Kind.Marker tt b
    of (Kind.Simple r) b = other (Kind.Simple r) tt b
    of Kind.WordList b = (list_parts s at x u b).1
    of (Kind.Size r) b = other (Kind.Size r) tt b
    of (Kind.Dates r) b = other (Kind.Dates r) tt b

    by : (o : KindRow) → Stands (data_by o) s at x u → Row (λ i. word) s 0 (at + 4) (words_of x) u
    by (Ok k) b = of k b
    by (Err why) b = other (Kind.Simple Condition) tt b

-- ---- the deck s was read as the rules rs in version v, and r is rule k of them
module _ (p : Product) (v : ℕ) (s : List ℕ) (rs : List Rule) (n : ℕ) (bs : Bytes s) (e : read_as p s ≡ got (deck_of v rs) n) (k : ℕ) {r : Rule} {later : List Rule} (is-r : drop k rs ≡ r ∷ later) where
  pub rule_stands : Held (rule p k) s (start_of v rs k) r
  rule_stands =
      let w = read_writes_back p s (deck_of v rs) n bs e in
      rw (start_as v rs k p) at (stands_in (rule p) s (base_of v (length rs)) k rs (deck_row p s (deck_of v rs) w.fit w.is) is-r)

  pub element_stands : (i : ℕ) {x : Element} {others : List Element} → drop i r.elements ≡ x ∷ others → Held (placed p i) s (element_start p v rs k r i) x
  element_stands i d = let h = rule_stands in stands_in (placed p) s (elements_at p k (start_of v rs k) r) i r.elements (rule_elements p k s (start_of v rs k) r h.0 h.1) d

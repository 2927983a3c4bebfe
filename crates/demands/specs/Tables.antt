-- Demand 2, of tables: each rule and each element of the list of rules that was read has its row, and the bytes between the places of a row are
-- that rule, or those data, as written.
use Prim.Native.Nat.{ℕ, zero, suc, ◌+◌, ◌*◌, ◌≤◌}
use Rattle.std.proofs.Math.Nat.{add-zero, zero-add}
use Rattle.std.proofs.Common.{add_assoc, ap, ◌∙◌, length-drop, length-take-le, Ok, Err, Some, None}
use native.Mathlib.Omega.{arith}
use Rattle.std.proofs.Math.Path.{◌≡◌}
use Rattle.std.specs.Prelude.{refl, Bool, true, false, leb, eqb, take, drop}
use mathlib.Core.List.{List, [], ◌∷◌, ◌++◌, append_assoc}
use Rattle.std.proofs.Math.ListN.{length, length-append}
use Rattle.std.proofs.Math.Seq.{drop-append_seam, drop-drop}
use borrow.Author.Tests.{le-leb}
use Rattle.format.specs.declared.Fault.TheVariants as Fault
use Rattle.kind.specs.Answers.{Edition}
use Rattle.format.specs.declared.Refusal.TheVariants.{At}
use Rattle.format.specs.Format.{Format, Answer, got, refused, Bytes, pick}
use Rattle.format.specs.ReadWrite.{pair_write, spelt, bit, each_write}
use Rattle.format.specs.Laws.ReadWrite.{length_spelt}
use Rattle.format.specs.Combinators.{pair, via, judged, seq, ◌then◌, number, fixed}
use Rattle.format.specs.Row.{total, start_in}
use Rattle.text.specs.Laws.Written.{string_long}
use Rattle.kind.specs.declared.Product.{Product}
use Rattle.kind.specs.Kinds.{kinds, row_in, edition_of}
use Rattle.element.specs.Element.{Element, data_by, element, identifier}
use Rattle.rule.specs.Rule.{Rule, rule, placed, separator, elements_in}
use Rattle.rule.specs.Places.{rule_bytes, units_at, enabled_at, elements_at, data_at}
use Rattle.rule.specs.Laws.Places.{rule_parts, placed_parts}
use Rattle.deck.specs.Deck.{Deck, base_of, read_as}
use Rattle.deck.specs.Written.{deck_of, start_of}
use Rattle.deck.specs.Laws.Written.{start_as}
use Rattle.fill.specs.Rows.{rows_of, rule_width, element_width, rule_row, rule_rows, element_row, rule_element_rows, all_element_rows}
use Rattle.tables.specs.Tables.{in_tables, tabled, read_says, rules_after, elements_after}
use Rattle.fill.specs.Laws.Fill.{put_front, total_one}
use Rattle.fill.specs.Laws.Parts.{element_rows_long, rule_rows_long, all_rows_long}
use Rattle.demands.specs.Places.{Between, UnitsOf, element_start}
use Rattle.demands.specs.Laws.Places.{between, four_between, string_units, rule_stands, element_stands}

-- "start, end, first byte of the name's units, number of elements"; document 02, W8: "a fifth number, the offset of" Enabled: a row of rule k of rs in version v, which is r
pub record RuleRow (p : Product) (v : ℕ) (s : List ℕ) (rs : List Rule) (k : ℕ) (r : Rule) (row : List ℕ) : Type 0 where
  pub start : ℕ
  pub end : ℕ
  pub units : ℕ
  pub enabled : ℕ
  pub is : row ≡ start ∷ end ∷ units ∷ length r.elements ∷ enabled ∷ []
  pub starts : start ≡ start_of v rs k
  pub written : Between s start end ((rule p k).write r)
  pub named : UnitsOf r.name.units (take (2 * length r.name.units) (drop units s))
  pub stands : enabled ≡ enabled_at start r
  pub behind : enabled ≡ units + 2 * length r.name.units
  pub state : Between s enabled (enabled + 4) (spelt 4 (bit r.on))

-- "Per element, four: identifier, rule number, start and end of data": a row of element i of rule k of rs in version v, which are x and r
pub record ElementRow (p : Product) (v : ℕ) (s : List ℕ) (rs : List Rule) (k : ℕ) (r : Rule) (i : ℕ) (x : Element) (row : List ℕ) : Type 0 where
  pub start : ℕ
  pub end : ℕ
  pub is : row ≡ x.0 ∷ k ∷ start ∷ end ∷ []
  pub starts : start ≡ data_at i (element_start p v rs k r i)
  pub written : Between s start end ((data_by (row_in kinds x.0)).write x.1)

-- ---- rows of w numbers, f x of them for each x
module _ {A : Type 0} (a : ℕ → Format A) (row : ℕ → ℕ → A → List ℕ) (w : ℕ) (f : A → ℕ) (long : (i at : ℕ) (x : A) → length (row i at x) ≡ w * f x) where
  -- those of value k stand behind those of the values before it
  rows_from : (i at k : ℕ) (xs : List A) {x : A} {ys : List A} (t : List ℕ) → drop k xs ≡ x ∷ ys
      → (u : List ℕ) × (drop (w * total f (take k xs)) (rows_of a row i at xs ++ t) ≡ row (i + k) (at + length (each_write a i (take k xs))) x ++ u)
  unfolding rows_of total each_write
  rows_from i at zero [] t d = absurd (let z : ◌≡◌ {A = ℕ} 0 1 = cc in omega arith)
  rows_from i at zero (y ∷ xs) {x} t d =
      let z : y ≡ x = cc in
      let rest = rows_of a row (i + 1) (at + length ((a i).write y)) xs in
      let none : w * 0 ≡ 0 = omega arith in
      (rest ++ t, rw (none, add-zero i, add-zero at, ← z) (append_assoc (row i at y) rest t))
  rows_from i at (suc k) [] t d = absurd (let z : ◌≡◌ {A = ℕ} 0 1 = cc in omega arith)
  rows_from i at (suc k) (y ∷ xs) t d =
      let b = (a i).write y in
      let bs = each_write a (i + 1) (take k xs) in
      let v = rows_from (i + 1) (at + length b) k xs t d in
      let m : w * (f y + total f (take k xs)) ≡ length (row i at y) + w * total f (take k xs) = omega (arith, long i at y) in
      let ei : i + 1 + k ≡ i + suc k = omega arith in
      let ea : at + length b + length bs ≡ at + length (b ++ bs) = omega (arith, length-append b bs) in
      (v.0, rw (m, append_assoc, ← drop-drop, drop-append_seam, ← ei, ← ea) v.1)

  rows_at : (at k : ℕ) (xs : List A) {x : A} {ys : List A} (t : List ℕ) → drop k xs ≡ x ∷ ys → (u : List ℕ) × (drop (w * total f (take k xs)) (rows_of a row 0 at xs ++ t) ≡ row k (start_in a at xs k) x ++ u)
  unfolding start_in
  rows_at at k xs t d = let z : 0 + k ≡ k = zero-add k in rw z at (rows_from 0 at k xs t d)

-- one for each
row_at : {A : Type 0} (a : ℕ → Format A) (row : ℕ → ℕ → A → List ℕ) (w : ℕ) → ((i at : ℕ) (x : A) → length (row i at x) ≡ w) → (at k : ℕ) (xs : List A) {x : A} {ys : List A} (t : List ℕ) → drop k xs ≡ x ∷ ys
    → (u : List ℕ) × (drop (w * k) (rows_of a row 0 at xs ++ t) ≡ row k (start_in a at xs k) x ++ u)
row_at a row w long at k xs t d =
    let z : total (λ x. 1) (take k xs) ≡ k = total_one (take k xs) ∙ length-take-le k xs (omega (arith, length-drop k xs, ap length d)) in
    rw z at (rows_at a row w (λ x. 1) (λ i o x. omega (arith, long i o x)) at k xs t d)

-- an element's data end where it ends
placed_long : (p : Product) (i : ℕ) (x : Element) → length ((placed p i).write x) ≡ pick (eqb i 0) 4 6 + length ((data_by (row_in kinds x.0)).write x.1)
unfolding placed pick element identifier ◌then◌ seq via pair pair_write judged number fixed
placed_long p i x = go (eqb i 0)
  where
    go : (b : Bool) → length ((pick b (element p) (separator then element p)).write x) ≡ pick b 4 6 + length ((data_by (row_in kinds x.0)).write x.1)
    go true = simp (length-append, length_spelt)
    go false = simp (length-append, length_spelt) (omega arith)

-- ---- a read that is done has read a list of rules in a version, and answers their number
pub record Accepted (edition : ℕ) (s : List ℕ) (m : ℕ) : Type 0 where
  pub product : Product
  pub names : edition_of edition ≡ Some product
  pub version : ℕ
  pub rules : List Rule
  pub ends : ℕ
  pub is : read_as product s ≡ got (deck_of version rules) ends
  pub many : m ≡ length rules

pub done_has_read : (edition : ℕ) (s : List ℕ) (rules elements m : ℕ) → read_says (edition_of edition) rules elements s ≡ Ok m → Accepted edition s m
unfolding in_tables pick
done_has_read edition s rules elements m = by (edition_of edition) refl
  where
    room : (x y : Bool) {c : ℕ} → pick x (pick y (Ok c) (Err (At Fault.Table 1))) (Err (At Fault.Table 0)) ≡ Ok m → m ≡ c
    room true true d = cc
    room true false d = absurd (let z : ◌≡◌ {A = ℕ} 0 1 = cc in omega arith)
    room false y d = absurd (let z : ◌≡◌ {A = ℕ} 0 1 = cc in omega arith)

    of : (p : Product) → edition_of edition ≡ Some p → (a : Answer Deck) → read_as p s ≡ a → tabled rules elements a ≡ Ok m → Accepted edition s m
    of p ed (got k n) e d =
        record { product = p; names = ed; version = k.version; rules = k.rules; ends = n; is = e; many = room (leb (rule_width * length k.rules) rules) (leb (element_width * total elements_in k.rules) elements) d }
    of p ed (refused c q) e d = absurd (let z : ◌≡◌ {A = ℕ} 0 1 = cc in omega arith)

    by : (o : Edition) → edition_of edition ≡ o → read_says o rules elements s ≡ Ok m → Accepted edition s m
    by (Some p) ed d = of p ed (read_as p s) refl d
    by None ed d = absurd (let z : ◌≡◌ {A = ℕ} 0 1 = cc in omega arith)

-- ---- the deck s was read as the rules rs in version v, and the tables that were lent are rules and elements
module _ (edition : ℕ) (p : Product) (ed : edition_of edition ≡ Some p) (v : ℕ) (s : List ℕ) (rs : List Rule) (n : ℕ) (bs : Bytes s) (e : read_as p s ≡ got (deck_of v rs) n) (rules elements : List ℕ) where
  -- where the rules start
  abbrev base : ℕ
  base = base_of v (length rs)

  -- with room in both the read is done, and answers the number of rules
  pub read_is_done : rule_width * length rs ≤ length rules → element_width * total elements_in rs ≤ length elements → read_says (edition_of edition) (length rules) (length elements) s ≡ Ok (length rs)
  unfolding in_tables pick
  read_is_done h g = rw (ed, e, le-leb _ _ h, le-leb _ _ g)

  -- it is done
  module _ (m : ℕ) (done : read_says (edition_of edition) (length rules) (length elements) s ≡ Ok m) where
    now : (rules_after (edition_of edition) s rules elements ≡ rule_rows p 0 base rs ++ drop (length (rule_rows p 0 base rs)) rules) × (elements_after (edition_of edition) s rules elements ≡ all_element_rows p 0 base rs ++ drop (length (all_element_rows p 0 base rs)) elements)
    now = let d = rw (ed, e) at done in rw (ed, e, d) (put_front rules (rule_rows p 0 base rs), put_front elements (all_element_rows p 0 base rs))

    -- every rule has its row
    pub rule_has_row : (k : ℕ) {r : Rule} {later : List Rule} → drop k rs ≡ r ∷ later → RuleRow p v s rs k r (take rule_width (drop (rule_width * k) (rules_after (edition_of edition) s rules elements)))
    rule_has_row k {r} is-r =
        let at = start_of v rs k in
        let h = rule_stands p v s rs n bs e k is-r in
        let y = rule_parts p k s at r h.0 h.1 in
        let q = row_at (rule p) (rule_row p) rule_width (λ i at x. refl) base k rs (drop (length (rule_rows p 0 base rs)) rules) is-r in
        record {
          start = at;
          end = at + rule_bytes p k r;
          units = units_at at r;
          enabled = enabled_at at r;
          is = rw (now.0, q.1, start_as);
          starts = refl;
          written = between (rule p k) s at h.1;
          named = string_units s (at + 4) y.named.1;
          stands = refl;
          behind = omega (arith, string_long r.name);
          state = four_between s (enabled_at at r) y.switched.1;
        }

    -- every element has its row, behind those of the rules before its own
    pub element_has_row : (k : ℕ) {r : Rule} {later : List Rule} → drop k rs ≡ r ∷ later → (i : ℕ) {x : Element} {others : List Element} → drop i r.elements ≡ x ∷ others
        → ElementRow p v s rs k r i x (take element_width (drop (element_width * (total elements_in (take k rs) + i)) (elements_after (edition_of edition) s rules elements)))
    element_has_row k {r} is-r i {x} is_x =
        let at = data_at i (element_start p v rs k r i) in
        let form = data_by (row_in kinds x.0) in
        let h = element_stands p v s rs n bs e k is-r i is_x in
        let q = rows_at (rule p) (rule_element_rows p) element_width elements_in (λ j a y. element_rows_long p j (elements_at p j a y) y.elements) base k rs (drop (length (all_element_rows p 0 base rs)) elements) is-r in
        let o = row_at (placed p) (element_row p k) element_width (λ j a y. refl) (elements_at p k (start_of v rs k) r) i r.elements q.0 is_x in
        let z : element_width * (total elements_in (take k rs) + i) ≡ element_width * total elements_in (take k rs) + element_width * i = omega arith in
        record {
          start = at;
          end = at + length (form.write x.1);
          is = rw (now.1, z, ← drop-drop, q.1, start_as, o.1, placed_long, ← add_assoc);
          starts = refl;
          written = between form s at (placed_parts p i s (element_start p v rs k r i) x h.0 h.1).carries;
        }

    -- there are no other rows: "Later entries stay as they were"
    pub no_other_rule : drop (rule_width * length rs) (rules_after (edition_of edition) s rules elements) ≡ drop (rule_width * length rs) rules
    no_other_rule = let l = rule_rows_long p base rs in rw (now.0, ← l) (drop-append_seam (rule_rows p 0 base rs) _)

    pub no_other_element : drop (element_width * total elements_in rs) (elements_after (edition_of edition) s rules elements) ≡ drop (element_width * total elements_in rs) elements
    no_other_element = let l = all_rows_long p base rs in rw (now.1, ← l) (drop-append_seam (all_element_rows p 0 base rs) _)

-- Laws of ../Places.antt: where the fields of a written rule stand, one behind the other.
use Rattle.std.specs.Prelude.{ℕ, ◌+◌, ◌-◌, ◌^◌, ◌<◌, ◌≡◌, Bool, eqb, Ok}
use native.Mathlib.Omega.{arith}
use Rattle.std.proofs.Math.Path.{refl}
use Rattle.std.proofs.Common.{ap, ◌∙◌, lit<, eq-eqb, ne_eqb}
use mathlib.Core.List.{List, ◌++◌, append_assoc}
use Rattle.std.proofs.Math.ListN.{length, drop, length-append}
use Rattle.std.proofs.Math.Bool.{true, false}
use Rattle.format.specs.Format.{pick}
use Rattle.format.specs.ReadWrite.{pair_write, spelt, bit, each_write}
use Rattle.format.specs.Laws.ReadWrite.{length_spelt, length_before}
use Rattle.format.specs.Combinators.{pair, judged, via, seq, ◌then◌, number, count, fixed, flag, each, counted, sized, measured}
use Rattle.format.specs.Laws.Answers.{Read}
use Rattle.format.specs.Laws.Seen.{seen, itself}
use Rattle.format.specs.Laws.Back.{back_got}
use Rattle.format.specs.Laws.Written.{behind as past, Stands, Held, Row}
use Rattle.kind.specs.declared.Product.{Product}
use Rattle.text.specs.Text.{string}
use Rattle.kind.specs.Kinds.{kinds, row_in, row_of}
use Rattle.element.specs.Element.{Element, is_row, data_by, identifier, element}
use Rattle.rule.specs.Rule.{Rule, rule, fields, from_unknown2, from_unknown4, body, head, separator, placed}
use Rattle.rule.specs.Places.{rule_bytes, elements_bytes, elements_at, data_at, enabled_at}
use Rattle.rule.specs.Laws.Parts.{body_size, rule_long}

-- ---- of a rule that is known to stand at a place

-- what stands behind a number of k bytes
behind : (s : List ℕ) (at k to v : ℕ) (w u : List ℕ) → drop at s ≡ (spelt k v ++ w) ++ u → at + k ≡ to → drop to s ≡ w ++ u
behind s at k to v w u e h = rw (← h) (rw length_spelt at (past s at (spelt k v) (w ++ u) (e ∙ append_assoc (spelt k v) w u)))

-- a number of four bytes that stands before w
four : (s : List ℕ) (at v : ℕ) (w u : List ℕ) → v < 256 ^ 4 → drop at s ≡ (spelt 4 v ++ w) ++ u → Held (number 4) s at v
unfolding number
four s at v w u f e = (w ++ u, record { fit = f; is = e ∙ append_assoc (spelt 4 v) w u })

-- the number of a rule's elements, its head, its elements
pub record BodyParts (p : Product) (i : ℕ) (s : List ℕ) (at : ℕ) (xs : List Element) (u : List ℕ) : Type 0 where
  pub many : Held (number 2) s at (length xs)
  pub headed : Held (head i) s (at + 2) tt
  pub elements : Row (placed p) s 0 (at + 2 + length ((head i).write tt)) xs u
  pub ends : at + 2 + length ((head i).write tt) + elements_bytes p xs ≡ at + length ((body p i).write xs)

module _ (p : Product) (i : ℕ) (s : List ℕ) (at : ℕ) (xs : List Element) (u : List ℕ) where
  pub body_parts : Stands (body p i) s at xs u → BodyParts p i s at xs u
  unfolding body counted count ◌then◌ seq via judged pair pair_write each number
  body_parts b =
      let h = (head i).write tt in
      let es = each_write (placed p) 0 xs in
      let eh : drop (at + 2) s ≡ (h ++ es) ++ u = behind s at 2 (at + 2) (length xs) (h ++ es) u b.is refl in
      let eh2 : drop (at + 2) s ≡ h ++ (es ++ u) = eh ∙ append_assoc h es u in
      let l : length ((body p i).write xs) ≡ 2 + (length h + length es) = omega (arith, length_before 2 (length xs) (h ++ es), length-append h es) in
      record {
        many = (_, record { fit = b.fit.0.0.0; is = b.is ∙ append_assoc (spelt 2 (length xs)) (h ++ es) u });
        headed = (_, record { fit = b.fit.0.1.0.0; is = eh2 });
        elements = record { fit = b.fit.0.1.0.1.1; is = past s (at + 2) h (es ++ u) eh2 };
        ends = omega (arith, l);
      }

-- the count as it was read, and the head behind it
pub behind_count : (p : Product) (i : ℕ) (s : List ℕ) (at : ℕ) {xs : List Element} {u : List ℕ} {c : Read} {n m : ℕ} → BodyParts p i s at xs u → c ≡ seen itself (number 2) s at → c ≡ Ok (m, n)
    → (n ≡ length xs) × ((m ≡ at + 2) × Held (head i) s m tt)
unfolding number
behind_count p i s at {xs = xs} {m = m} b e h =
    let z = back_got itself (number 2) s at b.many.1 e h in
    let w : m ≡ at + 2 = z.1 ∙ ap (λ (w : ℕ). at + w) (length_spelt 2 (length xs)) in
    (z.0, (w, rw w b.headed))

-- an element whose data start at a place: its identifier, and the data of a kind that the product has
pub record ElementParts (p : Product) (s : List ℕ) (at : ℕ) (x : Element) (u : List ℕ) : Type 0 where
  pub identified : Held (number 4) s (at - 4) x.0
  pub offers : is_row (row_of p x.0) ≡ true
  pub carries : Stands (data_by (row_in kinds x.0)) s at x.1 u

element_parts : (p : Product) (s : List ℕ) (at : ℕ) (x : Element) (u : List ℕ) → Stands (element p) s at x u → ElementParts p s (at + 4) x u
unfolding element identifier judged pair pair_write number
element_parts p s at x u b =
    let w = (data_by (row_in kinds x.0)).write x.1 in
    let z : at + 4 - 4 ≡ at = omega arith in
    record { identified = rw z (four s at x.0 w u b.fit.0.0.0 b.is); offers = b.fit.0.1; carries = record { fit = b.fit.1; is = behind s at 4 (at + 4) x.0 w u b.is refl } }

module _ (p : Product) (j : ℕ) (s : List ℕ) (at : ℕ) (x : Element) (u : List ℕ) where
  pub placed_parts : Stands (placed p j) s at x u → ElementParts p s (data_at j at) x u
  unfolding placed pick fixed ◌then◌ seq via judged pair pair_write number
  placed_parts b = go (eqb j 0) b
    where
      go : (t : Bool) → Stands (pick t (element p) (separator then element p)) s at x u → ElementParts p s (at + pick t 4 6) x u
      go true c = element_parts p s at x u c
      go false c =
          let z : at + 2 + 4 ≡ at + 6 = omega arith in
          rw z at (element_parts p s (at + 2) x u (record { fit = c.fit.0.1; is = behind s at 2 (at + 2) 0x8001 ((element p).write x) u c.is refl }))

module _ (j at : ℕ) where
  pub data_first : j ≡ 0 → at + 4 ≡ data_at j at
  unfolding pick
  data_first e = rw (eq-eqb j 0 e)

  pub data_later : (j ≡ 0 → ⊥) → at + 6 ≡ data_at j at
  unfolding pick
  data_later e = rw (ne_eqb j 0 e)

-- its fields; the name ends at a place from which on the others are counted
pub record RuleParts (p : Product) (i : ℕ) (s : List ℕ) (at : ℕ) (x : Rule) (u : List ℕ) (end : ℕ) : Type 0 where
  pub signed : Held (number 4) s at x.signature
  pub named : Held string s (at + 4) x.name
  pub switched : Held (number 4) s end (bit x.on)
  pub two : Held (number 4) s (end + 4) x.unknown2
  pub three : Held (number 4) s (end + 8) x.unknown3
  pub four : Held (number 4) s (end + 12) x.unknown4
  pub five : Held (number 4) s (end + 16) x.unknown5
  pub sizes : Held (number 4) s (end + 20) (length ((body p i).write x.elements))
  pub bodied : Stands (body p i) s (end + 24) x.elements u
  pub ends : end + 24 + length ((body p i).write x.elements) ≡ at + rule_bytes p i x
  pub begins : end + 24 + 2 + length ((head i).write tt) ≡ elements_at p i at x

bit_small : (b : Bool) → bit b < 256 ^ 4
unfolding bit pick
bit_small true = lit< tt
bit_small false = lit< tt

module _ (p : Product) (i : ℕ) (s : List ℕ) (at : ℕ) (x : Rule) (u : List ℕ) where
  pub rule_parts : Stands (rule p i) s at x u → RuleParts p i s at x u (enabled_at at x)
  unfolding rule fields from_unknown2 from_unknown4 sized measured flag via seq pair pair_write judged number
  rule_parts b =
      let n = string.write x.name in
      let w8 = (body p i).write x.elements in
      let w7 = spelt 4 (length w8) ++ w8 in
      let w6 = spelt 4 x.unknown5 ++ w7 in
      let w5 = spelt 4 x.unknown4 ++ w6 in
      let w4 = spelt 4 x.unknown3 ++ w5 in
      let w3 = spelt 4 x.unknown2 ++ w4 in
      let w2 = spelt 4 (bit x.on) ++ w3 in
      let q = at + 4 + length n in
      let f = b.fit.0 in
      let g = f.1.1.1 in
      let e1 : drop (at + 4) s ≡ n ++ (w2 ++ u) = behind s at 4 (at + 4) x.signature (n ++ w2) u b.is refl ∙ append_assoc n w2 u in
      let e2 = past s (at + 4) n (w2 ++ u) e1 in
      let e3 = behind s q 4 (q + 4) (bit x.on) w3 u e2 refl in
      let e4 = behind s (q + 4) 4 (q + 8) x.unknown2 w4 u e3 (omega arith) in
      let e5 = behind s (q + 8) 4 (q + 12) x.unknown3 w5 u e4 (omega arith) in
      let e6 = behind s (q + 12) 4 (q + 16) x.unknown4 w6 u e5 (omega arith) in
      let e7 = behind s (q + 16) 4 (q + 20) x.unknown5 w7 u e6 (omega arith) in
      let e8 = behind s (q + 20) 4 (q + 24) (length w8) w8 u e7 (omega arith) in
      let bo : Stands (body p i) s (q + 24) x.elements u = record { fit = g.1.1.1.1.0.0.1.0; is = e8 } in
      let en : q + 24 + length w8 ≡ at + rule_bytes p i x = omega (arith, rule_long p i x, body_size p i x.elements) in
      record {
        signed = four s at x.signature (n ++ w2) u f.0 b.is;
        named = (w2 ++ u, record { fit = f.1.0; is = e1 });
        switched = four s q (bit x.on) w3 u (bit_small x.on) e2;
        two = four s (q + 4) x.unknown2 w4 u g.0 e3;
        three = four s (q + 8) x.unknown3 w5 u g.1.0 e4;
        four = four s (q + 12) x.unknown4 w6 u g.1.1.0 e5;
        five = four s (q + 16) x.unknown5 w7 u g.1.1.1.0 e6;
        sizes = four s (q + 20) (length w8) w8 u g.1.1.1.1.0.0.0 e7;
        bodied = bo;
        ends = en;
        begins = omega (arith, en, (body_parts p i s (q + 24) x.elements u bo).ends);
      }

-- its elements
pub rule_elements : (p : Product) (i : ℕ) (s : List ℕ) (at : ℕ) (x : Rule) (u : List ℕ) → Stands (rule p i) s at x u → Row (placed p) s 0 (elements_at p i at x) x.elements u
rule_elements p i s at x u b =
    let y = rule_parts p i s at x u b in
    let q = enabled_at at x + 24 in
    rw y.begins at (body_parts p i s q x.elements u y.bodied).elements

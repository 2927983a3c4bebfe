-- Laws of ../Element.antt: how the code reads an element.
use Rattle.std.specs.Prelude.{ℕ, ◌<◌, ◌≡◌, List, length, Ok, Err}
use Rattle.std.proofs.Common.{arith, ap, ◌∙◌}
use Rattle.std.proofs.Math.Path.{refl, sym}
use Rattle.format.specs.declared.Fault.{Fault}
use Rattle.format.specs.Laws.Answers.{Read}
use Rattle.kind.specs.Answers.{Row}
use Rattle.format.specs.declared.Refusal.{Refusal}
use Rattle.format.specs.declared.Refusal.TheVariants.{At}
use Rattle.format.specs.Combinators.{judged, number}
use Rattle.format.specs.Laws.Seen.{seen, itself, none, via_is, pair_stop, pair_go, judged_stop, judged_got, judged_no, number_no}
use Rattle.kind.specs.declared.Product.{Product}
use Rattle.kind.specs.declared.Role.{Role}
use Rattle.kind.specs.declared.Kind.{Kind}
use Rattle.kind.specs.Kinds.{kinds, row_in, row_of, offered}
use Rattle.kind.specs.Laws.Kinds.{offered_is, lacking, foreign, ComputingKinds}
use Rattle.text.specs.Laws.Written.{ComputingTexts}
use Rattle.element.specs.Data.{data_of, simple_data, one_zero}
use Rattle.element.specs.Element.{is_row, data_by, identifier, Element, element}

-- what the code tells of an element: its identifier
abbrev pub named : Element → ℕ
named x = x.0

-- ---- as the code reads it

-- by the kind that a match found
pub data_is : (k v : Kind) (s : List ℕ) (at : ℕ) {out : Read} → k ≡ v → out ≡ seen none (data_of v) s at → out ≡ seen none (data_of k) s at
data_is k v s at e o = rw e o

-- a simple element's data are those of the marker without its last word
pub simple_is : (k : Kind) (r : Role) (s : List ℕ) (at : ℕ) {out : Read} → k ≡ Kind.Simple r → out ≡ seen none one_zero s at → out ≡ seen none (data_of k) s at
unfolding simple_data
simple_is k r s at e o = data_is k (Kind.Simple r) s at e (via_is none one_zero _ _ _ s at o)

row_found : (p : Product) (id : ℕ) {r : Row} {k : Kind} → r ≡ row_of p id → r ≡ Ok k → row_in kinds id ≡ Ok k
unfolding row_of
row_found p id f k = offered_is p (row_in kinds id) (sym f ∙ k)

-- a is what the number at a place was read as
module _ (p : Product) (s : List ℕ) (at : ℕ) {a : Read} where
  pub element_cut : {why : Refusal} → a ≡ seen itself (number 4) s at → a ≡ Err why → a ≡ seen named (element p) s at
  unfolding element identifier
  element_cut e h = pair_stop named (identifier p) _ s at itself (judged_stop itself _ Fault.Foreign _ s at (judged_stop itself _ Fault.Unknown _ s at e h) h) h

  -- the number is id, and there is a row for it
  in_table : {id m : ℕ} {k : Kind} → a ≡ seen itself (number 4) s at → a ≡ Ok (m, id) → row_in kinds id ≡ Ok k
      → Ok (m, id) ≡ seen itself (judged (λ i. is_row (row_in kinds i)) Fault.Unknown (number 4)) s at
  in_table e h y = judged_got itself (λ i. is_row (row_in kinds i)) Fault.Unknown (number 4) s at e h (sym (ap is_row y)) refl

  -- r is its row in the product
  module _ {r : Row} {id m : ℕ} where
    -- there is none, or none in the product: the row's fault, which stands at 0 of the identifier
    row_no : {why : Refusal} → a ≡ seen itself (number 4) s at → a ≡ Ok (m, id) → r ≡ row_of p id → r ≡ Err why
        → (c : Fault) × ((why ≡ At c 0) × (Err (At c at) ≡ seen named (element p) s at))
    unfolding element identifier row_of offered
    row_no {why} e h f k = let w = go (row_in kinds id) refl in (w.0, (w.1.0, pair_stop named (identifier p) _ s at itself w.1.1 refl))
      where
        go : (w : Row) → row_in kinds id ≡ w → (c : Fault) × ((why ≡ At c 0) × (Err (At c at) ≡ seen itself (identifier p) s at))
        go (Err d) y =
            let u = judged_no itself (λ i. is_row (row_in kinds i)) Fault.Unknown (number 4) s at e h (sym (ap is_row y)) in
            (Fault.Unknown, (lacking kinds id (y ∙ sym (ap (offered p) y) ∙ sym f ∙ k), judged_stop itself _ Fault.Foreign _ s at u refl))
        go (Ok j) y =
            let u = judged_no itself (λ i. is_row (row_of p i)) Fault.Foreign _ s at (in_table e h y) refl (sym (ap is_row (sym f ∙ k))) in
            (Fault.Foreign, (foreign p j (sym (ap (offered p) y) ∙ sym f ∙ k), u))

    pub element_no : {c : Fault} {q : ℕ} → a ≡ seen itself (number 4) s at → a ≡ Ok (m, id) → r ≡ row_of p id → r ≡ Err (At c q) → Err (At c at) ≡ seen named (element p) s at
    element_no {c} {q} e h f k =
        let w = row_no e h f k in
        let t : At c q ≡ At w.0 0 = w.1.0 in
        let u : c ≡ w.0 = cc in
        rw u w.1.1

    -- where it was read at 0, that is the row's refusal
    pub element_off : {why : Refusal} → a ≡ seen itself (number 4) s at → a ≡ Ok (m, id) → at ≡ 0 → r ≡ row_of p id → r ≡ Err why → ◌≡◌ {A = Read} (Err why) (seen named (element p) s at)
    element_off e h z f k = let w = row_no e h f k in rw (w.1.0, ← z) w.1.1

    -- x is what was read of the data of the kind
    pub element_is : {x : Read} {k : Kind} → a ≡ seen itself (number 4) s at → a ≡ Ok (m, id) → r ≡ row_of p id → r ≡ Ok k → x ≡ seen (λ d. id) (data_of k) s m → x ≡ seen named (element p) s at
    unfolding element identifier
    element_is e h f k d =
        let y = row_found p id f k in
        pair_go named (identifier p) (λ i. data_by (row_in kinds i)) s at
        (judged_got itself (λ i. is_row (row_of p i)) Fault.Foreign _ s at (in_table e h y) refl (sym (ap is_row (sym f ∙ k))) refl) refl (rw y d)

-- there is no element past the end
pub element_past : (p : Product) (s : List ℕ) (at : ℕ) → length s < at → Err (At Fault.Cut at) ≡ seen named (element p) s at
element_past p s at h = element_cut p s at (number_no 4 s at (omega arith)) refl

-- ---- where a case is computed
unfoldable pub ComputingElements : Type 0
unfolding ComputingTexts ComputingKinds one_zero simple_data identifier element
ComputingElements = Unit {0}

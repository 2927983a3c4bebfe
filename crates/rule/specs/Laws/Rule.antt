-- Laws of ../Rule.antt: how the code reads a rule, and which rules fit.
use Rattle.std.specs.Prelude.{ℕ, ◌+◌, ◌*◌, ◌^◌, ◌<◌, ◌≤◌, ◌≡◌, refl, Bool, List, [], ◌∷◌, length, eqb, Ok, Err}
use Rattle.std.proofs.Common.{arith, ◌∙◌, lit<, eq-eqb, ne_eqb}
use Rattle.std.proofs.Math.Path.{sym}
use Rattle.std.proofs.Math.Bool.{true, false}
use Rattle.format.specs.declared.Fault.{Fault}
use Rattle.format.specs.Laws.Answers.{Read}
use Rattle.format.specs.declared.Refusal.{Refusal}
use Rattle.format.specs.declared.Refusal.TheVariants.{At}
use Rattle.format.specs.Format.{Bytes, pick}
use Rattle.format.specs.ReadWrite.{value, AllFit}
use Rattle.format.specs.Laws.ReadWrite.{within_is}
use Rattle.format.specs.Combinators.{pair, judged, via, seq, ◌then◌, number, count, fixed, bytes, counted, sized, measured}
use Rattle.format.specs.Laws.Combinators.{then_fit}
use Rattle.format.specs.Laws.Back.{seen_fits}
use Rattle.format.specs.Laws.Seen.{ok_parts, seen, itself, none, unlike, via_is, pair_stop, then_stop, then_go, number_no}
use Rattle.kind.specs.declared.Product.{Product}
use Rattle.element.specs.Element.{Element, element}
use Rattle.element.specs.Laws.Element.{named, ComputingElements}
use Rattle.rule.specs.Rule.{Rule, separator, class_name, class_head, first_head, head, placed, body, from_unknown4, from_unknown2, fields, rule, elements_in}

-- an element that fits, fits at every place of a rule
pub placed_fits : (p : Product) (j : ℕ) (x : Element) → (element p).Fit x → (placed p j).Fit x
unfolding placed pick ◌then◌ seq via pair fixed judged number
placed_fits p j x f = go (eqb j 0)
  where
    go : (b : Bool) → (pick b (element p) (separator then element p)).Fit x
    go true = f
    go false = ((((lit< tt, refl), refl), f), refl)

pub one_placed : (p : Product) (j : ℕ) (x : Element) → (element p).Fit x → AllFit (placed p) j (x ∷ [])
unfolding AllFit
one_placed p j x f = (placed_fits p j x f, tt)

-- and the other way
pub fits_placed : (p : Product) (j : ℕ) (x : Element) → (placed p j).Fit x → (element p).Fit x
unfolding placed pick
fits_placed p j x f = go (eqb j 0) f
  where
    go : (b : Bool) → (pick b (element p) (separator then element p)).Fit x → (element p).Fit x
    go true g = g
    go false g = then_fit separator (element p) x g

-- ---- as the code reads it

-- what stands before the element at place j of its rule: 8001 where it is not the first
unfoldable pub lead_at : ℕ → List ℕ → ℕ → Read
lead_at j s at = pick (eqb j 0) (Ok (at, 0)) (seen none separator s at)

module _ (j : ℕ) (s : List ℕ) (at : ℕ) where
  pub lead_first : j ≡ 0 → Ok (at, 0) ≡ lead_at j s at
  unfolding lead_at pick
  lead_first e = rw (eq-eqb j 0 e)

  pub lead_later : {r : Read} → (j ≡ 0 → ⊥) → r ≡ seen none separator s at → r ≡ lead_at j s at
  unfolding lead_at pick
  lead_later e h = rw (ne_eqb j 0 e) h

module _ (p : Product) (j : ℕ) (s : List ℕ) (at : ℕ) {b : Read} where
  pub lead_stop : {why : Refusal} → b ≡ lead_at j s at → b ≡ Err why → b ≡ seen named (placed p j) s at
  unfolding lead_at placed pick
  lead_stop e h = go (eqb j 0) e
    where
      go : (t : Bool) → b ≡ pick t (Ok (at, 0)) (seen none separator s at) → b ≡ seen named (pick t (element p) (separator then element p)) s at
      go true f = unlike f h
      go false f = then_stop named separator (element p) s at f h

  pub lead_go : {v q : ℕ} {r : Read} → b ≡ lead_at j s at → b ≡ Ok (q, v) → r ≡ seen named (element p) s q → r ≡ seen named (placed p j) s at
  unfolding lead_at placed pick
  lead_go {v} {q} {r} e h o = go (eqb j 0) e
    where
      go : (t : Bool) → b ≡ pick t (Ok (at, 0)) (seen none separator s at) → r ≡ seen named (pick t (element p) (separator then element p)) s at
      go true f = rw (ok_parts (sym h ∙ f)).0 at o
      go false f = then_go named separator (element p) s at f h o

-- the twelve bytes of the class name as two numbers
pub class_is : (s : List ℕ) (at : ℕ) {out : Read} → out ≡ seen none (fixed 12 (0x656C45656C755243 + 2 ^ 64 * 0x746E656D) Fault.Field) s at → out ≡ seen none (bytes class_name Fault.Field) s at
unfolding bytes class_name value
class_is s at e = e

-- there is no rule past the end
pub rule_past : (p : Product) (i : ℕ) (s : List ℕ) (at : ℕ) → length s < at → Err (At Fault.Cut at) ≡ seen elements_in (rule p i) s at
unfolding rule fields seq
rule_past p i s at h = via_is elements_in _ _ _ _ s at (pair_stop _ (number 4) _ s at itself (number_no 4 s at (omega arith)) refl)

-- a rule that fits has 1 to 64 elements, and so has one that was read
pub rule_fits : (p : Product) (i : ℕ) (r : Rule) → (rule p i).Fit r → (1 ≤ elements_in r) × (elements_in r ≤ 64)
unfolding rule fields from_unknown2 from_unknown4 body sized counted count seq via judged pair measured
rule_fits p i r f = within_is 1 64 (elements_in r) f.0.1.1.1.1.1.1.1.0.0.1.0.0.0.1

pub rule_small : (p : Product) (i : ℕ) (s : List ℕ) (at : ℕ) {r : Read} {v m : ℕ} → Bytes s → r ≡ seen elements_in (rule p i) s at → r ≡ Ok (m, v) → v ≤ 64
rule_small p i s at bs e h = let o = seen_fits elements_in (rule p i) s at bs e h in rw o.1.1 (rule_fits p i o.0 o.1.0).1

-- ---- where a case is computed
unfoldable pub ComputingRules : Type 0
unfolding ComputingElements class_name class_head first_head head placed body from_unknown4 from_unknown2 fields rule
ComputingRules = Unit {0}

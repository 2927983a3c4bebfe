-- Which rules fit, wherever they stand; and that a list of such rules makes a sound deck.
use Prim.Native.Nat.{ℕ, zero, suc, ◌+◌, ◌≤◌, ◌<◌, ◌^◌}
use Rattle.std.proofs.Common.{arith, ap, lit<, length-append, eq-eqb}
use Rattle.std.specs.Prelude.{◌≡◌, refl, Bool, true, false, eqb, length, take, drop}
use mathlib.Core.List.{List, [], ◌∷◌, ◌++◌}
use Rattle.format.specs.declared.Fault.TheVariants as Fault
use Rattle.format.specs.Format.{pick}
use Rattle.format.specs.ReadWrite.{within, value, bit, AllFit}
use Rattle.format.specs.Laws.ReadWrite.{within_is, within_fits}
use Rattle.format.specs.Combinators.{pair, seq, ◌then◌, judged, via, number, count, fixed, bytes, flag, each, counted, sized, measured}
use Rattle.format.specs.Indexed.{indexed}
use Rattle.text.specs.Text.{string}
use Rattle.kind.specs.declared.Product.{Product}
use Rattle.rule.specs.Rule.{Rule, rule, fields, from_unknown2, from_unknown4, body, head, first_head, class_head, class_name, separator, placed}
use Rattle.rule.specs.Laws.Parts.{front, back, size_of, body_size, back_long}
use Rattle.deck.specs.Deck.{Deck, mark, version, rule_list, deck}
use Rattle.deck.specs.Written.{afresh}
use Rattle.deck.specs.Laws.Deck.{deck_rules}
use Rattle.deck.specs.Laws.Written.{rules, rules_cons, written_long}

-- each of a list
unfoldable pub Every : {A : Type 0} → (A → Type 0) → List A → Type 0
Every P [] = Unit {0}
Every P (x ∷ xs) = P x × Every P xs

module _ {A : Type 0} (P : A → Type 0) where
  pub every_append : (xs ys : List A) → Every P xs → Every P ys → Every P (xs ++ ys)
  unfolding Every
  every_append [] ys f g = g
  every_append (x ∷ xs) ys f g = (f.0, every_append xs ys f.1 g)

  pub every_take : (k : ℕ) (xs : List A) → Every P xs → Every P (take k xs)
  unfolding Every
  every_take zero xs f = tt
  every_take (suc k) [] f = tt
  every_take (suc k) (x ∷ xs) f = (f.0, every_take k xs f.1)

  pub every_drop : (k : ℕ) (xs : List A) → Every P xs → Every P (drop k xs)
  unfolding Every
  every_drop zero xs f = f
  every_drop (suc k) [] f = tt
  every_drop (suc k) (x ∷ xs) f = every_drop k xs f.1

-- ---- a rule
pub record Fits (p : Product) (r : Rule) : Type 0 where
  pub signature : r.signature < 256 ^ 4
  pub name : string.Fit r.name
  pub unknown2 : r.unknown2 < 256 ^ 4
  pub unknown3 : r.unknown3 < 256 ^ 4
  pub unknown4 : r.unknown4 < 256 ^ 4
  pub unknown5 : r.unknown5 < 256 ^ 4
  pub some : 1 ≤ length r.elements
  pub few : length r.elements ≤ 64
  pub elements : AllFit (placed p) 0 r.elements

pub fits_anywhere : (p : Product) (i : ℕ) (r : Rule) → (rule p i).Fit r → Fits p r
unfolding rule fields from_unknown2 from_unknown4 body sized counted count seq via judged pair measured ◌then◌ each number
fits_anywhere p i r f =
    let c = f.0.1.1.1.1.1.1.1.0.0.1.0.0 in
    let w = within_is 1 64 (length r.elements) c.0.1 in
    record {
      signature = f.0.0;
      name = f.0.1.0;
      unknown2 = f.0.1.1.1.0;
      unknown3 = f.0.1.1.1.1.0;
      unknown4 = f.0.1.1.1.1.1.0;
      unknown5 = f.0.1.1.1.1.1.1.0;
      some = w.0;
      few = w.1;
      elements = c.1.0.1.1;
    }

flag_fits : (b : Bool) → flag.Fit b
unfolding flag via judged number bit pick
flag_fits true = ((lit< tt, refl), refl)
flag_fits false = ((lit< tt, refl), refl)

head_fits : (i : ℕ) → (head i).Fit tt
unfolding head pick first_head class_head class_name ◌then◌ seq via pair fixed bytes value judged number
head_fits i = go (eqb i 0)
  where
    go : (b : Bool) → (pick b first_head separator).Fit tt
    go true = ((((lit< tt, refl), refl), ((((lit< tt, refl), refl), ((((lit< tt, refl), refl), ((lit< tt, refl), refl)), refl)), refl)), refl)
    go false = ((lit< tt, refl), refl)

pub fits_there : (p : Product) (i : ℕ) (r : Rule) → Fits p r → size_of i r.elements < 256 ^ 4 → (rule p i).Fit r
unfolding rule fields from_unknown2 from_unknown4 body sized counted count seq via judged pair measured ◌then◌ each number
fits_there p i r f l =
    let n = length r.elements in
    let s : length ((body p i).write r.elements) < 256 ^ 4 = rw (body_size p i r.elements) l in
    let c : (n < 256 ^ 2) × (within 1 64 n ≡ true) = (omega (arith, f.few), within_fits 1 64 n f.some f.few) in
    let b : (body p i).Fit r.elements = ((c, ((head_fits i, (refl, f.elements)), refl)), refl) in
    let z : (sized Fault.Size (body p i)).Fit r.elements = (((s, (b, refl)), eq-eqb (length ((body p i).write r.elements)) (length ((body p i).write r.elements)) refl), refl) in
    ((f.signature, (f.name, (flag_fits r.on, (f.unknown2, (f.unknown3, (f.unknown4, (f.unknown5, z))))))), refl)

-- ---- a deck

-- wherever they stand, the rules of a deck that is not too long have a Data Size of four bytes
pub all_fit : (p : Product) (i : ℕ) (rs : List Rule) → Every (Fits p) rs → length (rules i rs) < 256 ^ 4 → AllFit (rule p) i rs
unfolding Every AllFit
all_fit p i [] f l = tt
all_fit p i (r ∷ rs) f l =
    let B = back i r.elements in
    let a = length-append (front r) (B ++ rules (i + 1) rs) in
    let b = length-append B (rules (i + 1) rs) in
    let e = ap length (rules_cons i r rs) in
    (fits_there p i r f.0 (omega (arith, l, e, a, b, back_long i r.elements)), all_fit p (i + 1) rs f.1 (omega (arith, l, e, a, b)))

pub fits_all : (p : Product) (i : ℕ) (rs : List Rule) → AllFit (rule p) i rs → Every (Fits p) rs
unfolding Every AllFit
fits_all p i [] f = tt
fits_all p i (r ∷ rs) f = (fits_anywhere p i r f.0, fits_all p (i + 1) rs f.1)

pub deck_fits : (p : Product) (k : Deck) → version.Fit k.version → Every (Fits p) k.rules → length k.rules ≤ 256 → length (afresh k) ≤ 60000 → (deck p).Fit k
unfolding deck rule_list counted count indexed via pair judged number
deck_fits p k w f h l =
    let n : length (rules 0 k.rules) < 256 ^ 4 = omega (arith, l, written_long k.version k.rules) in
    ((w, (((omega arith, within_fits 0 256 (length k.rules) (omega arith) h), (refl, all_fit p 0 k.rules f n)), refl)), refl)

pub fits_deck : (p : Product) (k : Deck) → (deck p).Fit k → Every (Fits p) k.rules
fits_deck p k f = fits_all p 0 k.rules (deck_rules p k f)

pub fits_version : (p : Product) (k : Deck) → (deck p).Fit k → version.Fit k.version
unfolding deck via pair
fits_version p k f = f.0.0

-- the versions that there are
pub version_fits : (v : ℕ) → 1 ≤ v → v ≤ 2 → version.Fit v
unfolding version ◌then◌ seq via pair fixed bytes mark value judged number
version_fits v l h = ((((lit< tt, refl), refl), (omega arith, within_fits 1 2 v l h)), refl)

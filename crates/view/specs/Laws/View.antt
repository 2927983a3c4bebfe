-- Laws of ../View.antt: the units of a String that was read, and which part a view is.
use Rattle.std.specs.Prelude.{ℕ, ◌+◌, ◌-◌, ◌*◌, ◌≤◌, ◌<◌, ◌≡◌, refl, Bool, true, false, List, [], leb, length, take, drop, Ok, Err, IfErr}
use Rattle.std.proofs.Common.{zero-add, arith, sym, ap, ◌∙◌}
use Rattle.std.specs.Result.{IsErr}
use borrow.Author.Tests.{leb-true, le-leb, lt-leb}
use Rattle.format.specs.declared.Fault.{Fault}
use Rattle.format.specs.Answers.{Outcome}
use Rattle.format.specs.Laws.Fault.{Own}
use Rattle.text.specs.Laws.Answers.{StringRead}
use Rattle.view.specs.Answers.{View}
use Rattle.format.specs.declared.Refusal.{Refusal}
use Rattle.format.specs.declared.Refusal.TheVariants.{At}
use Rattle.format.specs.Format.{pick}
use Rattle.text.specs.declared.Form.{Form}
use Rattle.text.specs.Text.{Text, string, units_from}
use Rattle.text.specs.Laws.Written.{string_long}
use Rattle.view.specs.View.{text_view, shown, shown_from, PartOf, view_says}

-- ---- as the code finds it

-- a view within the slice
abbrev pub Inside : View → ℕ → Type 0
Inside (Ok (a, n, form)) len = a + n ≤ len
Inside (Err why) len = Unit {0}

-- the units of a String that was read, n of them that end at e, where they lie within a slice
unfoldable pub units_of : ℕ → StringRead → View
units_of len (Ok (e, form, n)) = pick (leb e len) (pick (leb (2 * n) e) (Ok (e - 2 * n, 2 * n, form)) (Err (At Fault.Cut 0))) (Err (At Fault.Cut 0))
units_of len (Err why) = Err why

module _ (len : ℕ) {t : StringRead} where
  module _ {form : Form} {n e : ℕ} (h : t ≡ Ok (e, form, n)) where
    pub units_past : len < e → Err (At Fault.Cut 0) ≡ units_of len t
    unfolding units_of pick
    units_past l = rw (h, lt-leb e len l)

    pub units_odd : e ≤ len → e < 2 * n → Err (At Fault.Cut 0) ≡ units_of len t
    unfolding units_of pick
    units_odd k l = rw (h, le-leb e len k, lt-leb (2 * n) e l)

    pub units_are : e ≤ len → 2 * n ≤ e → Ok (e - 2 * n, 2 * n, form) ≡ units_of len t
    unfolding units_of pick
    units_are k l = rw (h, le-leb e len k, le-leb (2 * n) e l)

  -- the units of a String that starts at q
  pub units_of_lem : {v : View} (q : ℕ) (x : Text) → v ≡ units_of len t → t ≡ Ok (q + length (string.write x), x.form, length x.units) → q + length (string.write x) ≤ len
      → v ≡ text_view q x
  units_of_lem q x w e l =
      let m = string_long x in
      let z : q + length (string.write x) - 2 * length x.units ≡ units_from q x = omega arith in
      w ∙ sym (units_are e l (omega arith)) ∙ ap (λ (a : ℕ). Ok (a, 2 * length x.units, x.form)) z

pub units_inside : (len : ℕ) (t : StringRead) {v : View} → v ≡ units_of len t → Inside v len
unfolding units_of pick
units_inside len (Ok (e, form, n)) w = rw w (go (leb e len) refl (leb (2 * n) e) refl)
  where
    go : (x : Bool) → leb e len ≡ x → (y : Bool) → leb (2 * n) e ≡ y → Inside (pick x (pick y (Ok (e - 2 * n, 2 * n, form)) (Err (At Fault.Cut 0))) (Err (At Fault.Cut 0))) len
    go true f true g = let h = leb-true e len f in let i = leb-true (2 * n) e g in omega arith
    go true f false g = tt
    go false f y g = tt
units_inside len (Err why) w = rw w tt

-- its refusal is its own where the String's is
pub units_own : (len : ℕ) (t : StringRead) {v : View} → v ≡ units_of len t → IfErr t Own → IfErr v Own
unfolding units_of pick
units_own len (Ok (e, form, n)) w o = rw w (go (leb e len) (leb (2 * n) e))
  where
    go : (x y : Bool) → IfErr {T = ℕ × ℕ × Form} (pick x (pick y (Ok (e - 2 * n, 2 * n, form)) (Err (At Fault.Cut 0))) (Err (At Fault.Cut 0))) Own
    go true true = tt
    go true false = tt
    go false y = tt
units_own len (Err why) w o = rw w o

-- a view that lies within a slice; else it is refused
unfoldable pub within : ℕ → View → View
within len (Ok (a, n, form)) = pick (leb (a + n) len) (Ok (a, n, form)) (Err (At Fault.Cut 0))
within len (Err why) = Err why

pub within_is : (len : ℕ) (v : View) → Inside v len → within len v ≡ v
unfolding within pick
within_is len (Ok (a, n, form)) i = rw (le-leb (a + n) len i)
within_is len (Err why) i = refl

-- as the code judges it
module _ (len : ℕ) {v : View} where
  pub within_none : {why : Refusal} → v ≡ Err why → within len v ≡ Err why
  unfolding within
  within_none h = rw h

  module _ {a n : ℕ} {form : Form} (h : v ≡ Ok (a, n, form)) where
    pub within_past : len < a + n → within len v ≡ Err (At Fault.Cut 0)
    unfolding within pick
    within_past l = rw (h, lt-leb (a + n) len l)

    pub within_at : a + n ≤ len → within len v ≡ Ok (a, n, form)
    unfolding within pick
    within_at l = rw (h, le-leb (a + n) len l)

-- a refused view is within any slice
pub no_inside : (len : ℕ) (v : View) → IsErr v → Inside v len
no_inside len (Ok x) e = absurd (let z : ◌≡◌ {A = ℕ} 0 1 = cc in omega arith)
no_inside len (Err why) e = tt

-- what a view that was found tells
pub inside_at : {v : View} {a n : ℕ} {form : Form} (len : ℕ) → Inside v len → v ≡ Ok (a, n, form) → a + n ≤ len
inside_at len i e = rw e at i

pub shown_at : {v : View} {a n : ℕ} {form : Form} (s : List ℕ) → v ≡ Ok (a, n, form) → take (a + n - a) (drop a s) ≡ shown v s
shown_at {a = a} {n = n} s h = let z : a + n - a ≡ n = omega arith in rw z (ap (λ (x : View). shown x s) (sym h))

pub shown_no : {v : View} {why : Refusal} (s : List ℕ) → v ≡ Err why → [] ≡ shown v s
shown_no s h = ap (λ (x : View). shown x s) (sym h)

pub from_at : {v : View} {a n : ℕ} {form : Form} (b o : ℕ) → v ≡ Ok (a, n, form) → ◌≡◌ {A = ℕ × ℕ} (b, a + o) (b, shown_from v + o)
from_at b o h = ap (λ (x : View). (b, shown_from x + o)) (sym h)

pub from_no : {v : View} {why : Refusal} (b o : ℕ) → v ≡ Err why → ◌≡◌ {A = ℕ × ℕ} (b, o) (b, shown_from v + o)
from_no b o h = rw (h, zero-add)

pub part_none : {v : View} {why : Refusal} (xs : List ℕ) (at : ℕ × ℕ) {ys : List ℕ} {from : ℕ × ℕ} → v ≡ Err why → ys ≡ [] → from ≡ at → PartOf v xs at ys from
part_none xs at h e f = (e ∙ shown_no xs h, f ∙ from_no at.0 at.1 h)

-- and what is asked of it
pub part_as : {v w : View} (xs : List ℕ) (at : ℕ × ℕ) {ys : List ℕ} {from : ℕ × ℕ} → PartOf v xs at ys from → v ≡ w → PartOf w xs at ys from
part_as xs at h e = rw e at h

pub placed_as : {v w : View} {r : Outcome} → r ≡ view_says v → v ≡ w → r ≡ view_says w
placed_as h e = h ∙ ap view_says e

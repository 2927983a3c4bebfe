-- Laws of ../Given.antt: how the code judges a text and a given element.
use Rattle.std.specs.Prelude.{ℕ, ◌%◌, ◌≡◌, Bool, List, leb, length, Ok, Err}
use Rattle.std.proofs.Math.Nat.{zero-add}
use Rattle.std.proofs.Math.Path.{refl, sym, ap}
use Rattle.std.proofs.Common.{◌∙◌, eq-eqb, ne_eqb}
use Rattle.std.proofs.Math.Bool.{true, false}
use Rattle.std.proofs.Math.Dec.{eqb}
use Rattle.format.specs.declared.Fault.{Fault}
use Rattle.format.specs.Answers.{Outcome}
use Rattle.format.specs.Laws.Answers.{Read}
use Rattle.kind.specs.Answers.{Row}
use Rattle.format.specs.declared.Refusal.{Refusal}
use Rattle.format.specs.declared.Refusal.TheVariants.{At}
use Rattle.format.specs.Format.{Answer, got, refused, mapped, whole, pick}
use Rattle.format.specs.Laws.Seen.{told, seen, none, told_got, told_why}
use Rattle.kind.specs.declared.Product.{Product}
use Rattle.kind.specs.Kinds.{kinds, row_in, offered, row_of}
use Rattle.kind.specs.Laws.Kinds.{lacking, foreign}
use Rattle.kind.specs.declared.Kind.{Kind}
use Rattle.element.specs.Data.{Data, data_of}
use Rattle.given.specs.Given.{is_text, with_data, given_by, given}

-- ---- as the code judges it
pub text_odd : (s : List ℕ) → (length s % 2 ≡ 0 → ⊥) → eqb (length s % 2) 0 ≡ is_text s
unfolding is_text
text_odd s h = rw (ne_eqb (length s % 2) 0 h)

pub text_even : (s : List ℕ) → length s % 2 ≡ 0 → leb (length s) 510 ≡ is_text s
unfolding is_text
text_even s h = rw (eq-eqb (length s % 2) 0 h)

-- the fault of an identifier without a row stands at 0
row_lacking : (p : Product) (id : ℕ) {why : Refusal} → row_of p id ≡ Err why → (c : Fault) × (why ≡ At c 0)
unfolding row_of offered
row_lacking p id {why} e = go (row_in kinds id) refl e
  where
    go : (w : Row) → row_in kinds id ≡ w → offered p w ≡ Err why → (c : Fault) × (why ≡ At c 0)
    go (Ok k) f h = (Fault.Foreign, foreign p k h)
    go (Err d) f h = (Fault.Unknown, lacking kinds id (f ∙ h))

abbrev as_read : Refusal → Read
as_read why = Err why

abbrev as_row : Refusal → Row
as_row why = Err why

-- row is the row of the identifier
module _ (p : Product) (id : ℕ) (s : List ℕ) {row : Row} where
  pub given_none : {why : Refusal} → row ≡ row_of p id → row ≡ Err why → (x : Read) → x ≡ Err why → x ≡ told 0 none (given p id s)
  unfolding given told
  given_none {why = why} e h x f = let w = row_lacking p id (sym e ∙ h) in f ∙ ap as_read w.1 ∙ sym (ap (λ (r : Row). told 0 none (given_by r id s)) (sym e ∙ h ∙ ap as_row w.1))

  pub given_no : {why : Refusal} → row ≡ row_of p id → row ≡ Err why → ◌≡◌ {A = Read} (Err why) (told 0 none (given p id s))
  given_no e h = given_none e h _ refl

  by : {k : Kind} → row ≡ row_of p id → row ≡ Ok k → given p id s ≡ mapped (with_data id) (whole (length s) ((data_of k).read s))
  unfolding given
  by e h = rw (← e, h)

  -- r is what its data were read as
  module _ {k : Kind} {r : Read} where
    pub given_stop : {why : Refusal} → row ≡ row_of p id → row ≡ Ok k → r ≡ seen none (data_of k) s 0 → r ≡ Err why → r ≡ told 0 none (given p id s)
    unfolding seen told mapped whole
    given_stop e h f g = let o = told_why 0 none ((data_of k).read s) f g in rw (by e h, o.is, ← o.ends) g

    read : {v m : ℕ} (t : Bool) → row ≡ row_of p id → row ≡ Ok k → r ≡ seen none (data_of k) s 0 → r ≡ Ok (m, v) → eqb m (length s) ≡ t → told 0 none (given p id s) ≡ pick t (Ok (m, 0)) (Err (At Fault.Over m))
    unfolding seen told mapped whole pick
    read {v} {m} t e h f g w =
        let o = told_got 0 none ((data_of k).read s) f g in
        let z : o.n ≡ m = sym (o.ends ∙ zero-add o.n) in
        ap (told 0 none) (by e h ∙ ap (λ (a : Answer Data). mapped (with_data id) (whole (length s) a)) o.is) ∙ go t o.x o.n z (ap (λ (u : ℕ). eqb u (length s)) z ∙ w)
      where
        go : (t : Bool) (x : Data) (n : ℕ) → n ≡ m → eqb n (length s) ≡ t → told 0 none (mapped (with_data id) (pick (eqb n (length s)) (got x n) (refused Fault.Over n))) ≡ pick t (Ok (m, 0)) (Err (At Fault.Over m))
        go true x n z u = rw (u, zero-add, z)
        go false x n z u = rw (u, zero-add, z)

    pub given_over : {v m : ℕ} → row ≡ row_of p id → row ≡ Ok k → r ≡ seen none (data_of k) s 0 → r ≡ Ok (m, v) → (m ≡ length s → ⊥) → Err (At Fault.Over m) ≡ told 0 none (given p id s)
    unfolding pick
    given_over {m = m} e h f g w = sym (read false e h f g (ne_eqb m (length s) w))

    pub given_is : {v m : ℕ} → row ≡ row_of p id → row ≡ Ok k → r ≡ seen none (data_of k) s 0 → r ≡ Ok (m, v) → m ≡ length s → Ok (m, 0) ≡ told 0 none (given p id s)
    unfolding pick
    given_is {m = m} e h f g w = sym (read true e h f g (eq-eqb m (length s) w))

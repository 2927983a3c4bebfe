-- A given element as it is written: its identifier and its data, behind others of its rule after 8001.
use Rattle.std.specs.Prelude.{ℕ, ◌<◌, ◌≡◌, refl, Bool, true, false, List, ◌++◌, length, drop, eqb, Ok, Err}
use Rattle.std.proofs.Common.{arith, sym, ap, ◌∙◌, append-nil, eqb-true, ne_eqb}
use Rattle.std.proofs.Math.Seq.{drop-length}
use Rattle.format.specs.declared.Fault.TheVariants as Fault
use Rattle.format.specs.Format.{Answer, got, refused, Format, Bytes, whole, pick}
use Rattle.format.specs.Laws.Format.{mapped_got, apart}
use Rattle.format.specs.ReadWrite.{pair_write, spelt}
use Rattle.format.specs.Combinators.{pair, judged, via, seq, ◌then◌, number, fixed}
use Rattle.kind.specs.declared.Product.{Product}
use Rattle.kind.specs.Answers.{Row}
use Rattle.format.specs.declared.Refusal.TheVariants.{At, Given}
use Rattle.kind.specs.Kinds.{kinds, row_in, row_of}
use Rattle.kind.specs.Laws.Kinds.{offered_is}
use Rattle.element.specs.Data.{data_of}
use Rattle.element.specs.Element.{Element, element, identifier}
use Rattle.rule.specs.Rule.{placed}
use Rattle.given.specs.Given.{given, given_by, with_data}

-- bytes that were read to the last are those of the value
all_read : {A : Type 0} (a : Format A) (s : List ℕ) (x : A) (l : ℕ) → Bytes s → whole (length s) (a.read s) ≡ got x l → a.write x ≡ s
unfolding whole pick
all_read a s x l bs e = go (a.read s) refl e
  where
    read : (y : _) (m : ℕ) (t : Bool) → a.read s ≡ got y m → eqb m (length s) ≡ t → pick t (got y m) (refused Fault.Over m) ≡ got x l → a.write x ≡ s
    read y m true f w z =
        let n : drop m s ≡ drop (length s) s = ap (λ (k : ℕ). drop k s) (eqb-true m (length s) w) in
        let ex : x ≡ y = cc in
        rw ex (sym ((a.forth s y m bs f).is ∙ rw (n, drop-length s, append-nil)))
    read y m false f w z = apart (sym z)

    go : (q : Answer _) → a.read s ≡ q → whole (length s) q ≡ got x l → a.write x ≡ s
    go (got y m) f z = read y m (eqb m (length s)) f refl z
    go (refused c q) f z = apart (sym z)

-- alike in both editions
pub given_written : (p q : Product) (id : ℕ) (s : List ℕ) (x : Element) (l : ℕ) → Bytes s → given p id s ≡ got x l → (element q).write x ≡ spelt 4 id ++ s
unfolding given row_of element identifier judged pair pair_write number
given_written p q id s x l bs e = go (row_of p id) refl e
  where
    go : (w : Row) → row_of p id ≡ w → given_by w id s ≡ got x l → (element q).write x ≡ spelt 4 id ++ s
    go (Ok k) f z =
        let v = mapped_got (with_data id) (whole (length s) ((data_of k).read s)) x l z in
        let i : row_in kinds id ≡ Ok k = offered_is p (row_in kinds id) f in
        rw (v.1.1, i, all_read (data_of k) s v.0 l bs v.1.0)
    go (Err (At c o)) f z = apart (sym z)
    go (Err (Given c o)) f z = apart (sym z)

-- at the first place of its rule, and at a later one
pub first_written : (p q : Product) (id : ℕ) (s : List ℕ) (x : Element) (l : ℕ) → Bytes s → given p id s ≡ got x l → (placed q 0).write x ≡ spelt 4 id ++ s
unfolding placed pick
first_written p q id s x l bs e = given_written p q id s x l bs e

pub later_written : (p q : Product) (j id : ℕ) (s : List ℕ) (x : Element) (l : ℕ) → 0 < j → Bytes s → given p id s ≡ got x l → (placed q j).write x ≡ spelt 2 0x8001 ++ (spelt 4 id ++ s)
unfolding placed pick fixed ◌then◌ seq via judged pair pair_write number
later_written p q j id s x l h bs e = rw (ne_eqb j 0 (λ z. omega arith), given_written p q id s x l bs e)

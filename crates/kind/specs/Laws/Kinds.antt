-- Laws of ../Kinds.antt: what a row tells, 17 and 35 identifiers, and how the code finds a row.
use Rattle.std.specs.Prelude.{ℕ, ◌≡◌, refl, Bool, true, false, List, [], ◌∷◌, length, Ok, Err, IfErr, Some, None}
use Rattle.std.proofs.Common.{arith, ap}
use Rattle.format.specs.declared.Fault.{Fault}
use Rattle.format.specs.Laws.Fault.{Own}
use Rattle.format.specs.Format.{pick}
use Rattle.kind.specs.declared.Product.{Product}
use Rattle.kind.specs.declared.Product.TheVariants.{Desk, Studio}
use Rattle.kind.specs.Answers.{Edition, Row}
use Rattle.format.specs.declared.Refusal.{Refusal}
use Rattle.format.specs.declared.Refusal.TheVariants.{At}
use Rattle.kind.specs.declared.Kind.{Kind}
use Rattle.kind.specs.Kinds.{edition_of, kinds, has, row_in, in_product, offered, row_of, kind_says, row_by, kind_of, identifiers}

-- ---- "An identifier alone takes an edition and answers its row of the kinds, or 1, 9 or 10 at 0"

pub seventeen : length (identifiers Desk kinds) ≡ 17
unfolding identifiers pick
seventeen = refl

pub thirty_five : length (identifiers Studio kinds) ≡ 35
unfolding identifiers pick
thirty_five = refl

-- ---- what a row tells

-- a row is no fault
pub row_or_fault : {B : Type 0} {r : Row} {k : Kind} {why : Refusal} → r ≡ Ok k → r ≡ Err why → B
row_or_fault e h = absurd (let z : ◌≡◌ {A = ℕ} 0 1 = cc in omega arith)

-- the row of a product is the row of the table
pub offered_is : (p : Product) (r : Row) {k : Kind} → offered p r ≡ Ok k → r ≡ Ok k
unfolding offered pick
offered_is p (Err why) e = e
offered_is p (Ok j) {k} e = go (in_product p j) e
  where
    go : (b : Bool) → pick {A = Row} b (Ok j) (Err (At Fault.Foreign 0)) ≡ Ok k → ◌≡◌ {A = Row} (Ok j) (Ok k)
    go true h = h
    go false h = row_or_fault h refl

-- "Studio has all 35"
pub all_offered : (r : Row) → offered Studio r ≡ r
unfolding offered pick
all_offered (Ok k) = refl
all_offered (Err why) = refl

-- what the table lacks is Unknown, and what a product lacks is Foreign; both stand at 0
pub lacking : (rows : List (Kind × List ℕ)) (id : ℕ) {why : Refusal} → row_in rows id ≡ Err why → why ≡ At Fault.Unknown 0
unfolding row_in pick
lacking [] id e = cc
lacking ((k, ids) ∷ rows) id {why} e = go (has ids id) (lacking rows id) e
  where
    go : (b : Bool) → (row_in rows id ≡ Err why → why ≡ At Fault.Unknown 0) → pick b (Ok k) (row_in rows id) ≡ Err why → why ≡ At Fault.Unknown 0
    go true f h = row_or_fault refl h
    go false f h = f h

-- both are the refusal's own
pub row_own : (p : Product) (id : ℕ) {r : Row} → r ≡ row_of p id → IfErr r Own
unfolding row_of offered pick
row_own p id e = rw e (go (row_in kinds id) refl)
  where
    held : (b : Bool) (k : Kind) → IfErr (pick {A = Row} b (Ok k) (Err (At Fault.Foreign 0))) Own
    held true k = tt
    held false k = tt

    go : (r : Row) → row_in kinds id ≡ r → IfErr (offered p r) Own
    go (Ok k) h = held (in_product p k) k
    go (Err why) h = rw (lacking kinds id h) tt

pub foreign : (p : Product) (j : Kind) {why : Refusal} → offered p (Ok j) ≡ Err why → why ≡ At Fault.Foreign 0
unfolding offered pick
foreign p j {why} e = go (in_product p j) e
  where
    go : (b : Bool) → pick b (Ok j) (Err (At Fault.Foreign 0)) ≡ Err why → why ≡ At Fault.Foreign 0
    go true h = row_or_fault refl h
    go false h = cc

-- ---- as the code finds it

module _ (edition id : ℕ) {e : Edition} where
  pub kind_in : {p : Product} {r : Row} → e ≡ edition_of edition → e ≡ Some p → r ≡ row_of p id → kind_says r ≡ kind_of edition id
  unfolding kind_of row_by
  kind_in f h o = rw (← f, h) (ap kind_says o)

  pub kind_none : e ≡ edition_of edition → e ≡ None → kind_says (Err (At Fault.Edition 0)) ≡ kind_of edition id
  unfolding kind_of row_by
  kind_none f h = rw (← f, h)

-- ---- where a case is computed
unfoldable pub ComputingKinds : Type 0
unfolding edition_of has row_in offered row_of row_by kind_of
ComputingKinds = Unit {0}

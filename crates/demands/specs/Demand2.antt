-- Demand 2: what is read, written again, gives the same bytes; what is written reads back as given; an identifier is judged on all 32 bits
-- and by the product. Of tables and views: Tables.antt, Views.antt. Document 02, W10: "Demands 2 and 3 read the same" for version 2, and a deck
-- converted there and back is the same bytes.
use Rattle.std.specs.Prelude.{ℕ, ◌≤◌, ◌≡◌, refl, Bool, true, false, ◌||◌, List, [], ◌∷◌, ◌++◌, length, take, drop, eqb, Ok, Err}
use Rattle.std.proofs.Common.{arith}
use Rattle.format.specs.declared.Fault.TheVariants as Fault
use Rattle.format.specs.Answers.{Outcome}
use Rattle.format.specs.declared.Refusal.TheVariants.{At}
use Rattle.format.specs.Format.{got, refused, Bytes, pick}
use Rattle.kind.specs.declared.Product.{Product}
use Rattle.kind.specs.declared.Product.TheVariants.{Desk, Studio}
use Rattle.kind.specs.declared.Role.TheVariants.{Condition, Exception}
use Rattle.kind.specs.declared.Kind.{Kind}
use Rattle.kind.specs.declared.Kind.TheVariants.{Simple}
use Rattle.kind.specs.Kinds.{kinds, has, in_product, identifiers, row_in, offered, row_of}
use Rattle.element.specs.Element.{is_row}
use Rattle.deck.specs.Deck.{Deck, version, deck, read_as}
use Rattle.deck.specs.Laws.Deck.{read_writes_back, written_reads_back}
use Rattle.plan.specs.Laws.Fits.{version_fits}
use Rattle.convert.specs.Convert.{read_only, Converts, Converted}
use Rattle.convert.specs.Laws.Back.{only_refuses, only_same, only_takes, only_other_deck, converted, past_kept, there_and_back, up_and_down, down_and_up}

-- both ways, in both editions and of either version, which a deck's value has
pub written_then_read : (p : Product) (k : Deck) → (deck p).Fit k → length ((deck p).write k) ≤ 60000 → read_as p ((deck p).write k) ≡ got k (length ((deck p).write k))
written_then_read = written_reads_back

pub read_then_written : (p : Product) (s : List ℕ) (k : Deck) (n : ℕ) → Bytes s → read_as p s ≡ got k n → s ≡ (deck p).write k
read_then_written p s k n b e = (read_writes_back p s k n b e).is

-- ---- document 02, W10: "Convert 1 to 2 and 2 to 1". s was converted from version v to u, into the first m bytes of the buffer d, which became d'
module _ (edition v u : ℕ) (s d : List ℕ) {m : ℕ} {d' : List ℕ} (bs : Bytes s) (l : 1 ≤ u) (h : u ≤ 2) (c : Converts edition v u s d (Ok m) d') where
  -- s was a deck of version v, and d' has that of the same rules in version u
  pub rules_kept : Converted edition v u s m d'
  rules_kept = converted edition v u s d c bs (version_fits u l h)

  -- bytes past it are as they were
  pub rest_kept : drop m d' ≡ drop m d
  rest_kept = past_kept edition v u s d c

  -- "there and back gives the same bytes, each way": into any buffer e that has room for s
  pub same_bytes : (e : List ℕ) {r : Outcome} {e' : List ℕ} → Converts edition u v (take m d') e r e' → length s ≤ length e → (r ≡ Ok (length s)) × (take (length s) e' ≡ s)
  same_bytes e b o = there_and_back edition v u s d e bs (version_fits u l h) c b o

module _ (edition : ℕ) (s d e : List ℕ) {m : ℕ} {d' e' : List ℕ} {r : Outcome} (bs : Bytes s) where
  pub from_one_and_back : Converts edition 1 2 s d (Ok m) d' → Converts edition 2 1 (take m d') e r e' → length s ≤ length e → (r ≡ Ok (length s)) × (take (length s) e' ≡ s)
  from_one_and_back = up_and_down edition s d e bs

  pub from_two_and_back : Converts edition 2 1 s d (Ok m) d' → Converts edition 1 2 (take m d') e r e' → length s ≤ length e → (r ≡ Ok (length s)) × (take (length s) e' ≡ s)
  from_two_and_back = down_and_up edition s d e bs

-- "A reader of the first release answers 5 to version 2": it takes version 1 alone
module _ (p : Product) (s : List ℕ) where
  -- at 3, where the version stands, whatever follows
  pub first_release_refuses : {n : ℕ} → length s ≤ 60000 → version.read s ≡ got 2 n → read_only p 1 s ≡ refused Fault.Version 3
  first_release_refuses l e = only_refuses p 1 s l e (λ z. omega arith)

  -- to version 1 it answers what the reading of both does
  pub first_release_same : {n : ℕ} → version.read s ≡ got 1 n → read_only p 1 s ≡ read_as p s
  first_release_same e = only_same p 1 s e refl

  -- so it takes the decks of version 1, and of version 2 none
  module _ {k : Deck} {n : ℕ} (e : read_as p s ≡ got k n) where
    pub first_release_takes : k.version ≡ 1 → read_only p 1 s ≡ got k n
    first_release_takes = only_takes p 1 s e

    pub first_release_lacks : k.version ≡ 2 → read_only p 1 s ≡ refused Fault.Version 3
    first_release_lacks h = only_other_deck p 1 s e (λ z. omega arith)

-- ---- the identifier: accepted by a product exactly when it is among that product's identifiers, whatever number it is
has_append : (xs ys : List ℕ) (id : ℕ) → has (xs ++ ys) id ≡ has xs id || has ys id
unfolding has
has_append [] ys id = refl
has_append (x ∷ xs) ys id = rw (has_append xs ys id) (or_assoc (eqb id x) (has xs id) (has ys id))
  where
    or_assoc : (a b c : Bool) → (a || (b || c)) ≡ ((a || b) || c)
    or_assoc true b c = refl
    or_assoc false b c = refl

-- behind a row that the product lacks it has none
unfoldable Ends : Product → List (Kind × List ℕ) → Type 0
Ends p [] = Unit {0}
Ends p ((k, ids) ∷ rows) = (in_product p k ≡ false → identifiers p rows ≡ []) × Ends p rows

judged_in : (p : Product) (rows : List (Kind × List ℕ)) (id : ℕ) → Ends p rows → is_row (offered p (row_in rows id)) ≡ has (identifiers p rows) id
unfolding Ends row_in offered has identifiers pick
judged_in p [] id e = refl
judged_in p ((k, ids) ∷ rows) id e = go (has ids id) (in_product p k) refl refl (judged_in p rows id e.1)
  where
    go : (b t : Bool) → has ids id ≡ b → in_product p k ≡ t → is_row (offered p (row_in rows id)) ≡ has (identifiers p rows) id
        → is_row (offered p (pick b (Ok k) (row_in rows id))) ≡ has (pick t ids [] ++ identifiers p rows) id
    go true true f g i = rw (g, has_append ids (identifiers p rows) id, f)
    go true false f g i = rw (g, e.0 g)
    go false true f g i = rw (has_append ids (identifiers p rows) id, f) i
    go false false f g i = i

never : {B : Type 0} → ◌≡◌ {A = Bool} true false → B
never e = absurd (let z : ◌≡◌ {A = ℕ} 0 1 = cc in omega arith)

ends : (p : Product) → Ends p kinds
unfolding Ends identifiers pick
ends Desk = (never, (never, (never, ((λ e. refl), ((λ e. refl), ((λ e. refl), ((λ e. refl), ((λ e. refl), ((λ e. refl), tt)))))))))
ends Studio = (never, (never, (never, (never, (never, (never, (never, (never, (never, tt)))))))))

pub judged_whole : (p : Product) (id : ℕ) → is_row (row_of p id) ≡ has (identifiers p kinds) id
unfolding row_of
judged_whole p id = judged_in p kinds id (ends p)

-- F5 and 1F5 told apart: a condition in both products, and an exception that Desk does not have
pub feeds_and_letters : (row_of Desk 0xF5 ≡ Ok (Simple Condition)) × ((row_of Studio 0x1F5 ≡ Ok (Simple Exception)) × (row_of Desk 0x1F5 ≡ Err (At Fault.Foreign 0)))
unfolding row_of offered row_in has pick
feeds_and_letters = (refl, (refl, refl))

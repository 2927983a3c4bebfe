-- What a deck and a given element are refused for: 2 to 13, a deck also 29, at places of document 01's table.
use Rattle.std.specs.Prelude.{ℕ, ◌+◌, ◌≤◌, ◌≡◌, refl, Bool, true, false, ◌||◌, List, ◌∷◌, leb, eqb, length, take, drop, Ok, Err}
use Rattle.std.proofs.Common.{arith, le-leb, leb-true, eqb-true}
use Rattle.format.specs.declared.Fault.{Fault}
use Rattle.kind.specs.Answers.{Row}
use Rattle.format.specs.declared.Refusal.TheVariants.{At, Given}
use Rattle.format.specs.Fault.{number_of}
use Rattle.format.specs.Format.{Answer, got, refused, end_of, shift, mapped, and_then, whole, pick, Format, Bytes}
use Rattle.format.specs.ReadWrite.{pair_read, judge, judge_of, number_read, value, within}
use Rattle.format.specs.Laws.ReadWrite.{within_is}
use Rattle.format.specs.Combinators.{pair, judged, via, seq, ◌then◌, number, fixed, bytes}
use Rattle.kind.specs.declared.Product.{Product}
use Rattle.kind.specs.declared.Kind.{Kind}
use Rattle.kind.specs.Kinds.{row_of}
use Rattle.element.specs.Data.{data_of}
use Rattle.rule.specs.Rule.{Rule, rule}
use Rattle.deck.specs.Deck.{Deck, mark, rule_count, version, wide, rule_list, deck, read_as}
use Rattle.deck.specs.Written.{deck_of}
use Rattle.given.specs.Given.{given, given_by, with_data}
use Rattle.bounds.specs.Calls.{most, element_numbers, deck_numbers}
use Rattle.bounds.specs.Laws.Data.{row_refuses, given_end, whole_end}
use Rattle.bounds.specs.Laws.Faults.{For, Gives, for_refused, for_mapped, for_shift, for_whole, gives_counted, gives_indexed, gives_count, gives_data, gives_rule}
use Rattle.bounds.specs.Laws.Refused.{RefusedAs, refused_as, as_refused}
use Rattle.bounds.specs.Listed.{Listed, Numbers, allowed, Lists, numbers}
use Rattle.bounds.specs.Laws.Listed.{allowed_first, allowed_later}

-- 2 to 13, and 29
abbrev of_deck : ℕ → Bool
of_deck n = within 2 13 n || eqb n 29

-- what a deck is refused for: these, at a place of the table where it is not past 60,000
abbrev Told : Fault → ℕ → Type 0
Told c q = (of_deck (number_of c) ≡ true) × (q ≤ 60000 → Listed c q)

-- at whatever place
as_for : {A : Type 0} (P : Fault → ℕ → Type 0) (a : Answer A) → For (λ c. (q : ℕ) → P c q) a → RefusedAs P a
unfolding RefusedAs For
as_for P (got x n) f = tt
as_for P (refused c q) f = f q

-- a constant of k bytes is refused at its start, what stands behind it k bytes further on
as_fixed : {B : Type 0} (P : Fault → ℕ → Type 0) (k v : ℕ) (c : Fault) (b : Format B) (s : List ℕ) → P Fault.Cut 0 → P c 0 → RefusedAs (λ d q. P d (k + q)) (b.read (drop k s)) → RefusedAs P ((fixed k v c then b).read s)
unfolding RefusedAs ◌then◌ seq via pair pair_read and_then mapped shift fixed judged judge_of judge number number_read pick
as_fixed {B} P k v c b s cut wrong f = long (leb k (length s))
  where
    on : (a : Answer B) → RefusedAs (λ d q. P d (k + q)) a → RefusedAs P (mapped (λ (p : Unit {0} × B). p.1) (shift k (mapped (λ y. (tt, y)) a)))
    on (got y n) h = tt
    on (refused d q) h = h

    same : (t : Bool) → RefusedAs P (mapped (λ (p : Unit {0} × B). p.1) (and_then (mapped (λ x. tt) (judge c t (value (take k s)) k)) (λ x n. mapped (λ y. (x, y)) (b.read (drop n s)))))
    same true = on (b.read (drop k s)) f
    same false = wrong

    long : (t : Bool) → RefusedAs P (mapped (λ (p : Unit {0} × B). p.1) (and_then (mapped (λ x. tt) (judge_of (λ y. eqb y v) c (pick t (got (value (take k s)) k) (refused Fault.Cut 0)))) (λ x n. mapped (λ y. (x, y)) (b.read (drop n s)))))
    long true = same (eqb (value (take k s)) v)
    long false = cut

-- a number that is judged is refused at its start
as_judged : (P : Fault → ℕ → Type 0) (k : ℕ) (ok : ℕ → Bool) (c : Fault) (s : List ℕ) → P Fault.Cut 0 → P c 0 → RefusedAs P ((judged ok c (number k)).read s)
unfolding RefusedAs judged judge_of judge number number_read pick
as_judged P k ok c s cut wrong = long (leb k (length s))
  where
    right : (t : Bool) → RefusedAs P (judge c t (value (take k s)) k)
    right true = tt
    right false = wrong

    long : (t : Bool) → RefusedAs P (judge_of ok c (pick t (got (value (take k s)) k) (refused Fault.Cut 0)))
    long true = right (ok (value (take k s)))
    long false = cut

-- 4 at 0 and 5 at 3, and nothing behind the version gives them
version_told : (s : List ℕ) → RefusedAs Told (version.read s)
unfolding version bytes mark value within
version_told s = as_fixed Told 3 _ Fault.Mark _ s (refl, λ h. h) (refl, λ h. refl) (as_judged (λ c q. Told c (3 + q)) 2 _ Fault.Version (drop 3 s) (refl, λ h. h) (refl, λ h. refl))

-- at whatever place
abbrev Always : Fault → Type 0
Always c = (q : ℕ) → Told c q

rules_told : (p : Product) (v : ℕ) → Gives Always (rule_list p v)
unfolding rule_list within
rules_told p v =
    gives_counted Always rule_count _ _ (gives_count Always (λ q. (refl, λ h. h)) (λ q. (refl, λ h. h)) (λ q. (refl, λ h. h)) (λ q. (refl, λ h. h)) (λ q. (refl, λ h. h)) 2 0 256)
    (gives_indexed Always (wide v) 7 Fault.Offset (rule p) (λ q. (refl, λ h. h)) (gives_rule Always (λ q. (refl, λ h. h)) (λ q. (refl, λ h. h)) (λ q. (refl, λ h. h)) (λ q. (refl, λ h. h)) (λ q. (refl, λ h. h)) (λ q. (refl, λ h. h)) (λ q. (refl, λ h. h)) (λ q. (refl, λ h. h)) p) (λ q. (refl, λ h. h)))

deck_told : (p : Product) (s : List ℕ) → RefusedAs Told ((deck p).read s)
unfolding deck seq via pair pair_read and_then mapped Gives RefusedAs
deck_told p s = go (version.read s) (version_told s)
  where
    go : (a : Answer ℕ) → RefusedAs Told a → RefusedAs Told (mapped (λ (w : ℕ × List Rule). deck_of w.0 w.1) (and_then a (λ v k. mapped (λ rs. (v, rs)) ((rule_list p v).read (drop k s)))))
    go (got v k) h = as_for Told _ (for_mapped Always _ _ (for_shift Always k _ (for_mapped Always _ _ (rules_told p v (drop k s)))))
    go (refused c q) h = h

whole_told : {A : Type 0} (n : ℕ) (a : Answer A) → RefusedAs Told a → RefusedAs Told (whole n a)
unfolding RefusedAs whole pick within
whole_told n (got x m) h = go (eqb m n)
  where
    go : (b : Bool) → RefusedAs Told (pick b (got x m) (refused Fault.Over m))
    go true = tt
    go false = (refl, λ h. h)
whole_told n (refused c q) h = h

-- 2 to 13 and 29, at a place of the table
abbrev pub Faulty : Fault → ℕ → Type 0
Faulty c q = (of_deck (number_of c) ≡ true) × ((q ≤ 60000) × Listed c q)

-- they are among the rows that say so, and so are they plus 32
pub deck_allowed : (low add : ℕ) (rows : List Numbers) (n m q : ℕ) → low ≤ 2 + add → m ≡ n + add → of_deck n ≡ true → q ≤ 60000 → allowed (numbers low (13 + add) 60000 ∷ numbers (29 + add) (29 + add) 60000 ∷ rows) m q ≡ true
deck_allowed low add rows n m q l e f h = go (within 2 13 n) refl f
  where
    go : (b : Bool) → within 2 13 n ≡ b → (b || eqb n 29) ≡ true → allowed (numbers low (13 + add) 60000 ∷ numbers (29 + add) (29 + add) 60000 ∷ rows) m q ≡ true
    go true w f = let i = within_is 2 13 n w in allowed_first low (13 + add) 60000 _ m q (omega arith) (omega arith) h
    go false w f = let i = eqb-true n 29 f in allowed_later _ _ m q (allowed_first (29 + add) (29 + add) 60000 rows m q (omega arith) (omega arith) h)

pub deck_faulty : (p : Product) (s : List ℕ) → RefusedAs Faulty (read_as p s)
unfolding read_as RefusedAs end_of pick within
deck_faulty p s = long (leb (length s) 60000) refl
  where
    read : (a : Answer Deck) → RefusedAs Told a → end_of a ≤ 60000 → RefusedAs Faulty a
    read (got k m) f h = tt
    read (refused c q) f h = (f.0, (h, f.1 h))

    long : (b : Bool) → leb (length s) 60000 ≡ b → RefusedAs Faulty (pick b (whole (length s) ((deck p).read s)) (refused Fault.Long 60000))
    long true l =
        let z = leb-true (length s) 60000 l in
        let w = whole_end (length s) ((deck p).read s) in
        let i = (deck p).inside s in
        read (whole (length s) ((deck p).read s)) (whole_told (length s) ((deck p).read s) (deck_told p s)) (omega arith)
    long false l = (refl, (omega arith, refl))

-- a call that begins with a deck gives 1 to 13 and 29, and then its own
module _ (rows : List Numbers) where
  pub edition_listed : Lists (deck_numbers rows) (Err (At Fault.Edition 0))
  edition_listed = (allowed_first 1 13 60000 _ 1 0 (omega arith) (omega arith) (omega arith), refl)

  pub faulty_listed : (c : Fault) (q : ℕ) → Faulty c q → Lists (deck_numbers rows) (Err (At c q))
  faulty_listed c q f = (deck_allowed 1 0 rows (number_of c) (number_of c) q (omega arith) (omega arith) f.0 f.1.0, f.1.1)

abbrev pub ElementListed : Fault → ℕ → Type 0
ElementListed c q = Lists element_numbers (Err (Given c q))

abbrev Near : Fault → Type 0
Near c = (q : ℕ) → q ≤ most → ElementListed c q

data_listed : (k : Kind) → Gives Near (data_of k)
unfolding allowed within
data_listed k = gives_data Near (λ q h. (rw (le-leb q most h), omega arith)) (λ q h. (rw (le-leb q most h), omega arith)) (λ q h. (rw (le-leb q most h), omega arith)) (λ q h. (rw (le-leb q most h), omega arith)) (λ q h. (rw (le-leb q most h), omega arith)) k

pub element_listed_lem : (p : Product) (id : ℕ) (s : List ℕ) → Bytes s → RefusedAs ElementListed (given p id s)
unfolding given Gives RefusedAs allowed within end_of
element_listed_lem p id s b = refused_as ElementListed (given p id s) (λ c q e. go c q e (row_of p id) refl e)
  where
    go : (c : Fault) (q : ℕ) → given p id s ≡ refused c q → (r : Row) → row_of p id ≡ r → given_by r id s ≡ refused c q → ElementListed c q
    go c q e (Ok k) h z =
        let n : Near c = for_refused Near (for_mapped Near (with_data id) (whole (length s) ((data_of k).read s)) (for_whole Near (length s) ((data_of k).read s) (λ q h. (rw (le-leb q most h), omega arith)) (data_listed k s))) z in
        n q (rw e at (given_end p id s b))
    go c q e (Err why) h z = as_refused ElementListed (row_refuses (λ w. RefusedAs ElementListed (given_by (Err w) id s)) (refl, omega arith) (refl, omega arith) p id h) z

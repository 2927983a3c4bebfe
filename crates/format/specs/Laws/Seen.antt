-- What the code says of a format at a place of a slice, and the laws by which its readers go, one after the other: the set `reading`.
use Rattle.std.specs.Prelude.{ℕ, ◌+◌, ◌-◌, ◌*◌, ◌/◌, ◌%◌, ◌^◌, ◌≤◌, ◌<◌, ◌≡◌, Bool, true, false, List, take, drop, leb, eqb, Ok, Err, IfErr}
use Rattle.std.proofs.Common.{add_assoc, add-zero, mod-eq_of_lt, arith, ◌∙◌, drop-drop, length-take-le}
use Rattle.std.proofs.Math.Nat.{add-mul-mod_self_left, mul-div_right}
use Rattle.std.proofs.Math.Path.{refl, sym, ap}
use Rattle.std.proofs.Math.ListN.{length, length-drop}
use borrow.Author.Tests.{leb-true, lt-leb, le-leb, eq-eqb, ne_eqb}
use Rattle.format.specs.declared.Fault.{Fault}
use Rattle.format.specs.declared.Fault.TheVariants.{Cut, Count, Field}
use Rattle.format.specs.Laws.Answers.{Read}
use Rattle.format.specs.Laws.Fault.{Own}
use Rattle.format.specs.declared.Refusal.{Refusal}
use Rattle.format.specs.declared.Refusal.TheVariants.{At}
use Rattle.format.specs.Format.{Answer, got, refused, shift, mapped, and_then, pick, Format, Bytes}
use Rattle.format.specs.Laws.Format.{bytes_drop, bytes_take, apart}
use Rattle.format.specs.ReadWrite.{pair_read, judge_of, judge, home, number_read, within, bit, value}
use Rattle.format.specs.Laws.ReadWrite.{bit_eqb, value_small, value_join}
use Rattle.format.specs.Combinators.{pair, seq, ◌then◌, judged, via, at_start, nothing, number, count, fixed, flag}

-- an answer as the code gives it: what f tells of the value, and the place past it
unfoldable pub told : {A : Type 0} → ℕ → (A → ℕ) → Answer A → Read
told at f (got x n) = Ok (at + n, f x)
told at f (refused c p) = Err (At c (at + p))

-- what reading a at a place finds
unfoldable pub seen : {A : Type 0} → (A → ℕ) → Format A → List ℕ → ℕ → Read
seen f a s at = told at f (a.read (drop at s))

-- a number is told itself; of other values nothing may be told
abbrev pub itself : ℕ → ℕ
itself n = n

abbrev pub none : {A : Type 0} → A → ℕ
none x = 0

-- ---- an answer, from what the code says of it

-- no place was refused
abbrev read_as : ℕ → ℕ → Read
read_as m v = Ok (m, v)

-- the two of a reading, each told apart
abbrev end_in : Read → ℕ
end_in (Ok (m, v)) = m
end_in (Err why) = 0

abbrev value_in : Read → ℕ
value_in (Ok (m, v)) = v
value_in (Err why) = 0

pub ok_parts : {m v n w : ℕ} → ◌≡◌ {A = Read} (Ok (m, v)) (Ok (n, w)) → (m ≡ n) × (v ≡ w)
ok_parts e = (ap end_in e, ap value_in e)

pub unlike : {B : Type 0} {r : Read} {v m : ℕ} {why : Refusal} → r ≡ Ok (m, v) → r ≡ Err why → B
unlike e h = absurd (let z : ◌≡◌ {A = ℕ} 0 1 = cc in omega arith)

-- a reader's refusal is its own
pub seen_own : {A : Type 0} (g : A → ℕ) (f : Format A) (s : List ℕ) (at : ℕ) {r : Read} → r ≡ seen g f s at → IfErr r Own
unfolding seen told
seen_own {A = A} g f s at e = rw e (go (f.read (drop at s)))
  where
    go : (a : Answer A) → IfErr (told at g a) Own
    go (got x n) = tt
    go (refused c p) = tt

-- the same value, ending at the same place
pub got_at : {v a b : ℕ} → a ≡ b → ◌≡◌ {A = Read} (Ok (a, v)) (Ok (b, v))
got_at {v} e = ap (λ (p : ℕ). read_as p v) e

pub record Valued {A : Type 0} (at : ℕ) (f : A → ℕ) (q : Answer A) (v m : ℕ) : Type 0 where
  pub x : A
  pub n : ℕ
  pub is : q ≡ got x n
  pub tells : v ≡ f x
  pub ends : m ≡ at + n

pub told_got : {A : Type 0} (at : ℕ) (f : A → ℕ) (q : Answer A) {r : Read} {v m : ℕ} → r ≡ told at f q → r ≡ Ok (m, v) → Valued at f q v m
unfolding told
told_got at f (got x n) e h = let w = ok_parts (sym h ∙ e) in record { x = x; n = n; is = refl; tells = w.1; ends = w.0 }
told_got at f (refused d o) e h = unlike h e

pub record Stopped {A : Type 0} (at : ℕ) (q : Answer A) (why : Refusal) : Type 0 where
  pub c : Fault
  pub o : ℕ
  pub is : q ≡ refused c o
  pub ends : why ≡ At c (at + o)

pub told_why : {A : Type 0} (at : ℕ) (f : A → ℕ) (q : Answer A) {r : Read} {why : Refusal} → r ≡ told at f q → r ≡ Err why → Stopped at q why
unfolding told
told_why at f (got x n) e h = unlike e h
told_why at f (refused d o) e h = record { c = d; o = o; is = refl; ends = (cc) }

pub record Faulty {A : Type 0} (at : ℕ) (q : Answer A) (c : Fault) (p : ℕ) : Type 0 where
  pub o : ℕ
  pub is : q ≡ refused c o
  pub ends : p ≡ at + o

pub told_no : {A : Type 0} (at : ℕ) (f : A → ℕ) (q : Answer A) {r : Read} {c : Fault} {p : ℕ} → r ≡ told at f q → r ≡ Err (At c p) → Faulty at q c p
unfolding told
told_no at f (got x n) e h = unlike e h
told_no at f (refused d o) e h = record { o = o; is = (cc); ends = (cc) }

pub told_shift : {A : Type 0} (at n : ℕ) (f : A → ℕ) (q : Answer A) → told at f (shift n q) ≡ told (at + n) f q
unfolding told shift
told_shift at n f (got x m) = rw add_assoc
told_shift at n f (refused c p) = rw add_assoc

pub told_mapped : {A B : Type 0} (at : ℕ) (g : B → ℕ) (h : A → B) (q : Answer A) → told at g (mapped h q) ≡ told at (λ x. g (h x)) q
unfolding told mapped
told_mapped at g h (got x m) = refl
told_mapped at g h (refused c p) = refl

-- ---- the same reading, told otherwise

-- nothing is told
abbrev pub told_nothing : Read → Read
told_nothing (Ok (n, v)) = Ok (n, 0)
told_nothing (Err why) = Err why

module _ {A : Type 0} (f : A → ℕ) (a : Format A) (s : List ℕ) (at : ℕ) {r : Read} where
  pub untold_is : {x : Read} → r ≡ seen f a s at → x ≡ told_nothing r → x ≡ seen none a s at
  unfolding seen told
  untold_is e o = o ∙ ap told_nothing e ∙ go (a.read (drop at s))
    where
      go : (q : Answer A) → told_nothing (told at f q) ≡ told at none q
      go (got x n) = refl
      go (refused c p) = refl

  -- one thing is told, whatever the value
  pub told_is : (g : A → ℕ) {out : Read} {v w m : ℕ} → r ≡ seen f a s at → r ≡ Ok (m, v) → out ≡ Ok (m, w) → ((x : A) → w ≡ g x) → out ≡ seen g a s at
  unfolding seen told
  told_is g e h o t = let i = told_got at f (a.read (drop at s)) e h in rw (i.is, ← t i.x, ← i.ends) o

  -- a refusal is the same, whatever is told
  pub refused_is : (g : A → ℕ) {why : Refusal} → r ≡ seen f a s at → r ≡ Err why → r ≡ seen g a s at
  unfolding seen told
  refused_is g e h = let i = told_why at f (a.read (drop at s)) e h in rw (i.is, ← i.ends) h

-- ---- one after the other: r is what the first reader said

module _ {A B : Type 0} (g : B → ℕ) (q : Answer A) (k : A → ℕ → Answer B) (at : ℕ) (f : A → ℕ) where
  pub on_stop : {r : Read} {why : Refusal} → r ≡ told at f q → r ≡ Err why → r ≡ told at g (and_then q k)
  unfolding told and_then
  on_stop e h = let i = told_why at f q e h in rw (i.is, ← i.ends) h

  pub on_go : {r out : Read} {v m : ℕ} → r ≡ told at f q → r ≡ Ok (m, v)
      → ((x : A) (n : ℕ) → v ≡ f x → m ≡ at + n → out ≡ told (at + n) g (k x n)) → out ≡ told at g (and_then q k)
  unfolding and_then
  on_go e h w = let i = told_got at f q e h in rw i.is (w i.x i.n i.tells i.ends ∙ sym (told_shift at i.n g (k i.x i.n)))

module _ {A B : Type 0} (g : A × B → ℕ) (a : Format A) (b : A → Format B) (s : List ℕ) (at : ℕ) where
  second : {out : Read} (x : A) (m n : ℕ) → m ≡ at + n → out ≡ told m (λ y. g (x, y)) ((b x).read (drop m s))
      → out ≡ told (at + n) g (mapped (λ y. (x, y)) ((b x).read (drop n (drop at s))))
  second x m n e o = o ∙ rw (e, drop-drop n at s) (sym (told_mapped (at + n) g (λ y. (x, y)) ((b x).read (drop (at + n) s))))

  pub pair_stop : (f : A → ℕ) {r : Read} {why : Refusal} → r ≡ seen f a s at → r ≡ Err why → r ≡ seen g (pair a b) s at
  unfolding seen pair pair_read
  pair_stop f e h = on_stop _ _ _ at f e h

  -- whatever the first value is
  pub pair_on : (f : A → ℕ) {r out : Read} {v m : ℕ} → r ≡ seen f a s at → r ≡ Ok (m, v)
      → ((x : A) → out ≡ seen (λ y. g (x, y)) (b x) s m) → out ≡ seen g (pair a b) s at
  unfolding seen pair pair_read
  pair_on f {m = m} e h w = on_go g _ _ at f e h (λ x n ev em. second x m n em (w x))

-- the first value is a number, by which the second format goes
module _ {B : Type 0} (g : ℕ × B → ℕ) (a : Format ℕ) (b : ℕ → Format B) (s : List ℕ) (at : ℕ) where
  pub pair_go : {r out : Read} {v m : ℕ} → r ≡ seen itself a s at → r ≡ Ok (m, v)
      → out ≡ seen (λ y. g (v, y)) (b v) s m → out ≡ seen g (pair a b) s at
  unfolding seen pair pair_read
  pair_go {m = m} e h w = on_go g _ _ at itself e h (λ x n ev em. second g a b s at x m n em (rw ev at w))

-- the second format does not go by the first value, and of both nothing is told
module _ {A B : Type 0} (a : Format A) (b : Format B) (s : List ℕ) (at : ℕ) where
  pub seq_stop : (f : A → ℕ) {r : Read} {why : Refusal} → r ≡ seen f a s at → r ≡ Err why → r ≡ seen none (seq a b) s at
  unfolding seq
  seq_stop f e h = pair_stop none a (λ x. b) s at f e h

  pub seq_go : (f : A → ℕ) {r out : Read} {v m : ℕ} → r ≡ seen f a s at → r ≡ Ok (m, v) → out ≡ seen none b s m → out ≡ seen none (seq a b) s at
  unfolding seq
  seq_go f e h o = pair_on none a (λ x. b) s at f e h (λ x. o)

-- in another guise
module _ {A B : Type 0} (g : B → ℕ) (a : Format A) (to : A → B) (from : B → A) (same : (x : A) → a.Fit x → from (to x) ≡ x) (s : List ℕ) (at : ℕ) where
  pub via_is : {r : Read} → r ≡ seen (λ x. g (to x)) a s at → r ≡ seen g (via a to from same) s at
  unfolding seen via
  via_is e = e ∙ sym (told_mapped at g to (a.read (drop at s)))

-- what has no value first
module _ {B : Type 0} (g : B → ℕ) (a : Format (Unit {0})) (b : Format B) (s : List ℕ) (at : ℕ) where
  pub then_stop : {r : Read} {why : Refusal} → r ≡ seen none a s at → r ≡ Err why → r ≡ seen g (a then b) s at
  unfolding ◌then◌ seq
  then_stop e h = via_is g (pair a (λ x. b)) (λ p. p.1) _ _ s at (pair_stop (λ p. g p.1) a (λ x. b) s at none e h)

  pub then_go : {r out : Read} {v m : ℕ} → r ≡ seen none a s at → r ≡ Ok (m, v) → out ≡ seen g b s m → out ≡ seen g (a then b) s at
  unfolding ◌then◌ seq
  then_go e h o = via_is g (pair a (λ x. b)) (λ p. p.1) _ _ s at (pair_on (λ p. g p.1) a (λ x. b) s at none e h (λ x. o))

-- ---- a number that is judged; every fault at the start; a format that a test picks; no bytes

module _ (g : ℕ → ℕ) (ok : ℕ → Bool) (c : Fault) (a : Format ℕ) (s : List ℕ) (at : ℕ) where
  pub judged_stop : {r : Read} {why : Refusal} → r ≡ seen itself a s at → r ≡ Err why → r ≡ seen g (judged ok c a) s at
  unfolding seen judged judge_of told
  judged_stop e h = let i = told_why at itself (a.read (drop at s)) e h in rw (i.is, ← i.ends) h

  pub judged_got : {r out : Read} {v m : ℕ} → r ≡ seen itself a s at → r ≡ Ok (m, v) → true ≡ ok v → out ≡ Ok (m, g v) → out ≡ seen g (judged ok c a) s at
  unfolding seen judged judge_of judge told
  judged_got e h o w = let i = told_got at itself (a.read (drop at s)) e h in rw (i.is, ← i.tells, ← o, ← i.ends) w

  pub judged_no : {r : Read} {v m : ℕ} → r ≡ seen itself a s at → r ≡ Ok (m, v) → false ≡ ok v → Err (At c at) ≡ seen g (judged ok c a) s at
  unfolding seen judged judge_of judge told
  judged_no e h o = let i = told_got at itself (a.read (drop at s)) e h in rw (i.is, ← i.tells, ← o, add-zero)

module _ {A : Type 0} (g : A → ℕ) (a : Format A) (s : List ℕ) (at : ℕ) where
  pub start_got : {r : Read} {v m : ℕ} → r ≡ seen g a s at → r ≡ Ok (m, v) → r ≡ seen g (at_start a) s at
  unfolding seen at_start home told
  start_got e h = let i = told_got at g (a.read (drop at s)) e h in rw (i.is, ← i.tells, ← i.ends) h

  pub start_no : {r : Read} {c : Fault} {p : ℕ} → r ≡ seen g a s at → r ≡ Err (At c p) → Err (At c at) ≡ seen g (at_start a) s at
  unfolding seen at_start home told
  start_no e h = let i = told_no at g (a.read (drop at s)) e h in rw (i.is, add-zero)

module _ {A : Type 0} (g : A → ℕ) (s : List ℕ) (at : ℕ) (t : Bool) (x y : Format A) {out : Read} where
  pub pick_yes : true ≡ t → out ≡ seen g x s at → out ≡ seen g (pick t x y) s at
  unfolding pick
  pick_yes h e = rw (← h) e

  pub pick_no : false ≡ t → out ≡ seen g y s at → out ≡ seen g (pick t x y) s at
  unfolding pick
  pick_no h e = rw (← h) e

pub nothing_is : (g : Unit {0} → ℕ) (s : List ℕ) (at : ℕ) {out : Read} → out ≡ Ok (at, g tt) → out ≡ seen g nothing s at
unfolding seen nothing told
nothing_is g s at e = rw add-zero e

-- what a test says, from what the code's branch says
pub yes_le : {a b : ℕ} → a ≤ b → true ≡ leb a b
yes_le {a} {b} h = sym (le-leb a b h)

pub no_le : {a b : ℕ} → b < a → false ≡ leb a b
no_le {a} {b} h = sym (lt-leb a b h)

pub yes_eq : {a b : ℕ} → a ≡ b → true ≡ eqb a b
yes_eq {a} {b} h = sym (eq-eqb a b h)

pub no_eq : {a b : ℕ} → (a ≡ b → ⊥) → false ≡ eqb a b
no_eq {a} {b} h = sym (ne_eqb a b h)

pub yes_as : {b t : Bool} → b ≡ t → b ≡ true → true ≡ t
yes_as e h = sym h ∙ e

pub no_as : {b t : Bool} → b ≡ t → b ≡ false → false ≡ t
no_as e h = sym h ∙ e

-- ---- numbers and constants

module _ (k : ℕ) (s : List ℕ) (at : ℕ) where
  pub number_is : {w : ℕ} → w ≡ value (take k (drop at s)) → at + k ≤ length s → Ok (at + k, w) ≡ seen itself (number k) s at
  unfolding seen number number_read pick told
  number_is w h = let l : k ≤ length (drop at s) = omega (arith, length-drop at s) in rw (le-leb k (length (drop at s)) l, w)

  pub number_no : length s - at < k → Err (At Cut at) ≡ seen itself (number k) s at
  unfolding seen number number_read pick told
  number_no h = let l : length (drop at s) < k = omega (arith, length-drop at s) in rw (lt-leb k (length (drop at s)) l, add-zero)

-- a count, as the code judges the number that it read
unfoldable pub judged_count : ℕ → ℕ → ℕ → Read → Read
judged_count at low high (Ok (m, n)) = pick (within low high n) (Ok (m, n)) (Err (At Count at))
judged_count at low high (Err why) = Err why

module _ (at low high : ℕ) {r : Read} where
  pub count_stop : {why : Refusal} → r ≡ Err why → r ≡ judged_count at low high r
  unfolding judged_count
  count_stop h = h ∙ sym (ap (judged_count at low high) h)

  pub count_low : {n m : ℕ} → r ≡ Ok (m, n) → n < low → Err (At Count at) ≡ judged_count at low high r
  unfolding judged_count within pick
  count_low {n} h k = sym (ap (judged_count at low high) h ∙ rw (lt-leb low n k))

  pub count_high : {n m : ℕ} → r ≡ Ok (m, n) → low ≤ n → high < n → Err (At Count at) ≡ judged_count at low high r
  unfolding judged_count within pick
  count_high {n} h k l = sym (ap (judged_count at low high) h ∙ rw (le-leb low n k, lt-leb n high l))

  pub count_in : {out : Read} {n m : ℕ} → r ≡ Ok (m, n) → low ≤ n → n ≤ high → out ≡ Ok (m, n) → out ≡ judged_count at low high r
  unfolding judged_count within pick
  count_in {n = n} h k l o = o ∙ sym (ap (judged_count at low high) h ∙ rw (le-leb low n k, le-leb n high l))

pub ruleset counting = (refl, count_stop, count_low, count_high, count_in)

pub count_is : (k low high : ℕ) (s : List ℕ) (at : ℕ) {r x : Read} → r ≡ seen itself (number k) s at → x ≡ judged_count at low high r → x ≡ seen itself (count k low high) s at
unfolding seen count judged judge_of judge judged_count told pick
count_is k low high s at e o = o ∙ ap (judged_count at low high) e ∙ go ((number k).read (drop at s))
  where
    pass : (b : Bool) (n m : ℕ) → pick b (Ok (at + m, n)) (Err (At Count at)) ≡ told at itself (judge Count b n m)
    pass true n m = refl
    pass false n m = rw add-zero

    go : (q : Answer ℕ) → judged_count at low high (told at itself q) ≡ told at itself (judge_of (within low high) Count q)
    go (got n m) = pass (within low high n) n m
    go (refused c p) = refl

-- a constant, as the code judges the number that it read
unfoldable pub judged_fixed : ℕ → ℕ → Fault → Read → Read
judged_fixed at v c (Ok (m, n)) = pick (eqb n v) (Ok (m, 0)) (Err (At c at))
judged_fixed at v c (Err why) = Err why

module _ (at v : ℕ) (c : Fault) {r : Read} where
  pub fixed_stop : {why : Refusal} → r ≡ Err why → r ≡ judged_fixed at v c r
  unfolding judged_fixed
  fixed_stop h = h ∙ sym (ap (judged_fixed at v c) h)

  pub fixed_off : {n m : ℕ} → r ≡ Ok (m, n) → (n ≡ v → ⊥) → Err (At c at) ≡ judged_fixed at v c r
  unfolding judged_fixed pick
  fixed_off {n} h k = sym (ap (judged_fixed at v c) h ∙ rw (ne_eqb n v k))

  pub fixed_got : {n m : ℕ} → r ≡ Ok (m, n) → n ≡ v → Ok (m, 0) ≡ judged_fixed at v c r
  unfolding judged_fixed pick
  fixed_got {n} h k = sym (ap (judged_fixed at v c) h ∙ rw (eq-eqb n v k))

pub ruleset fixing = (refl, fixed_stop, fixed_off, fixed_got)

pub fixed_is : (k v : ℕ) (c : Fault) (s : List ℕ) (at : ℕ) {r x : Read} → r ≡ seen itself (number k) s at → x ≡ judged_fixed at v c r → x ≡ seen none (fixed k v c) s at
unfolding seen fixed via judged judge_of judge judged_fixed mapped told pick
fixed_is k v c s at e o = o ∙ ap (judged_fixed at v c) e ∙ go ((number k).read (drop at s))
  where
    pass : (b : Bool) (n m : ℕ) → pick b (Ok (at + m, 0)) (Err (At c at)) ≡ told at none (mapped {B = Unit {0}} (λ x. tt) (judge c b n m))
    pass true n m = refl
    pass false n m = rw add-zero

    go : (q : Answer ℕ) → judged_fixed at v c (told at itself q) ≡ told at none (mapped {B = Unit {0}} (λ x. tt) (judge_of (λ y. eqb y v) c q))
    go (got n m) = pass (eqb n v) n m
    go (refused d p) = refl

-- one that the code reads in two parts: x of the first j bytes, and y of the k behind them
module _ (j k : ℕ) (first last : ℕ) (c : Fault) (s : List ℕ) (at : ℕ) {x y : ℕ} where
  both : x ≡ value (take j (drop at s)) → y ≡ value (take k (drop (at + j) s)) → at + (j + k) ≤ length s
      → pick (eqb (x + 256 ^ j * y) (first + 256 ^ j * last)) (Ok (at + (j + k), 0)) (Err (At c at)) ≡ seen none (fixed (j + k) (first + 256 ^ j * last) c) s at
  unfolding judged_fixed
  both ex ey h = fixed_is (j + k) (first + 256 ^ j * last) c s at (number_is (j + k) s at (value_join j k s at ex ey (omega arith)) h) refl

  pub parts_got : x ≡ value (take j (drop at s)) → y ≡ value (take k (drop (at + j) s)) → at + (j + k) ≤ length s → x ≡ first → y ≡ last
      → Ok (at + (j + k), 0) ≡ seen none (fixed (j + k) (first + 256 ^ j * last) c) s at
  unfolding pick
  parts_got ex ey h p q = rw (eq-eqb (x + 256 ^ j * y) (first + 256 ^ j * last) (rw (p, q))) at (both ex ey h)

  -- the sums are equal only where the parts are
  same_parts : x + 256 ^ j * y ≡ first + 256 ^ j * last → x < 256 ^ j → first < 256 ^ j → (x ≡ first) × (y ≡ last)
  same_parts e m n =
      let f : x ≡ first = sym (add-mul-mod_self_left x (256 ^ j) y ∙ mod-eq_of_lt m) ∙ ap (λ (w : ℕ). w % 256 ^ j) e ∙ add-mul-mod_self_left first (256 ^ j) last ∙ mod-eq_of_lt n in
      let l : 256 ^ j * y ≡ 256 ^ j * last = omega arith in
      (f, sym (mul-div_right y (omega arith)) ∙ ap (λ (w : ℕ). w / 256 ^ j) l ∙ mul-div_right last (omega arith))

  pub parts_off : x ≡ value (take j (drop at s)) → y ≡ value (take k (drop (at + j) s)) → at + (j + k) ≤ length s → x < 256 ^ j → first < 256 ^ j → (x ≡ first → y ≡ last → ⊥)
      → Err (At c at) ≡ seen none (fixed (j + k) (first + 256 ^ j * last) c) s at
  unfolding pick
  parts_off ex ey h m n differ =
      let same : x + 256 ^ j * y ≡ first + 256 ^ j * last → ⊥ = λ e. let w = same_parts e m n in differ w.0 w.1 in
      rw (ne_eqb (x + 256 ^ j * y) (first + 256 ^ j * last) same) at (both ex ey h)

-- a number that was read is there
took : (k : ℕ) (t : List ℕ) {x n : ℕ} → (number k).read t ≡ got x n → (k ≤ length t) × ((x ≡ value (take k t)) × (n ≡ k))
unfolding number number_read pick
took k t {x} {n} e = go (leb k (length t)) refl e
  where
    go : (b : Bool) → leb k (length t) ≡ b → pick b (got (value (take k t)) k) (refused Cut 0) ≡ got x n → (k ≤ length t) × ((x ≡ value (take k t)) × (n ≡ k))
    go true h e = (leb-true k (length t) h, (cc, cc))
    go false h e = apart (sym e)

small_there : (k : ℕ) (t : List ℕ) → Bytes t → k ≤ length t → value (take k t) < 256 ^ k
small_there k t b h = rw (length-take-le k t h) at (value_small (take k t) (bytes_take k t b))

pub number_got : (k : ℕ) (s : List ℕ) (at : ℕ) {r : Read} {m v : ℕ} → Bytes s → 0 < k → r ≡ seen itself (number k) s at → r ≡ Ok (m, v) → (m ≤ length s) × (v < 256 ^ k)
unfolding seen
number_got k s at b some e h =
    let i = told_got at itself ((number k).read (drop at s)) e h in
    let t = took k (drop at s) i.is in
    (omega (arith, i.ends, t.0, t.1.1, length-drop at s), rw (i.tells, t.1.0) (small_there k (drop at s) (bytes_drop at s b) t.0))

-- two constants, one behind the other, that the code reads at once where they are right
pub at_once : (j k first last : ℕ) (c : Fault) (s : List ℕ) (at : ℕ) {r : Read} {m v : ℕ} → Bytes s → 0 < k → first < 256 ^ j → r ≡ seen itself (number (j + k)) s at → r ≡ Ok (m, v) → v ≡ first + 256 ^ j * last
    → Ok (m, 0) ≡ seen none (fixed j first c then fixed k last c) s at
unfolding seen
at_once j k first last c s at {m = m} b some l e h o =
    let i = told_got at itself ((number (j + k)).read (drop at s)) e h in
    let t = took (j + k) (drop at s) i.is in
    let x = value (take j (drop at s)) in
    let y = value (take k (drop (at + j) s)) in
    let long : at + (j + k) ≤ length s = omega (arith, t.0, length-drop at s) in
    let is : x + 256 ^ j * y ≡ first + 256 ^ j * last = value_join j k s at refl refl (omega arith) ∙ sym (i.tells ∙ t.1.0) ∙ o in
    let p = same_parts j k first last c s at is (small_there j (drop at s) (bytes_drop at s b) (omega (arith, length-drop at s))) l in
    let f = number_is j s at refl (omega arith) in
    let g = number_is k s (at + j) refl (omega arith) in
    let end : m ≡ at + j + k = omega (arith, i.ends, t.1.1) in
    then_go none (fixed j first c) (fixed k last c) s at (fixed_is j first c s at f (fixed_got at first c refl p.0)) refl (rw end (fixed_is k last c s (at + j) g (fixed_got (at + j) last c refl p.1)))

pub fixed_cut : (k v : ℕ) (c : Fault) (s : List ℕ) (at : ℕ) → length s - at < k → Err (At Cut at) ≡ seen none (fixed k v c) s at
unfolding judged_fixed
fixed_cut k v c s at h = fixed_is k v c s at (number_no k s at h) refl

pub flag_got : (s : List ℕ) (at : ℕ) {r out : Read} {v m : ℕ} → r ≡ seen itself (number 4) s at → r ≡ Ok (m, v) → v ≤ 1 → out ≡ Ok (m, v) → out ≡ seen bit flag s at
unfolding flag
flag_got s at {v = v} {m = m} e h o w =
    via_is bit (judged (λ n. leb n 1) Field (number 4)) (λ n. eqb n 1) _ _ s at
    (judged_got (λ n. bit (eqb n 1)) (λ n. leb n 1) Field (number 4) s at e h (yes_le o) (w ∙ ap (λ (b : ℕ). read_as m b) (sym (bit_eqb v o))))

pub ruleset reading = (refl, pair_stop, pair_go, seq_stop, seq_go, then_stop, then_go, judged_stop, judged_got, judged_no, via_is, start_got, start_no, pick_yes, pick_no, nothing_is, flag_got, untold_is, yes_le, no_le, yes_eq, no_eq, yes_as, no_as)

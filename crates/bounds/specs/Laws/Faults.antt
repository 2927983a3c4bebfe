-- Which faults a reading can be refused for, from those of its parts.
use Prim.Native.Nat.{ℕ, zero, suc, ◌+◌, ◌*◌}
use Rattle.std.specs.Prelude.{◌≡◌, Bool, List, ◌∷◌, leb, eqb, length, take, drop, Ok, Err}
use Rattle.std.proofs.Math.Bool.{true, false}
use Rattle.format.specs.declared.Fault.{Fault}
use Rattle.format.specs.Format.{Answer, got, refused, shift, mapped, and_then, whole, pick, Format}
use Rattle.format.specs.ReadWrite.{pair_read, judge, judge_of, home, number_read, value, spelt, each_read, weighed}
use Rattle.format.specs.Index.{onward, values_read, indexed_read}
use Rattle.format.specs.Indexed.{indexed}
use Rattle.format.specs.Combinators.{pair, judged, via, at_start, nothing, seq, ◌then◌, number, fixed, bytes, count, flag, each, counted, listed, measured, sized}
use Rattle.text.specs.Length.{long_length, in_long, length_behind}
use Rattle.text.specs.Text.{string_length, string_of, unit, string, word_of, word}
use Rattle.date.specs.Date.{date}
use Rattle.kind.specs.declared.Product.{Product}
use Rattle.kind.specs.declared.Role.TheVariants.{Condition}
use Rattle.kind.specs.declared.Kind.{Kind}
use Rattle.kind.specs.Answers.{Row}
use Rattle.kind.specs.Kinds.{kinds, row_in}
use Rattle.element.specs.Data.{one_zero, marker_data, simple_data, word_data, size_data, limit, date_data, data_of}
use Rattle.element.specs.Element.{data_by, identifier, element}
use Rattle.rule.specs.Rule.{class_head, first_head, head, placed, body, from_unknown4, from_unknown2, fields, rule}

-- an answer is refused, if it is, for one of P's faults
unfoldable pub For : {A : Type 0} → (Fault → Type 0) → Answer A → Type 0
For P (got x n) = Unit {0}
For P (refused c q) = P c

-- and so is every reading of a format
unfoldable pub Gives : {A : Type 0} → (Fault → Type 0) → Format A → Type 0
Gives P a = (s : List ℕ) → For P (a.read s)

pub for_refused : {A : Type 0} (P : Fault → Type 0) {a : Answer A} {c : Fault} {q : ℕ} → For P a → a ≡ refused c q → P c
unfolding For
for_refused P f e = rw e at f

module _ (P : Fault → Type 0) where
  pub for_no : (A : Type 0) {c : Fault} (q : ℕ) → P c → For {A = A} P (refused c q)
  unfolding For
  for_no A q h = h

  pub for_mapped : {A B : Type 0} (f : A → B) (q : Answer A) → For P q → For P (mapped f q)
  unfolding For mapped
  for_mapped f (got x n) h = tt
  for_mapped f (refused c o) h = h

  pub for_shift : {A : Type 0} (k : ℕ) (q : Answer A) → For P q → For P (shift k q)
  unfolding For shift
  for_shift k (got x n) h = tt
  for_shift k (refused c o) h = h

  pub for_home : {A : Type 0} (q : Answer A) → For P q → For P (home q)
  unfolding For home
  for_home (got x n) h = tt
  for_home (refused c o) h = h

  pub for_then : {A B : Type 0} (q : Answer A) (k : A → ℕ → Answer B) → For P q → ((x : A) (n : ℕ) → For P (k x n)) → For P (and_then q k)
  unfolding For and_then
  for_then (got x n) k h f = for_shift n (k x n) (f x n)
  for_then (refused c o) k h f = h

  pub for_whole : {A : Type 0} (n : ℕ) (q : Answer A) → P Fault.Over → For P q → For P (whole n q)
  unfolding For whole pick
  for_whole n (got x m) o h = go (eqb m n)
    where
      go : (b : Bool) → For P (pick b (got x m) (refused Fault.Over m))
      go true = tt
      go false = o
  for_whole n (refused c p) o h = h

  -- ---- the combinators
  gives_nothing : Gives P nothing
  unfolding Gives For nothing
  gives_nothing s = tt

  gives_pick : {A : Type 0} (t : Bool) (a b : Format A) → Gives P a → Gives P b → Gives P (pick t a b)
  unfolding pick
  gives_pick true a b f g = f
  gives_pick false a b f g = g

  gives_judged : {A : Type 0} (ok : A → Bool) (c : Fault) (a : Format A) → P c → Gives P a → Gives P (judged ok c a)
  unfolding Gives For judged judge_of judge
  gives_judged {A} ok c a h f s = go (a.read s) (f s)
    where
      by : (b : Bool) (x : A) (n : ℕ) → For P (judge c b x n)
      by true x n = tt
      by false x n = h

      go : (q : Answer A) → For P q → For P (judge_of ok c q)
      go (got x n) w = by (ok x) x n
      go (refused d o) w = w

  gives_via : {A B : Type 0} (a : Format A) (to : A → B) (from : B → A) (same : (x : A) → a.Fit x → from (to x) ≡ x) → Gives P a → Gives P (via a to from same)
  unfolding Gives via
  gives_via a to from same f s = for_mapped to (a.read s) (f s)

  gives_start : {A : Type 0} (a : Format A) → Gives P a → Gives P (at_start a)
  unfolding Gives at_start
  gives_start a f s = for_home (a.read s) (f s)

  gives_pair : {A B : Type 0} (a : Format A) (b : A → Format B) → Gives P a → ((x : A) → Gives P (b x)) → Gives P (pair a b)
  unfolding Gives pair pair_read
  gives_pair a b f g s = for_then (a.read s) _ (f s) (λ x n. for_mapped _ ((b x).read (drop n s)) (g x (drop n s)))

  gives_then : {B : Type 0} (a : Format (Unit {0})) (b : Format B) → Gives P a → Gives P b → Gives P (a then b)
  unfolding ◌then◌ seq
  gives_then a b f g = gives_via _ _ _ _ (gives_pair a (λ x. b) f (λ x. g))

  for_each : {A : Type 0} (a : ℕ → Format A) → ((i : ℕ) → Gives P (a i)) → (i k : ℕ) (s : List ℕ) → For P (each_read a i k s)
  unfolding Gives For each_read
  for_each a f i zero s = tt
  for_each a f i (suc k) s = for_then ((a i).read s) _ (f i s) (λ x n. for_mapped _ (each_read a (i + 1) k (drop n s)) (for_each a f (i + 1) k (drop n s)))

  pub gives_each : {A : Type 0} (a : ℕ → Format A) → ((i : ℕ) → Gives P (a i)) → (i k : ℕ) → Gives P (each a i k)
  unfolding Gives each
  gives_each a f i k s = for_each a f i k s

  pub gives_counted : {A : Type 0} (l : Format ℕ) (a : ℕ → Format (List A)) (long : (n : ℕ) (xs : List A) → (a n).Fit xs → length xs ≡ n) → Gives P l → ((n : ℕ) → Gives P (a n)) → Gives P (counted l a long)
  unfolding counted
  gives_counted l a long f g = gives_via _ _ _ _ (gives_pair l a f g)

  gives_listed : {A : Type 0} (l : Format ℕ) (a : Format A) → Gives P l → Gives P a → Gives P (listed l a)
  unfolding listed
  gives_listed l a f g = gives_counted l _ _ f (gives_each (λ i. a) (λ i. g) 0)

  gives_measured : {A : Type 0} (a : Format A) → Gives P a → Gives P (measured a)
  unfolding Gives For measured weighed
  gives_measured {A} a f s = go (a.read s) (f s)
    where
      go : (q : Answer A) → For P q → For P (weighed q)
      go (got x n) w = tt
      go (refused c o) w = w

  pub gives_number : P Fault.Cut → (k : ℕ) → Gives P (number k)
  unfolding Gives For number number_read pick
  gives_number cut k s = go (leb k (length s))
    where
      go : (b : Bool) → For P (pick b (got (value (take k s)) k) (refused Fault.Cut 0))
      go true = tt
      go false = cut

  -- offsets, then values, each refused for its offset first
  for_onward : {A B : Type 0} (p : ℕ) (q : Answer A) (k : A → ℕ → Answer B) → For P q → ((x : A) (n : ℕ) → For P (k x n)) → For P (onward p q k)
  unfolding For onward
  for_onward p (got x n) k h f = f x (p + n)
  for_onward p (refused c o) k h f = h

  module _ {A : Type 0} (w origin : ℕ) (c : Fault) (a : ℕ → Format A) (off : P c) (f : (i : ℕ) → Gives P (a i)) where
    for_values : (s : List ℕ) (i k p : ℕ) → For P (values_read w origin c a s i k p)
    unfolding Gives For values_read pick
    for_values s i zero p = tt
    for_values s i (suc k) p = go (λ q. for_values s (i + 1) k q) (eqb (value (take w (drop (w * i) s))) (value (spelt w (origin + p))))
      where
        go : ((q : ℕ) → For P (values_read w origin c a s (i + 1) k q)) → (b : Bool) → For P (pick b (onward p ((a i).read (drop p s)) (λ x q. mapped (λ xs. x ∷ xs) (values_read w origin c a s (i + 1) k q))) (refused c (w * i)))
        go more true = for_onward p ((a i).read (drop p s)) _ (f i (drop p s)) (λ x q. for_mapped _ (values_read w origin c a s (i + 1) k q) (more q))
        go more false = off

    pub gives_indexed : P Fault.Cut → (n : ℕ) → Gives P (indexed w origin c a n)
    unfolding Gives indexed indexed_read
    gives_indexed cut n s = for_onward 0 (each_read (λ i. number w) 0 n s) _ (for_each (λ i. number w) (λ i. gives_number cut w) 0 n s) (λ os p. for_values s 0 n p)

  -- ---- what data give
  module _ (cut : P Fault.Cut) (many : P Fault.Count) (form : P Fault.Form) (wrong : P Fault.Field) (day : P Fault.Date) where
    gives_fixed : (k v : ℕ) (c : Fault) → P c → Gives P (fixed k v c)
    unfolding fixed
    gives_fixed k v c h = gives_via _ _ _ _ (gives_judged _ c (number k) h (gives_number cut k))

    pub gives_count : (k low high : ℕ) → Gives P (count k low high)
    unfolding count
    gives_count k low high = gives_judged _ Fault.Count (number k) many (gives_number cut k)

    gives_flag : Gives P flag
    unfolding flag
    gives_flag = gives_via _ _ _ _ (gives_judged _ Fault.Field (number 4) wrong (gives_number cut 4))

    gives_length : Gives P string_length
    unfolding string_length length_behind long_length
    gives_length = gives_via _ _ _ _ (gives_pair (number 1) _ (gives_number cut 1) (λ b. gives_pick (eqb b 255) in_long _ (gives_via _ _ _ _ (gives_judged _ Fault.Form (number 2) form (gives_number cut 2))) (gives_via _ _ _ _ gives_nothing)))

    gives_string : Gives P string
    unfolding string_of
    gives_string = gives_start _ (gives_via _ _ _ _ (gives_pair string_length _ gives_length (λ l. gives_each (λ i. unit) (λ i. gives_number cut 2) 0 l.1)))

    gives_word : Gives P word
    unfolding word_of
    gives_word = gives_then _ string (gives_fixed 4 0 Fault.Field wrong) gives_string

    gives_one_zero : Gives P one_zero
    unfolding one_zero
    gives_one_zero = gives_then _ _ (gives_fixed 4 1 Fault.Field wrong) (gives_fixed 4 0 Fault.Field wrong)

    gives_limit : Gives P limit
    unfolding limit seq date
    gives_limit = gives_via _ _ _ _ (gives_pair flag _ gives_flag (λ x. gives_then _ _ (gives_fixed 4 0 Fault.Field wrong) (gives_judged _ Fault.Date (number 8) day (gives_number cut 8))))

    pub gives_data : (k : Kind) → Gives P (data_of k)
    unfolding marker_data simple_data word_data size_data date_data seq
    gives_data Kind.Marker = gives_via _ _ _ _ (gives_then one_zero _ gives_one_zero (gives_fixed 4 1 Fault.Field wrong))
    gives_data (Kind.Simple r) = gives_via _ _ _ _ gives_one_zero
    gives_data Kind.WordList = gives_via _ _ _ _ (gives_listed _ word (gives_count 4 0 64) gives_word)
    gives_data (Kind.Size r) = gives_via _ _ _ _ (gives_then one_zero _ gives_one_zero (gives_pair (number 4) _ (gives_number cut 4) (λ x. gives_number cut 4)))
    gives_data (Kind.Dates r) = gives_via _ _ _ _ (gives_then one_zero _ gives_one_zero (gives_pair limit _ gives_limit (λ x. gives_limit)))

    -- ---- what a rule gives
    module _ (unknown : P Fault.Unknown) (foreign : P Fault.Foreign) (size : P Fault.Size) where
      gives_by : (r : Row) → Gives P (data_by r)
      gives_by (Ok k) = gives_data k
      gives_by (Err why) = gives_data (Kind.Simple Condition)

      gives_element : (p : Product) → Gives P (element p)
      unfolding element identifier
      gives_element p = gives_pair _ _ (gives_judged _ Fault.Foreign _ foreign (gives_judged _ Fault.Unknown (number 4) unknown (gives_number cut 4))) (λ id. gives_by (row_in kinds id))

      gives_placed : (p : Product) (j : ℕ) → Gives P (placed p j)
      unfolding placed
      gives_placed p j = gives_pick (eqb j 0) (element p) _ (gives_element p) (gives_then _ (element p) (gives_fixed 2 0x8001 Fault.Field wrong) (gives_element p))

      gives_head : (i : ℕ) → Gives P (head i)
      unfolding head first_head class_head bytes
      gives_head i = gives_pick (eqb i 0) _ _ (gives_then _ _ (gives_fixed 2 0xFFFF Fault.Field wrong) (gives_then _ _ (gives_fixed 2 0x0000 Fault.Field wrong) (gives_then _ _ (gives_fixed 2 0x000C Fault.Field wrong) (gives_fixed _ _ Fault.Field wrong)))) (gives_fixed 2 0x8001 Fault.Field wrong)

      gives_body : (p : Product) (i : ℕ) → Gives P (body p i)
      unfolding body
      gives_body p i = gives_counted _ _ _ (gives_count 2 1 64) (λ n. gives_then _ _ (gives_head i) (gives_each (placed p) (gives_placed p) 0 n))

      gives_sized : {A : Type 0} (a : Format A) → Gives P a → Gives P (sized Fault.Size a)
      unfolding sized
      gives_sized a f = gives_via _ _ _ _ (gives_judged _ Fault.Size _ size (gives_pair (number 4) _ (gives_number cut 4) (λ n. gives_measured a f)))

      pub gives_rule : (p : Product) (i : ℕ) → Gives P (rule p i)
      unfolding rule fields from_unknown2 from_unknown4 seq
      gives_rule p i =
          let n = gives_number cut 4 in
          gives_via _ _ _ _ (gives_pair _ _ n (λ a. gives_pair _ _ gives_string (λ b. gives_pair _ _ gives_flag (λ c. gives_pair _ _ n (λ d. gives_pair _ _ n (λ e. gives_pair _ _ n (λ f. gives_pair _ _ n (λ g. gives_sized _ (gives_body p i)))))))))

-- Laws of ../Deck.antt: both halves of demand 2 for the whole deck; how the code passes over one; no place that a read answers is above 60,000.
use Rattle.std.specs.Prelude.{ℕ, ◌+◌, ◌-◌, ◌*◌, ◌≤◌, ◌<◌, ◌≡◌, refl, Bool, leb, Ok, Err, Some, None}
use Rattle.std.proofs.Common.{add-zero, zero-mul, mul-suc, mul-le-mul_left, mul-le-mul_right, le_trans, arith, ◌∙◌, le-leb, leb-true, eq-eqb, ne_eqb, eqb-true}
use Rattle.std.proofs.Math.Nat.{zero-add}
use Rattle.std.proofs.Math.Path.{sym, ap, ap₂}
use Rattle.std.proofs.Math.Bool.{true, false}
use mathlib.Core.List.{List, [], append-nil}
use Rattle.std.proofs.Math.ListN.{length, drop}
use Rattle.std.proofs.Math.Dec.{eqb}
use Rattle.std.proofs.Math.Seq.{drop-length, drop-drop}
use Rattle.std.proofs.lemmas.Bool.{lt-leb}
use Rattle.format.specs.declared.Fault.{Fault}
use Rattle.kind.specs.Answers.{Edition}
use Rattle.format.specs.Answers.{Outcome}
use Rattle.format.specs.Laws.Answers.{Read}
use Rattle.scan.specs.Answers.{Scan}
use Rattle.format.specs.declared.Refusal.{Refusal}
use Rattle.format.specs.declared.Refusal.TheVariants.{At}
use Rattle.format.specs.Fault.{place_of}
use Rattle.format.specs.Format.{Answer, got, refused, shift, mapped, and_then, end_of, Bytes, pick, whole}
use Rattle.format.specs.Laws.Format.{apart, bytes_drop}
use Rattle.format.specs.ReadWrite.{pair_read, pair_write, value, spelt, AllFit}
use Rattle.format.specs.Laws.ReadWrite.{within_is, length_spelt, length_before}
use Rattle.format.specs.Combinators.{pair, seq, judged, via, ◌then◌, number, count, fixed, bytes, each, counted}
use Rattle.format.specs.Index.{onward, values_read, indexed_read, index_write, indexed_write}
use Rattle.format.specs.Indexed.{indexed}
use Rattle.format.specs.Laws.Indexed.{telling, offset_is, no_offset, offset_never, offset_is_lem, index_stop, index_start, values_done, values_off, values_stop, values_go, indexed_many}
use Rattle.format.specs.Laws.Seen.{told, seen, itself, none, told_got, told_why, pair_stop, pair_go, via_is}
use Rattle.format.specs.Laws.Back.{seen_fits, seen_ends}
use Rattle.format.specs.Row.{total}
use Rattle.format.specs.Laws.Rows.{added, added_none, added_twice, counted_is, row_there}
use Rattle.kind.specs.declared.Product.{Product}
use Rattle.kind.specs.Kinds.{edition_of}
use Rattle.rule.specs.Rule.{Rule, rule, elements_in}
use Rattle.rule.specs.Laws.Rule.{ComputingRules}
use Rattle.scan.specs.Scan.{scan_says}
use Rattle.deck.specs.Deck.{Deck, mark, version, rule_count, wide, rule_list, deck, base_of, read_as, read_by, read_deck, answered, scanned}
use Rattle.deck.specs.Written.{deck_of}

-- ---- demand 2: "what is written reads back as given"
pub written_reads_back : (p : Product) (k : Deck) → (deck p).Fit k → length ((deck p).write k) ≤ 60000 → read_as p ((deck p).write k) ≡ got k (length ((deck p).write k))
unfolding read_as whole pick
written_reads_back p k f h =
    let b : (deck p).read ((deck p).write k) ≡ got k (length ((deck p).write k)) = rw append-nil at ((deck p).back k [] f) in
    rw (le-leb (length ((deck p).write k)) 60000 h, b, eq-eqb (length ((deck p).write k)) (length ((deck p).write k)) refl)

-- what a reading of the whole tells
pub record Whole (p : Product) (s : List ℕ) (k : Deck) (n : ℕ) : Type 0 where
  pub is : s ≡ (deck p).write k
  pub ends : n ≡ length s
  pub fit : (deck p).Fit k
  pub short : length s ≤ 60000

-- "What is read, written again, gives the same bytes"
pub read_writes_back : (p : Product) (s : List ℕ) (k : Deck) (n : ℕ) → Bytes s → read_as p s ≡ got k n → Whole p s k n
unfolding read_as whole pick
read_writes_back p s k n bs e = short (leb (length s) 60000) refl e
  where
    all : (m : ℕ) (y : Deck) (t : Bool) → length s ≤ 60000 → (deck p).read s ≡ got y m → eqb m (length s) ≡ t → pick t (got y m) (refused Fault.Over m) ≡ got k n → Whole p s k n
    all m y true h d t e =
        let f = (deck p).forth s y m bs d in
        let l : m ≡ length s = eqb-true m (length s) t in
        let er : k ≡ y = cc in
        let en : n ≡ m = cc in
        let z : drop m s ≡ [] = rw l (drop-length s) in
        rw (er, en) (record { is = f.is ∙ rw (z, append-nil); ends = l; fit = f.fit; short = h })
    all m y false h d t e = apart (sym e)

    read : (a : Answer Deck) → length s ≤ 60000 → (deck p).read s ≡ a → whole (length s) a ≡ got k n → Whole p s k n
    read (got y m) h d e = all m y (eqb m (length s)) h d refl e
    read (refused c q) h d e = apart (sym e)

    short : (t : Bool) → leb (length s) 60000 ≡ t → pick t (whole (length s) ((deck p).read s)) (refused Fault.Long 60000) ≡ got k n → Whole p s k n
    short true t e = read ((deck p).read s) (leb-true (length s) 60000 t) refl e
    short false t e = apart (sym e)

-- ---- as the code reads it

-- the mark as a number
pub mark_is : (s : List ℕ) (at : ℕ) {r : Read} → r ≡ seen none (fixed 3 0x4B4452 Fault.Mark) s at → r ≡ seen none (bytes mark Fault.Mark) s at
unfolding bytes mark value
mark_is s at e = e

-- at most 256 rules were read
pub count_small : (s : List ℕ) (at : ℕ) {h : Read} {n m : ℕ} → Bytes s → h ≡ seen itself rule_count s at → h ≡ Ok (m, n) → n ≤ 256
unfolding count judged
count_small s at bs e k = let o = seen_fits itself rule_count s at bs e k in rw o.1.1 (within_is 0 256 o.0 o.1.0.1).1

-- how wide an offset is
pub wide_two : {v : ℕ} → v ≡ 2 → 4 ≡ wide v
unfolding wide pick
wide_two {v} e = rw (eq-eqb v 2 e)

pub wide_none : {v : ℕ} → (v ≡ 2 → ⊥) → 0 ≡ wide v
unfolding wide pick
wide_none {v} h = rw (ne_eqb v 2 h)

-- where the rules start, as the code works it out
pub base_is : (v n : ℕ) {w : ℕ} → w ≡ wide v → 7 + w * n ≡ base_of v n
unfolding base_of
base_is v n e = rw e

-- one rule more, one offset more
pub base_more : (v n : ℕ) → base_of v (n + 1) ≡ base_of v n + wide v
unfolding base_of
base_more v n = omega (arith, mul-suc (wide v) n)

pub index_small : (w n : ℕ) → w ≤ 4 → n ≤ 256 → w * n ≤ 1024
index_small w n l m = le_trans (mul-le-mul_right n l) (omega arith)

-- of no bytes there are n wherever there is nothing to read
pub none_there : (v : ℕ) (s : List ℕ) (n at : ℕ) → (v ≡ 2 → ⊥) → Ok (at, 0) ≡ seen none (each (λ i. number (wide v)) 0 n) s at
unfolding seen each told
none_there v s n at h =
    let z = wide_none h in
    let r = row_there 0 0 n (drop at s) (omega (arith, zero-mul n)) in
    rw (← z, r.is, zero-mul, add-zero)

-- and of four, as the code reads them
pub four_there : (v : ℕ) (s : List ℕ) (n at : ℕ) {r : Read} → v ≡ 2 → r ≡ seen none (each (λ i. number 4) 0 n) s at → r ≡ seen none (each (λ i. number (wide v)) 0 n) s at
four_there v s n at h e = e ∙ ap (λ (w : ℕ). seen none (each (λ i. number w) 0 n) s at) (wide_two h)

-- an offset that is not its rule's start has four bytes
pub off_wide : (v : ℕ) (s : List ℕ) (i p : ℕ) → offset_is (wide v) 7 s i p ≡ false → wide v ≡ 4
unfolding wide pick
off_wide v s i p e = go (eqb v 2) e
  where
    go : (b : Bool) → offset_is (pick b 4 0) 7 s i p ≡ false → ◌≡◌ {A = ℕ} (pick b 4 0) 4
    go true e = refl
    go false e = absurd (let z : true ≡ false = sym (no_offset 7 s i p) ∙ e in let u : ◌≡◌ {A = ℕ} 0 1 = cc in omega arith)

-- o is what the offset of rule i was read as
module _ (v : ℕ) (s : List ℕ) (i : ℕ) where
  pub starts_none : (p : ℕ) → (v ≡ 2 → ⊥) → true ≡ offset_is (wide v) 7 s i p
  starts_none p h = rw (← wide_none h) (sym (no_offset 7 s i p))

  module _ {o : Read} where
    pub starts_never : {B : Type 0} {why : Refusal} → v ≡ 2 → wide v * (i + 1) ≤ length s - 7 → o ≡ seen itself (number 4) s (7 + 4 * i) → o ≡ Err why → B
    starts_never h l e k = offset_never 4 7 s i e (rw (← wide_two h) at l) k

    pub starts_is : (p : ℕ) {m x : ℕ} → v ≡ 2 → wide v * (i + 1) ≤ length s - 7 → p ≤ 60000 → o ≡ seen itself (number 4) s (7 + 4 * i) → o ≡ Ok (m, x) → eqb x p ≡ offset_is (wide v) 7 s i p
    starts_is p h l g e k = rw (← wide_two h) (offset_is_lem 4 7 s i e p (rw (← wide_two h) at l) (omega arith) k)

-- ---- rule by rule behind their offsets: i were read, with t elements, and the next starts at q
pub record Turn (p : Product) (v n : ℕ) (s : List ℕ) (i t q : ℕ) : Type 0 where
  pub tells : added t (telling elements_in (wide v) 7 Fault.Offset (rule p) s n i q) ≡ seen (total elements_in) (indexed (wide v) 7 Fault.Offset (rule p) n) s 7
  pub past : 7 ≤ q
  pub inside : q ≤ length s
  pub there : wide v * n ≤ length s - 7

module _ (p : Product) (v n : ℕ) (s : List ℕ) where
  -- x is what the offsets were read as
  module _ {x : Read} (e : x ≡ seen none (each (λ i. number (wide v)) 0 n) s 7) where
    pub turn_none : {why : Refusal} → x ≡ Err why → x ≡ seen (total elements_in) (indexed (wide v) 7 Fault.Offset (rule p) n) s 7
    turn_none k = index_stop elements_in (wide v) 7 Fault.Offset (rule p) s n none e k

    pub turn_start : {m u : ℕ} → 7 ≤ length s → x ≡ Ok (m, u) → Turn p v n s 0 0 m
    turn_start {m} l k =
        let y = index_start elements_in (wide v) 7 Fault.Offset (rule p) s n none e k in
        record { tells = added_none (telling elements_in (wide v) 7 Fault.Offset (rule p) s n 0 m) ∙ y.1.1; past = omega (arith, y.0); inside = omega (arith, y.0, y.1.0); there = y.1.0 }

    pub turn_base : {m u : ℕ} → x ≡ Ok (m, u) → m ≡ base_of v n
    turn_base k = (index_start elements_in (wide v) 7 Fault.Offset (rule p) s n none e k).0 ∙ base_is v n refl

  module _ {i t q : ℕ} (o : Turn p v n s i t q) where
    pub turn_done : n ≤ i → Ok (q, t) ≡ seen (total elements_in) (indexed (wide v) 7 Fault.Offset (rule p) n) s 7
    turn_done h = ap (λ (u : ℕ). Ok (q, u)) (sym (add-zero t)) ∙ sym (ap (added t) (values_done elements_in (wide v) 7 Fault.Offset (rule p) s n i q o.past h)) ∙ o.tells

    offset_width : i < n → wide v * (i + 1) ≤ length s - 7
    offset_width h = le_trans (mul-le-mul_left (wide v) (omega arith)) o.there

    pub turn_offset : i < n → n ≤ 256 → length s ≤ 60000 → (i ≤ 256) × (wide v * (i + 1) ≤ length s - 7) × (q ≤ 60000)
    turn_offset h l m = (omega arith, offset_width h, omega (arith, o.inside))

    pub turn_off : i < n → offset_is (wide v) 7 s i q ≡ false → Err (At Fault.Offset (7 + 4 * i)) ≡ seen (total elements_in) (indexed (wide v) 7 Fault.Offset (rule p) n) s 7
    turn_off h b = ap (λ (w : ℕ). Err (At Fault.Offset (7 + w * i))) (sym (off_wide v s i q b)) ∙ sym (ap (added t) (values_off elements_in (wide v) 7 Fault.Offset (rule p) s n i q o.past h b)) ∙ o.tells

    -- r is what rule i was read as
    module _ {r : Read} (h : i < n) (b : offset_is (wide v) 7 s i q ≡ true) (e : r ≡ seen elements_in (rule p i) s q) where
      pub turn_stop : {why : Refusal} → r ≡ Err why → r ≡ seen (total elements_in) (indexed (wide v) 7 Fault.Offset (rule p) n) s 7
      turn_stop k = k ∙ ap (added t) (sym k) ∙ sym (ap (added t) (values_stop elements_in (wide v) 7 Fault.Offset (rule p) s n i q o.past b h e k)) ∙ o.tells

      pub turn_go : {m u : ℕ} → r ≡ Ok (m, u) → Turn p v n s (i + 1) (t + u) m
      turn_go {m} {u} k =
          let y = values_go elements_in (wide v) 7 Fault.Offset (rule p) s n i q o.past b h e k in
          record { tells = sym (added_twice t u (telling elements_in (wide v) 7 Fault.Offset (rule p) s n (i + 1) m)) ∙ sym (ap (added t) y.1) ∙ o.tells; past = omega (arith, o.past, y.0); inside = omega (arith, o.inside, seen_ends elements_in (rule p i) s q e k); there = o.there }

scan_answers : (a : Answer Deck) → scan_says (scanned a) ≡ answered a
scan_answers (got k n) = refl
scan_answers (refused c p) = refl

scan_says_lem : (a : Answer Deck) {r : Scan} → r ≡ scanned a → (r ≡ scanned a) × (scan_says r ≡ answered a)
scan_says_lem a e = (e, ap scan_says e ∙ scan_answers a)

module _ (p : Product) (s : List ℕ) where
  pub scan_long : 60000 < length s → Err (At Fault.Long 60000) ≡ scanned (read_as p s)
  unfolding read_as pick
  scan_long l = rw (lt-leb (length s) 60000 l)

  scan_of : {a : Answer Deck} → length s ≤ 60000 → (deck p).read s ≡ a → scanned (read_as p s) ≡ scanned (whole (length s) a)
  unfolding read_as pick
  scan_of l e = rw (le-leb (length s) 60000 l, e)

  scan_no : (g : Deck → ℕ) {r : Read} {why : Refusal} → length s ≤ 60000 → r ≡ seen g (deck p) s 0 → r ≡ Err why → (x : Scan) → x ≡ Err why → x ≡ scanned (read_as p s)
  unfolding seen whole
  scan_no g {why = why} l e k x u =
      let o = told_why 0 g ((deck p).read s) e k in
      let w : why ≡ At o.c o.o = o.ends ∙ ap (λ (n : ℕ). At o.c n) (zero-add o.o) in
      u ∙ ap (λ (z : Refusal). scan_err z) w ∙ sym (scan_of l o.is)
    where
      scan_err : Refusal → Scan
      scan_err z = Err z

  -- what is told of its rules
  rules_told : (g : List Rule → ℕ) {r : Read} → r ≡ seen (λ q. g q.1) (pair version (rule_list p)) s 0 → r ≡ seen (λ k. g k.rules) (deck p) s 0
  unfolding deck
  rules_told g e = via_is (λ k. g k.rules) (pair version (rule_list p)) _ _ _ s 0 e

  deck_got : (v a n b : ℕ) (rs : List Rule) (j : ℕ) → version.read s ≡ got v a → rule_count.read (drop a s) ≡ got n b → (indexed (wide v) 7 Fault.Offset (rule p) n).read (drop b (drop a s)) ≡ got rs j → (deck p).read s ≡ got (deck_of v rs) (a + (b + j))
  unfolding deck rule_list counted via pair pair_read and_then mapped shift
  deck_got v a n b rs j e f g = rw (e, f, g)

  -- h is what the version was read as, c the number of rules, r the rules behind their offsets
  module _ {h : Read} where
    pub scan_version : {why : Refusal} → length s ≤ 60000 → h ≡ seen itself version s 0 → h ≡ Err why → (x : Scan) → x ≡ Err why → x ≡ scanned (read_as p s)
    scan_version l e k = scan_no _ l (rules_told length (pair_stop _ version _ s 0 itself e k)) k

    module _ {c : Read} {v a : ℕ} where
      pub scan_count : {why : Refusal} → length s ≤ 60000 → h ≡ seen itself version s 0 → h ≡ Ok (a, v) → c ≡ seen itself rule_count s a → c ≡ Err why → (x : Scan) → x ≡ Err why → x ≡ scanned (read_as p s)
      unfolding rule_list
      scan_count l e k i m = scan_no _ l (rules_told length (pair_go _ version (rule_list p) s 0 e k (counted_is length rule_count _ _ s a (pair_stop _ rule_count _ s a itself i m)))) m

      -- the offsets start where the number of rules ends
      behind_count : {n b : ℕ} → Bytes s → h ≡ seen itself version s 0 → h ≡ Ok (a, v) → c ≡ seen itself rule_count s a → c ≡ Ok (b, n) → b ≡ 7
      unfolding seen version count judged ◌then◌ seq via bytes mark fixed pair pair_write number
      behind_count bs e k i m =
          let x = told_got 0 itself (version.read s) e k in
          let z = told_got a itself (rule_count.read (drop a s)) i m in
          let y = (version.forth s x.x x.n bs x.is).ends in
          let w = (rule_count.forth (drop a s) z.x z.n (bytes_drop a s bs) z.is).ends in
          omega (arith, x.ends, z.ends, y, w, length_before 3 (value mark) (spelt 2 x.x), length_spelt 2 x.x, length_spelt 2 z.x)

      pub rules_ready : {n b : ℕ} → Bytes s → h ≡ seen itself version s 0 → h ≡ Ok (a, v) → c ≡ seen itself rule_count s a → c ≡ Ok (b, n) → (n ≤ 256) × (7 ≤ length s)
      rules_ready bs e k i m = (count_small s a bs i m, omega (arith, behind_count bs e k i m, seen_ends itself version s 0 e k, seen_ends itself rule_count s a i m))

      module _ {r : Read} {n b : ℕ} where
        totals : Bytes s → h ≡ seen itself version s 0 → h ≡ Ok (a, v) → c ≡ seen itself rule_count s a → c ≡ Ok (b, n) → r ≡ seen (total elements_in) (indexed (wide v) 7 Fault.Offset (rule p) n) s 7 → r ≡ seen (λ k. total elements_in k.rules) (deck p) s 0
        unfolding rule_list
        totals bs e k i m f = rules_told (total elements_in) (pair_go _ version (rule_list p) s 0 e k (counted_is (total elements_in) rule_count _ _ s a (pair_go _ rule_count (indexed (wide v) 7 Fault.Offset (rule p)) s a i m (rw (behind_count bs e k i m) f))))

        pub scan_rules : {why : Refusal} → Bytes s → length s ≤ 60000 → h ≡ seen itself version s 0 → h ≡ Ok (a, v) → c ≡ seen itself rule_count s a → c ≡ Ok (b, n) → r ≡ seen (total elements_in) (indexed (wide v) 7 Fault.Offset (rule p) n) s 7 → r ≡ Err why → (x : Scan) → x ≡ Err why
            → x ≡ scanned (read_as p s)
        scan_rules bs l e k i m f = scan_no _ l (totals bs e k i m f)

        module _ {t q : ℕ} where
          scan_got : (y : Bool) (base : ℕ) → Bytes s → length s ≤ 60000 → h ≡ seen itself version s 0 → h ≡ Ok (a, v) → c ≡ seen itself rule_count s a → c ≡ Ok (b, n) → r ≡ seen (total elements_in) (indexed (wide v) 7 Fault.Offset (rule p) n) s 7 → r ≡ Ok (q, t) → eqb q (length s) ≡ y → base ≡ base_of v n
              → scanned (read_as p s) ≡ pick y (Ok (v, base, n, t)) (Err (At Fault.Over q))
          unfolding seen whole pick
          scan_got y base bs l e k i m f o w eb =
              let R = indexed (wide v) 7 Fault.Offset (rule p) n in
              let b7 = behind_count bs e k i m in
              let x = told_got 0 itself (version.read s) e k in
              let z = told_got a itself (rule_count.read (drop a s)) i m in
              let u = told_got 7 (total elements_in) (R.read (drop 7 s)) f o in
              let xv : version.read s ≡ got v a = x.is ∙ ap₂ (λ (m n : ℕ). got m n) (sym x.tells) (sym (x.ends ∙ zero-add x.n)) in
              let zn : rule_count.read (drop a s) ≡ got n z.n = z.is ∙ ap (λ (m : ℕ). got m z.n) (sym z.tells) in
              let d : drop z.n (drop a s) ≡ drop 7 s = drop-drop z.n a s ∙ ap (λ (m : ℕ). drop m s) (sym z.ends ∙ b7) in
              let ends : a + (z.n + u.n) ≡ q = omega (arith, z.ends, u.ends, b7) in
              scan_of l (deck_got v a n z.n u.x u.n xv zn (ap R.read d ∙ u.is))
              ∙ go y u.x (a + (z.n + u.n)) (ap (λ (m : ℕ). eqb m (length s)) ends ∙ w) (indexed_many (wide v) 7 Fault.Offset (rule p) n (drop 7 s) u.x u.n u.is) (sym u.tells) ends
            where
              go : (y : Bool) (rs : List Rule) (d : ℕ) → eqb d (length s) ≡ y → length rs ≡ n → total elements_in rs ≡ t → d ≡ q → scanned (pick (eqb d (length s)) (got (deck_of v rs) d) (refused Fault.Over d)) ≡ pick y (Ok (v, base, n, t)) (Err (At Fault.Over q))
              go true rs d ew en et eq = rw (ew, en, et, eb)
              go false rs d ew en et eq = rw (ew, eq)

          pub scan_over : Bytes s → length s ≤ 60000 → h ≡ seen itself version s 0 → h ≡ Ok (a, v) → c ≡ seen itself rule_count s a → c ≡ Ok (b, n) → r ≡ seen (total elements_in) (indexed (wide v) 7 Fault.Offset (rule p) n) s 7 → r ≡ Ok (q, t) → (q ≡ length s → ⊥) → Err (At Fault.Over q) ≡ scanned (read_as p s)
          unfolding pick
          scan_over bs l e k i m f o w = sym (scan_got false _ bs l e k i m f o (ne_eqb q (length s) w) refl)

          pub scan_is : {base : ℕ} → Bytes s → length s ≤ 60000 → h ≡ seen itself version s 0 → h ≡ Ok (a, v) → c ≡ seen itself rule_count s a → c ≡ Ok (b, n) → r ≡ seen (total elements_in) (indexed (wide v) 7 Fault.Offset (rule p) n) s 7 → r ≡ Ok (q, t) → q ≡ length s → base ≡ base_of v n → Ok (v, base, n, t) ≡ scanned (read_as p s)
          unfolding pick
          scan_is {base} bs l e k i m f o w eb = sym (scan_got true base bs l e k i m f o (eq-eqb q (length s) w) eb)

-- an edition's number first
pub scan_by : (edition : ℕ) (s : List ℕ) {e : Edition} {p : Product} {r : Scan} → e ≡ edition_of edition → e ≡ Some p → r ≡ scanned (read_as p s) → (r ≡ scanned (read_deck edition s)) × (scan_says r ≡ answered (read_deck edition s))
unfolding read_deck read_by
scan_by edition s {p = p} f h o = rw (← f, h) (scan_says_lem (read_as p s) o)

pub scan_none : (edition : ℕ) (s : List ℕ) {e : Edition} → e ≡ edition_of edition → e ≡ None → (Err (At Fault.Edition 0) ≡ scanned (read_deck edition s)) × (Err (At Fault.Edition 0) ≡ answered (read_deck edition s))
unfolding read_deck read_by
scan_none edition s f h = rw (← f, h) (refl, refl)

-- ---- no place that a read answers is above 60,000
pub deck_small : (p : Product) (k : Deck) → (deck p).Fit k → length k.rules ≤ 256
unfolding deck rule_list counted via pair count judged
deck_small p k f = (within_is 0 256 (length k.rules) f.0.1.0.0.1).1

pub place_small : (edition : ℕ) (s : List ℕ) → Bytes s → place_of (answered (read_deck edition s)) ≤ 60000
unfolding read_deck read_by read_as whole pick end_of
place_small edition s bs = by (edition_of edition)
  where
    over : (b : Bool) (k : Deck) (m : ℕ) → m ≤ 60000 → length k.rules ≤ 256 → place_of (answered (pick b (got k m) (refused Fault.Over m))) ≤ 60000
    over true k m h l = omega arith
    over false k m h l = h

    read : (p : Product) (a : Answer Deck) → (deck p).read s ≡ a → length s ≤ 60000 → end_of a ≤ length s → place_of (answered (whole (length s) a)) ≤ 60000
    read p (got k m) e h l = over (eqb m (length s)) k m (omega arith) (deck_small p k ((deck p).forth s k m bs e).fit)
    read p (refused c q) e h l = omega arith

    long : (p : Product) (b : Bool) → leb (length s) 60000 ≡ b → place_of (answered (pick b (whole (length s) ((deck p).read s)) (refused Fault.Long 60000))) ≤ 60000
    long p true e = read p ((deck p).read s) refl (leb-true (length s) 60000 e) ((deck p).inside s)
    long p false e = omega arith

    by : (e : Edition) → place_of (answered (read_by e s)) ≤ 60000
    by (Some p) = long p (leb (length s) 60000) refl
    by None = omega arith

-- ---- a sound deck is what stands before its rules, and they
pub deck_rules : (p : Product) (k : Deck) → (deck p).Fit k → AllFit (rule p) 0 k.rules
unfolding deck rule_list counted indexed via pair
deck_rules p k f = f.0.1.0.1.1

-- ---- where a case is computed
unfoldable pub ComputingDecks : Type 0
unfolding ComputingRules onward values_read indexed_read index_write indexed_write indexed mark version wide rule_list deck read_as read_by read_deck
ComputingDecks = Unit {0}

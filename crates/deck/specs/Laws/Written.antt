-- Laws of ../Written.antt: a deck is its opening, the number of rules and the rules, alike in both editions; where each starts.
use Rattle.std.specs.Prelude.{ℕ, ◌+◌, ◌*◌, ◌≤◌, ◌<◌, ◌≡◌, take, drop}
use Rattle.std.proofs.Common.{add-zero, mul-le-mul_left, arith, ◌∙◌, take-append-drop, drop_at}
use Rattle.std.proofs.Math.Nat.{zero-add}
use Rattle.std.proofs.Math.Path.{sym, ap}
use mathlib.Core.List.{List, [], ◌∷◌, ◌++◌, append_assoc, append-nil}
use Rattle.std.proofs.Math.ListN.{length, length-append}
use Rattle.std.proofs.Math.Seq.{length-take-le}
use Rattle.format.specs.Format.{Bytes}
use Rattle.format.specs.ReadWrite.{pair_write, value, spelt, each_write}
use Rattle.format.specs.Laws.ReadWrite.{length_spelt, length_before, each_append, each_alike}
use Rattle.format.specs.Combinators.{pair, seq, ◌then◌, judged, via, number, count, fixed, bytes, counted}
use Rattle.format.specs.Index.{index_write, indexed_write}
use Rattle.format.specs.Indexed.{indexed}
use Rattle.format.specs.Laws.Index.{index_long}
use Rattle.format.specs.Laws.Indexed.{index_alike, index_kept}
use Rattle.format.specs.declared.Fault.TheVariants as Fault
use Rattle.format.specs.Row.{start_in}
use Rattle.format.specs.Laws.Written.{Row}
use Rattle.kind.specs.declared.Product.{Product}
use Rattle.kind.specs.declared.Product.TheVariants.{Studio}
use Rattle.rule.specs.Rule.{Rule, rule}
use Rattle.rule.specs.Laws.Parts.{front, back, rule_is, back_later}
use Rattle.deck.specs.Deck.{Deck, mark, version, wide, rule_list, deck, base_of}
use Rattle.deck.specs.Laws.Deck.{base_more, deck_rules}
use Rattle.deck.specs.Written.{deck_of, written, start_of}

-- ---- rules one behind the other
unfoldable pub rules : ℕ → List Rule → List ℕ
rules i rs = each_write (rule Studio) i rs

rule_as : (p : Product) (i : ℕ) (r : Rule) → (rule p i).write r ≡ (rule Studio i).write r
rule_as p i r = rule_is p i r ∙ sym (rule_is Studio i r)

pub rules_as : (p : Product) (i : ℕ) (rs : List Rule) → each_write (rule p) i rs ≡ rules i rs
unfolding rules
rules_as p i rs = each_alike (rule p) (rule Studio) i i rs (λ n r. rule_as p (i + n) r)

pub rules_cons : (i : ℕ) (r : Rule) (rs : List Rule) → rules i (r ∷ rs) ≡ front r ++ (back i r.elements ++ rules (i + 1) rs)
unfolding rules each_write
rules_cons i r rs = rw (rule_is Studio i r, append_assoc)

pub rules_append : (i : ℕ) (xs ys : List Rule) → rules i (xs ++ ys) ≡ rules i xs ++ rules (i + length xs) ys
unfolding rules
rules_append i xs ys = each_append (rule Studio) i xs ys

-- rule k of them, behind those before it
pub rules_before : (k : ℕ) (rs later : List Rule) (r : Rule) → drop k rs ≡ r ∷ later → k ≤ length rs → rules 0 rs ≡ rules 0 (take k rs) ++ ((rule Studio k).write r ++ rules (k + 1) later)
unfolding rules each_write
rules_before k rs later r e l =
    let t : length (take k rs) ≡ k = length-take-le k rs l in
    let i = rules_append 0 (take k rs) (drop k rs) in
    (rw (take-append-drop k rs) at i) ∙ rw (t, zero-add, e)

pub rules_one : (p : Product) (i : ℕ) (r : Rule) → rules i (r ∷ []) ≡ (rule p i).write r
unfolding rules each_write
rules_one p i r = append-nil ((rule Studio i).write r) ∙ sym (rule_as p i r)

pub rules_first : (p : Product) (i : ℕ) (r : Rule) → (rule Studio i).write r ≡ (rule p i).write r
rules_first p i r = sym (rule_as p i r)

-- but for the first, a rule is written alike at every place
pub rules_later : (i j : ℕ) (rs : List Rule) → 0 < i → 0 < j → rules i rs ≡ rules j rs
unfolding rules
rules_later i j rs h k =
    each_alike (rule Studio) (rule Studio) i j rs
    (λ n r. rule_is Studio (i + n) r ∙ ap (λ (t : List ℕ). front r ++ t) (back_later (i + n) (j + n) r.elements (omega arith) (omega arith)) ∙ sym (rule_is Studio (j + n) r))

-- ---- the deck: mark and version, the number of rules, the rules
unfoldable pub opening : ℕ → List ℕ
opening v = spelt 3 (value mark) ++ spelt 2 v

pub opening_long : (v : ℕ) → length (opening v) ≡ 5
unfolding opening
opening_long v = omega (arith, length_before 3 (value mark) (spelt 2 v), length_spelt 2 v)

-- the offsets of the rules
unfoldable pub index : ℕ → List Rule → List ℕ
index v rs = index_write (wide v) 7 Fault.Offset (rule Studio) 0 (wide v * length rs) rs

pub offsets_long : (v : ℕ) (rs : List Rule) → length (index v rs) ≡ wide v * length rs
unfolding index
offsets_long v rs = index_long (wide v) 7 Fault.Offset (rule Studio) 0 (wide v * length rs) rs

-- what stands before the rules
unfoldable pub lead : ℕ → List Rule → List ℕ
lead v rs = opening v ++ (spelt 2 (length rs) ++ index v rs)

-- mark, version and number of rules stand there in every version
pub base_least : (v n : ℕ) → 7 ≤ base_of v n
unfolding base_of
base_least v n = omega arith

-- of a version and a list of rules
module _ (v : ℕ) (rs : List Rule) where
  pub lead_long : length (lead v rs) ≡ base_of v (length rs)
  unfolding lead base_of
  lead_long = omega (arith, length-append (opening v) (spelt 2 (length rs) ++ index v rs), length_before 2 (length rs) (index v rs), offsets_long v rs, opening_long v)

  -- the same where rule k becomes one as long, or the last becomes another
  pub lead_kept : (k : ℕ) (later : List Rule) (r x : Rule) → drop k rs ≡ r ∷ later → length (take k rs ++ (x ∷ later)) ≡ length rs → (0 < length later → length ((rule Studio k).write x) ≡ length ((rule Studio k).write r)) → lead v (take k rs ++ (x ∷ later)) ≡ lead v rs
  unfolding lead index
  lead_kept k later r x e l h =
      let z : 0 + k ≡ k = zero-add k in
      rw l (ap (λ (t : List ℕ). opening v ++ (spelt 2 (length rs) ++ t)) (index_kept (wide v) 7 Fault.Offset (rule Studio) 0 (wide v * length rs) k rs later r x e (rw z h)))

  deck_is : (p : Product) → (deck p).write (deck_of v rs) ≡ lead v rs ++ rules 0 rs
  unfolding deck version rule_list counted indexed indexed_write bytes mark fixed count via judged ◌then◌ seq pair pair_write number opening lead index
  deck_is p = rw (rules_as p 0 rs, index_alike (wide v) 7 Fault.Offset (rule p) (rule Studio) 0 (wide v * length rs) rs (λ n x. ap length (rule_as p (0 + n) x))) (simp append_assoc)

  -- "written afresh": alike in both editions
  pub written_as : (p : Product) → (deck p).write (deck_of v rs) ≡ written v rs
  unfolding written
  written_as p = deck_is p ∙ sym (deck_is Studio)

  pub written_bytes : Bytes (written v rs)
  unfolding written
  written_bytes = (deck Studio).spells (deck_of v rs)

  pub written_is : written v rs ≡ lead v rs ++ rules 0 rs
  unfolding written
  written_is = deck_is Studio

  pub written_long : length (written v rs) ≡ base_of v (length rs) + length (rules 0 rs)
  written_long = ap length written_is ∙ omega (arith, length-append (lead v rs) (rules 0 rs), lead_long)

-- the rules start no earlier where there are more of them
base_less : (v m n : ℕ) → m ≤ n → base_of v m ≤ base_of v n
unfolding base_of
base_less v m n l = omega (arith, mul-le-mul_left (wide v) l)

-- other rules behind what stands before rs
module _ (v : ℕ) (rs xs : List Rule) where
  pub behind_long : length (lead v rs ++ rules 0 xs) ≡ base_of v (length rs) + length (rules 0 xs)
  behind_long = omega (arith, length-append (lead v rs) (rules 0 xs), lead_long v rs)

  pub written_less : length xs ≤ length rs → length (written v xs) ≤ length (lead v rs ++ rules 0 xs)
  written_less l = omega (arith, behind_long, written_long v xs, base_less v (length xs) (length rs) l)

  -- one rule more, one offset more
  pub written_one_more : length xs ≡ length rs + 1 → length (written v xs) ≡ length (lead v rs ++ rules 0 xs) + wide v
  written_one_more e = omega (arith, behind_long, written_long v xs, ap (base_of v) e, base_more v (length rs))

-- what stands before rule k
unfoldable pub before : ℕ → List Rule → ℕ → List ℕ
before v rs k = lead v rs ++ rules 0 (take k rs)

module _ (v : ℕ) (rs : List Rule) (k : ℕ) where
  pub before_long : length (before v rs k) ≡ start_of v rs k
  unfolding before start_of start_in rules
  before_long = omega (arith, length-append (lead v rs) (rules 0 (take k rs)), lead_long v rs)

  -- the rules ys in place of those from k on
  pub before_is : (ys : List Rule) → k ≤ length rs → lead v rs ++ rules 0 (take k rs ++ ys) ≡ before v rs k ++ rules k ys
  unfolding before
  before_is ys l =
      let t : length (take k rs) ≡ k = length-take-le k rs l in
      rw (rules_append 0 (take k rs) ys, t, zero-add) (simp append_assoc)

  pub written_at : k ≤ length rs → written v rs ≡ before v rs k ++ rules k (drop k rs)
  written_at l = written_is v rs ∙ (rw (take-append-drop k rs) at (before_is (drop k rs) l))

  -- alike in both editions
  pub start_as : (p : Product) → start_in (rule p) (base_of v (length rs)) rs k ≡ start_of v rs k
  unfolding start_of start_in rules
  start_as p = ap (λ (t : List ℕ). base_of v (length rs) + length t) (rules_as p 0 (take k rs))

-- the first rule starts where the rules do
pub start_first : (v : ℕ) (rs : List Rule) → start_of v rs 0 ≡ base_of v (length rs)
unfolding start_of start_in each_write
start_first v rs = add-zero (base_of v (length rs))

-- the rules of a deck stand where they start
pub deck_row : (p : Product) (s : List ℕ) (k : Deck) → (deck p).Fit k → s ≡ (deck p).write k → Row (rule p) s 0 (base_of k.version (length k.rules)) k.rules []
deck_row p s k f e =
    let v = k.version in
    let rs = k.rules in
    let d : drop (base_of v (length rs)) s ≡ rules 0 rs = ap (drop (base_of v (length rs))) (e ∙ written_as v rs p ∙ written_is v rs) ∙ drop_at (lead v rs) (rules 0 rs) (base_of v (length rs)) (lead_long v rs) in
    record { fit = deck_rules p k f; is = d ∙ sym (rules_as p 0 rs) ∙ sym (append-nil (each_write (rule p) 0 rs)) }

-- The offsets of the rules of a deck of version 2, put one after the other from the Data Sizes.
use Rattle.std.specs.Prelude.{ℕ, zero, suc, ◌+◌, ◌-◌, ◌*◌, ◌≤◌, ◌<◌, ◌≡◌, refl, take, Ok, Err}
use Rattle.std.proofs.Common.{add-zero, arith, sym, ◌∙◌, take-append-drop}
use Rattle.std.proofs.Math.Nat.{zero-add}
use Rattle.std.proofs.Math.Path.{ap}
use mathlib.Core.List.{List, [], ◌∷◌, ◌++◌, append_assoc, append-nil}
use Rattle.std.proofs.Math.ListN.{length, drop, length-append, length-drop}
use Rattle.std.proofs.Math.Seq.{length-take-le, drop_at}
use Rattle.format.specs.declared.Fault.{Fault}
use Rattle.format.specs.Laws.Answers.{Read}
use Rattle.format.specs.declared.Refusal.{Refusal}
use Rattle.format.specs.declared.Refusal.TheVariants.{At}
use Rattle.format.specs.ReadWrite.{spelt, each_write, AllFit}
use Rattle.format.specs.Laws.ReadWrite.{length_spelt, all_drop}
use Rattle.format.specs.Index.{index_write}
use Rattle.format.specs.Laws.Index.{index_long}
use Rattle.format.specs.Laws.Written.{Held}
use Rattle.format.specs.Laws.Back.{Where}
use Rattle.kind.specs.declared.Product.{Product}
use Rattle.kind.specs.declared.Product.TheVariants.{Studio}
use Rattle.rule.specs.Rule.{Rule, rule}
use Rattle.rule.specs.Places.{rule_bytes}
use Rattle.deck.specs.Laws.Written.{rules, rules_append, rules_first, rules_before, rules_one}
use Rattle.buffer.specs.Laid.{zeros, put_in, laid}
use Rattle.buffer.specs.Laws.Holds.{Holds, holds_put}
use Rattle.steps.specs.Laws.Steps.{Follows, follows_got, follows_never}

-- the offsets of the first i of m rules
abbrev pub up_to : ℕ → ℕ → List Rule → List ℕ
up_to m i xs = index_write 4 7 Fault.Offset (rule Studio) 0 (4 * m) (take i xs)

-- of rules xs, m of them, behind room for their offsets: the first i are put, and rule i starts at p
pub record Put (P : List ℕ) (xs : List Rule) (d : List ℕ) (hi m i p : ℕ) (y : List ℕ) : Type 0 where
  pub rest : List ℕ
  pub long : length rest ≡ 4 * (m - i)
  pub holds : Holds y (P ++ (up_to m i xs ++ (rest ++ rules 0 xs))) hi d
  pub starts : p ≡ 7 + 4 * m + length (rules 0 (take i xs))

-- whatever m rules stand behind room for their offsets in y, behind 7 bytes P: so they do in z
unfoldable pub Puts : ℕ → ℕ → ℕ → List ℕ → List ℕ → Type 0
Puts m i p y z = (k : Product) (xs : List Rule) (P G : List ℕ) (d : List ℕ) (hi : ℕ) → length P ≡ 7 → length G ≡ 4 * m → m ≡ length xs → AllFit (rule k) 0 xs → Holds y (P ++ (G ++ rules 0 xs)) hi d → Put P xs d hi m i p z

unfoldable pub Offsets : ℕ → List ℕ → List ℕ → Type 0
Offsets m y z = (k : Product) (xs : List Rule) (P G : List ℕ) (d : List ℕ) (hi : ℕ) → m ≤ 256 → length P ≡ 7 → length G ≡ 4 * m → m ≡ length xs → AllFit (rule k) 0 xs → Holds y (P ++ (G ++ rules 0 xs)) hi d → Holds z (P ++ (up_to m m xs ++ rules 0 xs)) hi d

pub puts_start : (m : ℕ) (y : List ℕ) → Puts m 0 (7 + 4 * m) y y
unfolding Puts index_write rules each_write
puts_start m y k xs P G d hi lp lg em f h = record { rest = G; long = omega (arith, lg); holds = h; starts = sym (add-zero (7 + 4 * m)) }

-- rule i, and those behind it
next_rule : (i : ℕ) (xs : List Rule) → i < length xs → (x : Rule) × ((later : List Rule) × (drop i xs ≡ x ∷ later))
next_rule i xs l = go (drop i xs) refl
  where
    go : (ys : List Rule) → drop i xs ≡ ys → (x : Rule) × ((later : List Rule) × (drop i xs ≡ x ∷ later))
    go [] e = absurd (omega (arith, length-drop i xs, ap length e))
    go (x ∷ later) e = (x, (later, e))

take_more : {A : Type 0} (i : ℕ) (xs later : List A) (x : A) → drop i xs ≡ x ∷ later → take (i + 1) xs ≡ take i xs ++ (x ∷ [])
take_more zero [] later x e = absurd (let z : ◌≡◌ {A = ℕ} 0 1 = cc in omega arith)
take_more zero (y ∷ xs) later x e = let z : y ≡ x = cc in rw z
take_more (suc i) [] later x e = absurd (let z : ◌≡◌ {A = ℕ} 0 1 = cc in omega arith)
take_more {A = A} (suc i) (y ∷ xs) later x e = let n : suc i + 1 ≡ suc (i + 1) = omega arith in rw n (ap (λ (t : List A). y ∷ t) (take_more i xs later x e))

index_append : (w o : ℕ) (c : Fault) (j q : ℕ) (xs : List Rule) (x : Rule) → index_write w o c (rule Studio) j q (xs ++ (x ∷ [])) ≡ index_write w o c (rule Studio) j q xs ++ spelt w (o + (q + length (each_write (rule Studio) j xs)))
unfolding index_write each_write
index_append w o c j q [] x = rw (append-nil, add-zero)
index_append w o c j q (y ∷ xs) x =
    let l = length ((rule Studio j).write y) in
    let e : q + l + length (each_write (rule Studio) (j + 1) xs) ≡ q + (length ((rule Studio j).write y ++ each_write (rule Studio) (j + 1) xs)) = omega (arith, length-append ((rule Studio j).write y) (each_write (rule Studio) (j + 1) xs)) in
    rw (index_append w o c (j + 1) (q + l) xs x, e, append_assoc)

module _ (m i p : ℕ) (y z z₁ : List ℕ) where
  -- the next offset is put, and its rule stands there
  module _ (k : Product) (xs : List Rule) (P : List ℕ) (d : List ℕ) (hi : ℕ) (lp : length P ≡ 7) (em : m ≡ length xs) (f : AllFit (rule k) 0 xs) (l : i < m) (o : Put P xs d hi m i p z) (e : z₁ ≡ put_in z (7 + 4 * i) (spelt 4 p)) where
    put_next : Holds z₁ ((P ++ up_to m i xs) ++ (spelt 4 p ++ (drop 4 o.rest ++ rules 0 xs))) hi d
    put_next =
        let I = up_to m i xs in
        let t : length (take i xs) ≡ i = length-take-le i xs (omega arith) in
        let n : length (P ++ I) ≡ 7 + 4 * i = omega (arith, length-append P I, index_long 4 7 Fault.Offset (rule Studio) 0 (4 * m) (take i xs), lp, t) in
        let r : take 4 o.rest ++ drop 4 o.rest ≡ o.rest = take-append-drop 4 o.rest in
        let j : P ++ (I ++ (o.rest ++ rules 0 xs)) ≡ (P ++ I) ++ (take 4 o.rest ++ (drop 4 o.rest ++ rules 0 xs)) = sym (append_assoc P I (o.rest ++ rules 0 xs)) ∙ ap (λ (u : List ℕ). (P ++ I) ++ u) (ap (λ (u : List ℕ). u ++ rules 0 xs) (sym r) ∙ append_assoc (take 4 o.rest) (drop 4 o.rest) (rules 0 xs)) in
        let q : length (take 4 o.rest) ≡ 4 = length-take-le 4 o.rest (omega (arith, o.long)) in
        holds_put (P ++ I) (take 4 o.rest) (drop 4 o.rest ++ rules 0 xs) (spelt 4 p) o.holds j n (q ∙ sym (length_spelt 4 p)) e

    -- as it is with one offset more
    upto_next : (x : Rule) (later : List Rule) → drop i xs ≡ x ∷ later → up_to m (i + 1) xs ≡ up_to m i xs ++ spelt 4 p
    unfolding rules
    upto_next x later h =
        let a : 7 + (4 * m + length (each_write (rule Studio) 0 (take i xs))) ≡ p = omega (arith, o.starts) in
        ap (index_write 4 7 Fault.Offset (rule Studio) 0 (4 * m)) (take_more i xs later x h) ∙ index_append 4 7 Fault.Offset 0 (4 * m) (take i xs) x ∙ rw a

    stands : (x : Rule) (later : List Rule) → drop i xs ≡ x ∷ later → Held (rule k i) z₁ p x
    unfolding laid AllFit
    stands x later h =
        let I = up_to m i xs in
        let N = spelt 4 p in
        let D = drop 4 o.rest in
        let A = rules 0 (take i xs) in
        let W = (rule k i).write x in
        let L = rules (i + 1) later in
        let Y = (P ++ I) ++ (N ++ (D ++ rules 0 xs)) in
        let u = L ++ (zeros (hi - length Y) ++ drop hi d) in
        let B = ((P ++ I) ++ (N ++ D)) ++ A in
        let r : rules 0 xs ≡ A ++ (W ++ L) = rules_before i xs later x h (omega arith) ∙ rw (rules_first k i x) in
        let y : Y ≡ B ++ (W ++ L) = ap (λ (t : List ℕ). (P ++ I) ++ (N ++ (D ++ t))) r ∙ simp append_assoc in
        let e : z₁ ≡ B ++ (W ++ u) = put_next.is ∙ ap (λ (t : List ℕ). t ++ (zeros (hi - length Y) ++ drop hi d)) y ∙ simp append_assoc in
        let t : length (take i xs) ≡ i = length-take-le i xs (omega arith) in
        let li = index_long 4 7 Fault.Offset (rule Studio) 0 (4 * m) (take i xs) in
        let n : length B ≡ p = omega (arith, length-append ((P ++ I) ++ (N ++ D)) A, length-append (P ++ I) (N ++ D), length-append P I, length-append N D, length_spelt 4 p, length-drop 4 o.rest, o.long, o.starts, lp, t, li) in
        let g : AllFit (rule k) (0 + i) (x ∷ later) = rw h at (all_drop (rule k) 0 i xs f) in
        let fi : (rule k i).Fit x = rw zero-add at g.0 in
        (u, record { fit = fi; is = ap (drop p) e ∙ drop_at B (W ++ u) p n })

    put_more : (x : Rule) (later : List Rule) → drop i xs ≡ x ∷ later → (q : ℕ) → q ≡ p + rule_bytes k i x → Put P xs d hi m (i + 1) q z₁
    put_more x later h q eq =
        let I = up_to m i xs in
        let N = spelt 4 p in
        let D = drop 4 o.rest in
        let j : (P ++ I) ++ (N ++ (D ++ rules 0 xs)) ≡ P ++ (up_to m (i + 1) xs ++ (D ++ rules 0 xs)) = rw (upto_next x later h) (simp append_assoc) in
        let t : length (take i xs) ≡ i = length-take-le i xs (omega arith) in
        let a : rules 0 (take (i + 1) xs) ≡ rules 0 (take i xs) ++ rules i (x ∷ []) = rw (take_more i xs later x h) (rules_append 0 (take i xs) (x ∷ []) ∙ rw (t, zero-add)) in
        let b : length (rules i (x ∷ [])) ≡ rule_bytes k i x = one i x in
        record {
          rest = D;
          long = omega (arith, length-drop 4 o.rest, o.long);
          holds = rw j at put_next;
          starts = omega (arith, eq, o.starts, ap length a, length-append (rules 0 (take i xs)) (rules i (x ∷ [])), b);
        }
      where
        one : (i : ℕ) (x : Rule) → length (rules i (x ∷ [])) ≡ rule_bytes k i x
        one i x = ap length (rules_one k i x)

  pub puts_go : {r : Read} {q v : ℕ} → i < m → Puts m i p y z → z₁ ≡ put_in z (7 + 4 * i) (spelt 4 p) → Follows z₁ p r → r ≡ Ok (q, v) → Puts m (i + 1) q y z₁
  unfolding Puts Where
  puts_go {q = q} l w e g h k xs P G d hi lp lg em f s =
      let o = w k xs P G d hi lp lg em f s in
      let x = next_rule i xs (omega arith) in
      put_more k xs P d hi lp em f l o e x.0 x.1.0 x.1.1 q (follows_got z₁ p g k i h x.0 (stands k xs P d hi lp em f l o e x.0 x.1.0 x.1.1))

  pub puts_never : (u : List ℕ) {r : Read} {why : Refusal} → i < m → Puts m i p y z → z₁ ≡ put_in z (7 + 4 * i) (spelt 4 p) → Follows z₁ p r → r ≡ Err why → Offsets m y u
  unfolding Puts Offsets
  puts_never u l w e g h k xs P G d hi few lp lg em f s =
      let o = w k xs P G d hi lp lg em f s in
      let x = next_rule i xs (omega arith) in
      follows_never z₁ p g k i h x.0 (stands k xs P d hi lp em f l o e x.0 x.1.0 x.1.1)

pub puts_done : (m i p : ℕ) (y z : List ℕ) → m ≤ i → i ≤ m → Puts m i p y z → Offsets m y z
unfolding Puts Offsets
puts_done m i p y z l l' w k xs P G d hi few lp lg em f s =
    let o = w k xs P G d hi lp lg em f s in
    let e : i ≡ m = omega arith in
    let n : length o.rest ≡ 0 = omega (arith, o.long) in
    let r : o.rest ≡ [] = none o.rest n in
    rw (r, e) at o.holds
  where
    none : (t : List ℕ) → length t ≡ 0 → t ≡ []
    none [] e = refl
    none (x ∷ t) e = absurd (omega arith)

pub offsets_many : (m : ℕ) (y : List ℕ) → 256 < m → Offsets m y y
unfolding Offsets
offsets_many m y l k xs P G d hi few lp lg em f s = absurd (omega arith)

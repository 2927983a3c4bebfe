-- Where rule k of a sound deck starts: in version 2 its offset says it, in version 1 the rules before it are stepped over.
use Rattle.std.specs.Prelude.{ℕ, zero, suc, ◌+◌, ◌*◌, ◌≤◌, ◌<◌, ◌≡◌, take, drop, Ok, Err}
use Rattle.std.proofs.Common.{add-zero, mul-suc, mul-zero, ◌∙◌}
use native.Mathlib.Omega.{arith}
use Rattle.std.proofs.Math.Path.{sym, ap}
use mathlib.Core.List.{List, [], ◌∷◌, ◌++◌, append_assoc}
use Rattle.std.proofs.Math.ListN.{length, length-append}
use Rattle.std.proofs.Math.Seq.{drop_at}
use Rattle.format.specs.declared.Fault.{Fault}
use Rattle.format.specs.Laws.Answers.{Read}
use Rattle.format.specs.declared.Refusal.{Refusal}
use Rattle.format.specs.Format.{Format}
use Rattle.format.specs.ReadWrite.{spelt, each_write}
use Rattle.format.specs.Laws.ReadWrite.{length_spelt}
use Rattle.format.specs.Combinators.{number}
use Rattle.format.specs.Index.{index_write}
use Rattle.format.specs.Row.{start_in}
use Rattle.format.specs.Laws.Seen.{ok_parts, seen, itself, unlike, got_at}
use Rattle.format.specs.Laws.Written.{Held, behind}
use Rattle.format.specs.Laws.Back.{back_got, back_no}
use Rattle.kind.specs.declared.Product.{Product}
use Rattle.kind.specs.declared.Product.TheVariants.{Studio}
use Rattle.rule.specs.Rule.{Rule, rule}
use Rattle.deck.specs.Deck.{wide, base_of}
use Rattle.deck.specs.Laws.Deck.{wide_two, deck_small}
use Rattle.deck.specs.Written.{deck_of, start_of}
use Rattle.deck.specs.Laws.Written.{rules, opening, opening_long, index, lead, written_is}
use Rattle.steps.specs.Laws.Steps.{Sound, Reached, reached_is, start_within}

-- ---- what stands in an index: offset k is where value k starts
offset_nth : {A : Type 0} (w origin : ℕ) (c : Fault) (a : ℕ → Format A) (s : List ℕ) (at i p k : ℕ) (xs : List A) (u : List ℕ) → drop at s ≡ index_write w origin c a i p xs ++ u → k < length xs
    → (t : List ℕ) × (drop (at + w * k) s ≡ spelt w (origin + (p + length (each_write a i (take k xs)))) ++ t)
unfolding index_write each_write
offset_nth w origin c a s at i p k [] u e l = absurd (omega arith)
offset_nth w origin c a s at i p zero (x ∷ xs) u e l =
    let N = spelt w (origin + p) in
    let I = index_write w origin c a (i + 1) (p + length ((a i).write x)) xs in
    (I ++ u, rw (mul-zero, add-zero at, add-zero p) (e ∙ append_assoc N I u))
offset_nth w origin c a s at i p (suc k) (x ∷ xs) u e l =
    let N = spelt w (origin + p) in
    let m = length ((a i).write x) in
    let I = index_write w origin c a (i + 1) (p + m) xs in
    let E = each_write a (i + 1) (take k xs) in
    let h = offset_nth w origin c a s (at + length N) (i + 1) (p + m) k xs u (behind s at N (I ++ u) (e ∙ append_assoc N I u)) (omega arith) in
    let j : at + length N + w * k ≡ at + w * suc k = omega (arith, mul-suc w k, length_spelt w (origin + p)) in
    let z : origin + (p + m + length E) ≡ origin + (p + length ((a i).write x ++ E)) = omega (arith, length-append ((a i).write x) E) in
    (h.0, rw (j, z) at h.1)

-- ---- of a sound deck
module _ (p : Product) (v : ℕ) (s : List ℕ) (rs : List Rule) (o : Sound p v s rs) where
  -- the offsets stand behind the number of rules
  index_stands : drop 7 s ≡ index v rs ++ rules 0 rs
  unfolding lead
  index_stands =
      let C = spelt 2 (length rs) in
      let a : s ≡ (opening v ++ C) ++ (index v rs ++ rules 0 rs) = o.is ∙ written_is v rs ∙ simp append_assoc in
      ap (drop 7) a ∙ drop_at (opening v ++ C) (index v rs ++ rules 0 rs) 7 (omega (arith, length-append (opening v) C, opening_long v, length_spelt 2 (length rs)))

  -- that of rule k is where it starts
  offset_at : (k : ℕ) → k < length rs → (t : List ℕ) × (drop (7 + wide v * k) s ≡ spelt (wide v) (start_of v rs k) ++ t)
  unfolding index start_of start_in base_of
  offset_at k l =
      let h = offset_nth (wide v) 7 Fault.Offset (rule Studio) s 7 0 (wide v * length rs) k rs (rules 0 rs) index_stands l in
      let E = each_write (rule Studio) 0 (take k rs) in
      let z : 7 + (wide v * length rs + length E) ≡ 7 + wide v * length rs + length E = omega arith in
      (h.0, rw z at h.1)

  offset_stands : (k : ℕ) → v ≡ 2 → k < length rs → Held (number 4) s (7 + 4 * k) (start_of v rs k)
  unfolding number
  offset_stands k e l =
      let h : (t : List ℕ) × (drop (7 + 4 * k) s ≡ spelt 4 (start_of v rs k) ++ t) = rw (← wide_two e) at (offset_at k l) in
      (h.0, record { fit = omega (arith, start_within p v s rs k o, o.short); is = h.1 })

-- ---- as the code finds it

-- whatever rules a sound deck of that version has, which start at base, r tells where rule k starts
unfoldable pub Starts : List ℕ → ℕ → ℕ → ℕ → Read → Type 0
Starts s v base k r = (p : Product) (rs : List Rule) → Sound p v s rs → base ≡ base_of v (length rs) → k < length rs → r ≡ Ok (start_of v rs k, 0)

module _ (s : List ℕ) (v base k : ℕ) where
  -- the rules before it were stepped over
  pub starts_walked : (r : Read) → Reached s base k k r → Starts s v base k r
  unfolding Starts
  starts_walked r w p rs o e l = reached_is s base k k w p v rs o e (omega arith)

  -- z is what its offset was read as
  module _ {z : Read} (e : v ≡ 2) (f : z ≡ seen itself (number 4) s (7 + 4 * k)) where
    pub starts_unread : (r : Read) {why : Refusal} → z ≡ Err why → Starts s v base k r
    unfolding Starts
    starts_unread r h p rs o b l = back_no itself (number 4) s (7 + 4 * k) (offset_stands p v s rs o k e l).1 f h

    pub starts_offset : {at q : ℕ} → z ≡ Ok (q, at) → Starts s v base k (Ok (at, 0))
    unfolding Starts
    starts_offset h p rs o b l = got_at (back_got itself (number 4) s (7 + 4 * k) (offset_stands p v s rs o k e l).1 f h).0

  -- no deck has 257 rules
  pub starts_none : (r : Read) → 256 ≤ k → Starts s v base k r
  unfolding Starts
  starts_none r h p rs o b l = absurd (omega (arith, deck_small p (deck_of v rs) o.fit))

  -- r is what was told
  module _ {r : Read} (w : Starts s v base k r) (p : Product) (rs : List Rule) (o : Sound p v s rs) (b : base ≡ base_of v (length rs)) (l : k < length rs) where
    pub starts_is : {u at : ℕ} → r ≡ Ok (at, u) → at ≡ start_of v rs k
    unfolding Starts
    starts_is h = (ok_parts (sym h ∙ w p rs o b l)).0

    pub starts_never : {B : Type 0} {why : Refusal} → r ≡ Err why → B
    unfolding Starts
    starts_never h = unlike (w p rs o b l) h

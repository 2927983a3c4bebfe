-- A row behind its index, as the code reads it: the offsets, then one value after the other, each judged by its offset first.
use Prim.Native.Nat.{ℕ, zero, suc, ◌+◌, ◌-◌, ◌*◌, ◌^◌, ◌≤◌, ◌<◌}
use Rattle.std.proofs.Math.Nat.{add-zero, zero-add, mul-suc}
use native.Mathlib.Omega.{arith}
use Rattle.std.proofs.Math.Path.{◌≡◌, refl, sym, ap}
use Rattle.std.proofs.Common.{◌∙◌, Ok, Err}
use Rattle.std.specs.Prelude.{Bool, true, false, eqb, take}
use mathlib.Core.List.{List, [], ◌∷◌, ◌++◌}
use Rattle.std.proofs.Math.ListN.{length, drop, length-drop}
use Rattle.std.proofs.Math.Seq.{drop-drop}
use Rattle.format.specs.declared.Fault.{Fault}
use Rattle.format.specs.Laws.Answers.{Read}
use Rattle.format.specs.declared.Refusal.{Refusal}
use Rattle.format.specs.declared.Refusal.TheVariants.{At}
use Rattle.format.specs.Format.{got, refused, mapped, pick, Format}
use Rattle.format.specs.ReadWrite.{value, spelt, each_read}
use Rattle.format.specs.Combinators.{number, each}
use Rattle.format.specs.Row.{total}
use Rattle.format.specs.Index.{onward, values_read, indexed_read, index_write}
use Rattle.format.specs.Indexed.{indexed}
use Rattle.format.specs.Laws.Index.{offsets_there, indexed_long}
use Rattle.format.specs.Laws.Seen.{told, seen, itself, ok_parts, unlike, told_got, told_why, told_mapped}
use Rattle.format.specs.Laws.ReadWrite.{value_spelt}
use Rattle.format.specs.Laws.Rows.{added, told_added, number_there}

-- whether the offset of value i is p, the index standing at `origin` of the slice
unfoldable pub offset_is : ℕ → ℕ → List ℕ → ℕ → ℕ → Bool
offset_is w origin s i p = eqb (value (take w (drop (w * i) (drop origin s)))) (value (spelt w p))

module _ {A : Type 0} (g : A → ℕ) (w origin : ℕ) (c : Fault) (a : ℕ → Format A) (s : List ℕ) (n : ℕ) where
  -- what is told of the values from place i on, the first at p of the slice
  unfoldable pub telling : ℕ → ℕ → Read
  telling i p = told origin (total g) (values_read w origin c a (drop origin s) i (n - i) (p - origin))

  pub index_stop : (h : List ℕ → ℕ) {r : Read} {why : Refusal} → r ≡ seen h (each (λ i. number w) 0 n) s origin → r ≡ Err why → r ≡ seen (total g) (indexed w origin c a n) s origin
  unfolding seen each indexed indexed_read onward told
  index_stop h e k = let o = told_why origin h (each_read (λ i. number w) 0 n (drop origin s)) e k in rw (o.is, zero-add, ← o.ends) k

  pub index_start : (h : List ℕ → ℕ) {r : Read} {m u : ℕ} → r ≡ seen h (each (λ i. number w) 0 n) s origin → r ≡ Ok (m, u) → (m ≡ origin + w * n) × ((w * n ≤ length s - origin) × (telling 0 m ≡ seen (total g) (indexed w origin c a n) s origin))
  unfolding seen each indexed indexed_read onward telling
  index_start h {m = m} e k =
      let o = told_got origin h (each_read (λ i. number w) 0 n (drop origin s)) e k in
      let t = offsets_there w origin c a n (drop origin s) o.x o.n o.is in
      let z : n - 0 ≡ n = omega arith in
      let q : m - origin ≡ 0 + o.n = omega (arith, o.ends) in
      (omega (arith, o.ends, t.0), (omega (arith, t.1, length-drop origin s), rw (o.is, z, q)))

  module _ (i p : ℕ) (l : origin ≤ p) where
    pub values_done : n ≤ i → telling i p ≡ Ok (p, 0)
    unfolding telling values_read told total
    values_done h =
        let z : n - i ≡ 0 = omega arith in
        let q : origin + (p - origin) ≡ p = omega arith in
        rw (z, q)

    turn : i < n → telling i p ≡ told origin (total g) (pick (offset_is w origin s i p) (onward (p - origin) ((a i).read (drop p s)) (λ x q. mapped (λ xs. x ∷ xs) (values_read w origin c a (drop origin s) (i + 1) (n - (i + 1)) q))) (refused c (w * i)))
    unfolding telling values_read offset_is
    turn h =
        let z : n - i ≡ suc (n - (i + 1)) = omega arith in
        let q : origin + (p - origin) ≡ p = omega arith in
        let d : drop (p - origin) (drop origin s) ≡ drop p s = drop-drop (p - origin) origin s ∙ ap (λ (m : ℕ). drop m s) q in
        rw (z, q, d)

    pub values_off : i < n → offset_is w origin s i p ≡ false → telling i p ≡ Err (At c (origin + w * i))
    unfolding pick told
    values_off h b = turn h ∙ rw b

    module _ (b : offset_is w origin s i p ≡ true) (h : i < n) {r : Read} (e : r ≡ seen g (a i) s p) where
      pub values_stop : {why : Refusal} → r ≡ Err why → telling i p ≡ r
      unfolding seen pick onward told
      values_stop k =
          let o = told_why p g ((a i).read (drop p s)) e k in
          let q : origin + (p - origin + o.o) ≡ p + o.o = omega arith in
          turn h ∙ rw (b, o.is, q, ← o.ends) (sym k)

      pub values_go : {q v : ℕ} → r ≡ Ok (q, v) → (p ≤ q) × (telling i p ≡ added v (telling (i + 1) q))
      unfolding seen pick onward telling total
      values_go {q} {v} k =
          let o = told_got p g ((a i).read (drop p s)) e k in
          let z : p - origin + o.n ≡ q - origin = omega (arith, o.ends) in
          let rest = values_read w origin c a (drop origin s) (i + 1) (n - (i + 1)) (q - origin) in
          (omega (arith, o.ends), turn h ∙ rw (b, o.is, z) (told_mapped origin (total g) (λ xs. o.x ∷ xs) rest ∙ ap (λ (u : ℕ). told origin (λ xs. u + total g xs) rest) (sym o.tells) ∙ told_added origin v (total g) rest))

-- a row that was read has as many values as it was asked for
pub indexed_many : {A : Type 0} (w origin : ℕ) (c : Fault) (a : ℕ → Format A) (n : ℕ) (s : List ℕ) (xs : List A) (m : ℕ) → (indexed w origin c a n).read s ≡ got xs m → length xs ≡ n
unfolding indexed
indexed_many w origin c a n s xs m e = indexed_long w origin c a n s xs m e

-- an offset as the code reads it
module _ (w origin : ℕ) (s : List ℕ) (i : ℕ) {o : Read} (e : o ≡ seen itself (number w) s (origin + w * i)) where
  offset_there : w * (i + 1) ≤ length s - origin → o ≡ Ok (origin + w * i + w, value (take w (drop (w * i) (drop origin s))))
  unfolding seen told
  offset_there h =
      let d = drop-drop (w * i) origin s in
      let t : w ≤ length (drop (w * i) (drop origin s)) = omega (arith, length-drop (w * i) (drop origin s), length-drop origin s, mul-suc w i) in
      e ∙ rw (← d, number_there w (drop (w * i) (drop origin s)) t)

  pub offset_never : {B : Type 0} {why : Refusal} → w * (i + 1) ≤ length s - origin → o ≡ Err why → B
  offset_never h k = unlike (offset_there h) k

  pub offset_is_lem : (p : ℕ) {m x : ℕ} → w * (i + 1) ≤ length s - origin → p < 256 ^ w → o ≡ Ok (m, x) → eqb x p ≡ offset_is w origin s i p
  unfolding offset_is
  offset_is_lem p {m} {x} h l k =
      let u : ◌≡◌ {A = Read} (Ok (m, x)) (Ok (origin + w * i + w, value (take w (drop (w * i) (drop origin s))))) = sym k ∙ offset_there h in
      let y : x ≡ value (take w (drop (w * i) (drop origin s))) = (ok_parts u).1 in
      rw (value_spelt w p l, ← y)

-- an offset of no bytes is every place
pub no_offset : (origin : ℕ) (s : List ℕ) (i p : ℕ) → offset_is 0 origin s i p ≡ true
unfolding offset_is value spelt
no_offset origin s i p = refl

-- ---- the index as it is written
module _ {A : Type 0} (w origin : ℕ) (c : Fault) where
  -- alike where the values are as long
  pub index_alike : (a b : ℕ → Format A) (i p : ℕ) (xs : List A) → ((n : ℕ) (x : A) → length ((a (i + n)).write x) ≡ length ((b (i + n)).write x)) → index_write w origin c a i p xs ≡ index_write w origin c b i p xs
  unfolding index_write
  index_alike a b i p [] h = refl
  index_alike a b i p (x ∷ xs) h =
      let e : length ((a i).write x) ≡ length ((b i).write x) = rw add-zero at (h 0 x) in
      let k : (n : ℕ) (y : A) → length ((a (i + 1 + n)).write y) ≡ length ((b (i + 1 + n)).write y) = λ n y. let z : i + (1 + n) ≡ i + 1 + n = omega arith in rw z at (h (1 + n) y) in
      ap (λ (t : List ℕ). spelt w (origin + p) ++ t) (ap (λ (l : ℕ). index_write w origin c a (i + 1) (p + l) xs) e ∙ index_alike a b (i + 1) (p + length ((b i).write x)) xs k)

  -- the same where a value becomes one as long, or the last becomes another
  pub index_kept : (a : ℕ → Format A) (i p k : ℕ) (xs later : List A) (x y : A) → drop k xs ≡ x ∷ later → (0 < length later → length ((a (i + k)).write y) ≡ length ((a (i + k)).write x)) → index_write w origin c a i p (take k xs ++ (y ∷ later)) ≡ index_write w origin c a i p xs
  unfolding index_write
  index_kept a i p zero [] later x y e h = absurd (let z : ◌≡◌ {A = ℕ} 0 1 = cc in omega arith)
  index_kept a i p zero (z ∷ xs) [] x y e h = let j : xs ≡ [] = cc in rw j
  index_kept a i p zero (z ∷ xs) (u ∷ later) x y e h =
      let j : xs ≡ u ∷ later = cc in
      let k : z ≡ x = cc in
      let l : length ((a i).write y) ≡ length ((a i).write x) = rw add-zero at (h (omega arith)) in
      rw (j, k, l)
  index_kept a i p (suc k) [] later x y e h = absurd (let z : ◌≡◌ {A = ℕ} 0 1 = cc in omega arith)
  index_kept a i p (suc k) (z ∷ xs) later x y e h =
      let j : i + suc k ≡ i + 1 + k = omega arith in
      ap (λ (t : List ℕ). spelt w (origin + p) ++ t) (index_kept a (i + 1) (p + length ((a i).write z)) k xs later x y e (rw j at h))

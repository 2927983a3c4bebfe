-- Laws of ../Index.antt: what is written is read back, what is read was written so, and it ends within the list.
use Prim.Native.Nat.{ℕ, zero, suc, ◌+◌, ◌*◌, ◌≤◌}
use Rattle.std.proofs.Math.Nat.{add-zero, zero-add, mul-suc, mul-zero}
use Rattle.std.proofs.Common.{mul-le-mul_left, ◌∙◌, take_all, drop-drop, eq-eqb, eqb-true}
use native.Mathlib.Omega.{arith}
use Rattle.std.proofs.Math.Decide.{dec_lt}
use Rattle.std.specs.Prelude.{◌≡◌, Bool}
use Rattle.std.proofs.Math.Path.{refl, sym, ap}
use Rattle.std.proofs.Math.Bool.{true, false}
use mathlib.Core.List.{List, [], ◌∷◌, ◌++◌, append_assoc, append-nil}
use Rattle.std.proofs.Math.ListN.{length, take, drop, length-append, length-drop}
use Rattle.std.proofs.Math.Dec.{eqb}
use Rattle.std.proofs.Math.Seq.{take_at}
use Rattle.format.specs.declared.Fault.{Fault}
use Rattle.format.specs.Format.{Answer, got, refused, mapped, pick, end_of, Bytes, Found, Format}
use Rattle.format.specs.Laws.Format.{apart, bytes_drop, bytes_append, mapped_got, end_mapped}
use Rattle.format.specs.ReadWrite.{value, spelt, each_read, each_write, AllFit, EachFit}
use Rattle.format.specs.Laws.ReadWrite.{length_spelt, bytes_spelt, each_inside, each_spells}
use Rattle.format.specs.Combinators.{number}
use Rattle.format.specs.Laws.Rows.{row_there, row_cut, number_there}
use Rattle.format.specs.Laws.Written.{behind}
use Rattle.format.specs.Index.{onward, values_read, indexed_read, index_write, indexed_write}

-- read on, taken apart
record Onward {A B : Type 0} (p : ℕ) (q : Answer A) (k : A → ℕ → Answer B) (y : B) (m : ℕ) : Type 0 where
  pub x : A
  pub n : ℕ
  pub first : q ≡ got x n
  pub rest : k x (p + n) ≡ got y m

onward_got : {A B : Type 0} (p : ℕ) (q : Answer A) (k : A → ℕ → Answer B) (y : B) (m : ℕ) → onward p q k ≡ got y m → Onward p q k y m
unfolding onward
onward_got p (got x n) k y m e = record { x = x; n = n; first = refl; rest = e }
onward_got p (refused c q) k y m e = apart (sym e)

onward_end : {A B : Type 0} (s : List ℕ) (p : ℕ) (q : Answer A) (k : A → ℕ → Answer B) → p + end_of q ≤ length s → ((x : A) (m : ℕ) → m ≤ length s → end_of (k x m) ≤ length s) → end_of (onward p q k) ≤ length s
unfolding onward end_of
onward_end s p (got x n) k h f = f x (p + n) h
onward_end s p (refused c q) k h f = h

-- bytes that spell what a number's w bytes spell are these
spelt_is : (w q : ℕ) (t : List ℕ) → Bytes t → w ≤ length t → value (take w t) ≡ value (spelt w q) → t ≡ spelt w q ++ drop w t
unfolding number
spelt_is w q t b h e =
    let l = length_spelt w q in
    let f = ((number w).forth t (value (take w t)) w b (number_there w t h)).is in
    let g = ((number w).forth (spelt w q) (value (take w (spelt w q))) w (bytes_spelt w q) (number_there w (spelt w q) (omega arith))).is in
    let i : take w (spelt w q) ≡ spelt w q = take_all w (spelt w q) (omega arith) in
    let z : drop w (spelt w q) ≡ [] = drop_none w (spelt w q) l in
    let j : spelt w q ≡ spelt w (value (spelt w q)) = (rw (z, append-nil, i) at g) in
    f ∙ ap (λ (v : ℕ). spelt w v ++ drop w t) e ∙ ap (λ (u : List ℕ). u ++ drop w t) (sym j)
  where
    drop_none : (k : ℕ) (u : List ℕ) → length u ≡ k → drop k u ≡ []
    drop_none zero [] e = refl
    drop_none zero (x ∷ u) e = absurd (omega arith)
    drop_none (suc k) [] e = refl
    drop_none (suc k) (x ∷ u) e = drop_none k u (omega arith)

module _ {A : Type 0} (w origin : ℕ) (c : Fault) (a : ℕ → Format A) where
  pub index_long : (i p : ℕ) (xs : List A) → length (index_write w origin c a i p xs) ≡ w * length xs
  unfolding index_write
  index_long i p [] = sym (mul-zero w)
  index_long i p (x ∷ xs) =
      let q = p + length ((a i).write x) in
      omega (arith, length-append (spelt w (origin + p)) (index_write w origin c a (i + 1) q xs), length_spelt w (origin + p), index_long (i + 1) q xs, mul-suc w (length xs))

  index_spells : (i p : ℕ) (xs : List A) → Bytes (index_write w origin c a i p xs)
  unfolding index_write Bytes
  index_spells i p [] = tt
  index_spells i p (x ∷ xs) = bytes_append (spelt w (origin + p)) _ (bytes_spelt w (origin + p)) (index_spells (i + 1) (p + length ((a i).write x)) xs)

  -- the next offset
  next : (i : ℕ) → w * i + w ≡ w * (i + 1)
  next i = omega (arith, mul-suc w i)

  before_next : (i k : ℕ) → w * (i + 1) ≤ w * (i + suc k)
  before_next i k = mul-le-mul_left w (omega arith)

  -- the offsets are there where they could be read
  pub offsets_there : (n : ℕ) (s os : List ℕ) (q : ℕ) → each_read (λ i. number w) 0 n s ≡ got os q → (q ≡ w * n) × (w * n ≤ length s)
  offsets_there n s os q e =
      elim (dec_lt (length s) (w * n)) [
        | yes l ↦ apart (sym e ∙ (row_cut w 0 n s l).is)
        | no l ↦ let r = row_there w 0 n s (omega arith) in let z : got r.xs (w * n) ≡ got os q = sym r.is ∙ e in ((cc), omega arith)
      ]

  -- ---- written, then read
  values_back : (s : List ℕ) (i p : ℕ) (xs : List A) (u t : List ℕ) → drop (w * i) s ≡ index_write w origin c a i p xs ++ u → drop p s ≡ each_write a i xs ++ t → AllFit a i xs → values_read w origin c a s i (length xs) p ≡ got xs (p + length (each_write a i xs))
  unfolding values_read index_write each_write AllFit pick onward mapped
  values_back s i p [] u t e d f = rw add-zero
  values_back s i p (x ∷ xs) u t e d f =
      let l = length ((a i).write x) in
      let N = spelt w (origin + p) in
      let I = index_write w origin c a (i + 1) (p + l) xs in
      let E = each_write a (i + 1) xs in
      let e' : drop (w * i) s ≡ N ++ (I ++ u) = e ∙ append_assoc N I u in
      let d' : drop p s ≡ (a i).write x ++ (E ++ t) = d ∙ append_assoc ((a i).write x) E t in
      let b : take w (drop (w * i) s) ≡ N = ap (take w) e' ∙ take_at N (I ++ u) w (length_spelt w (origin + p)) in
      let y : (a i).read (drop p s) ≡ got x l = ap (a i).read d' ∙ (a i).back x (E ++ t) f.0 in
      let n : w * i + length N ≡ w * (i + 1) = omega (arith, length_spelt w (origin + p), next i) in
      let h = values_back s (i + 1) (p + l) xs u t (rw n at (behind s (w * i) N (I ++ u) e')) (behind s p ((a i).write x) (E ++ t) d') f.1 in
      rw (eq-eqb (value (take w (drop (w * i) s))) (value N) (ap value b), y, h) (ap (got (x ∷ xs)) (omega (arith, length-append ((a i).write x) E)))

  -- ---- read, then written
  record Values (s : List ℕ) (i k p : ℕ) (xs : List A) (m : ℕ) : Type 0 where
    pub many : length xs ≡ k
    pub fit : AllFit a i xs
    pub index : drop (w * i) s ≡ index_write w origin c a i p xs ++ drop (w * (i + k)) s
    pub values : drop p s ≡ each_write a i xs ++ drop m s
    pub ends : m ≡ p + length (each_write a i xs)

  values_more : (s : List ℕ) (i k p l : ℕ) (x : A) (xs : List A) (m : ℕ) → (a i).Fit x → l ≡ length ((a i).write x) → drop (w * i) s ≡ spelt w (origin + p) ++ drop (w * (i + 1)) s → drop p s ≡ (a i).write x ++ drop (p + l) s → Values s (i + 1) k (p + l) xs m → Values s i (suc k) p (x ∷ xs) m
  unfolding index_write each_write AllFit
  values_more s i k p l x xs m f el e d v =
      let j : i + 1 + k ≡ i + suc k = omega arith in
      record {
        many = ap suc v.many;
        fit = (f, v.fit);
        index = e ∙ ap (λ (t : List ℕ). spelt w (origin + p) ++ t) (rw (j, el) at v.index) ∙ sym (append_assoc (spelt w (origin + p)) _ _);
        values = d ∙ ap (λ (t : List ℕ). (a i).write x ++ t) v.values ∙ sym (append_assoc ((a i).write x) _ _);
        ends = v.ends ∙ omega (arith, length-append ((a i).write x) (each_write a (i + 1) xs));
      }

  values_none : (s : List ℕ) (i p : ℕ) (xs : List A) (m : ℕ) → got [] p ≡ got xs m → Values s i zero p xs m
  unfolding index_write each_write AllFit
  values_none s i p xs m e =
      let z : xs ≡ [] = cc in
      let q : m ≡ p = cc in
      rw (z, q) (record { many = refl; fit = tt; index = rw add-zero; values = refl; ends = omega arith })

  values_forth : (s : List ℕ) (i k p : ℕ) (xs : List A) (m : ℕ) → Bytes s → w * (i + k) ≤ length s → values_read w origin c a s i k p ≡ got xs m → Values s i k p xs m
  unfolding values_read pick
  values_forth s i zero p xs m bs l e = values_none s i p xs m e
  values_forth s i (suc k) p xs m bs l e = go (λ q ys h e. values_forth s (i + 1) k q ys m bs h e) (eqb (value (take w (drop (w * i) s))) (value (spelt w (origin + p)))) refl e
    where
      go : ((q : ℕ) (ys : List A) → w * (i + 1 + k) ≤ length s → values_read w origin c a s (i + 1) k q ≡ got ys m → Values s (i + 1) k q ys m) → (b : Bool) → eqb (value (take w (drop (w * i) s))) (value (spelt w (origin + p))) ≡ b → pick b (onward p ((a i).read (drop p s)) (λ x q. mapped (λ xs. x ∷ xs) (values_read w origin c a s (i + 1) k q))) (refused c (w * i)) ≡ got xs m → Values s i (suc k) p xs m
      go more false t h = apart (sym h)
      go more true t h =
          let o = onward_got p ((a i).read (drop p s)) _ xs m h in
          let q = p + o.n in
          let y = mapped_got (λ xs. o.x ∷ xs) (values_read w origin c a s (i + 1) k q) xs m o.rest in
          let j : i + 1 + k ≡ i + suc k = omega arith in
          let v = more q y.0 (rw j l) y.1.0 in
          let f = (a i).forth (drop p s) o.x o.n (bytes_drop p s bs) o.first in
          let u = spelt_is w (origin + p) (drop (w * i) s) (bytes_drop (w * i) s bs) (omega (arith, length-drop (w * i) s, next i, before_next i k)) (eqb-true _ _ t) in
          rw y.1.1 (values_more s i k p o.n o.x y.0 m f.fit f.ends (u ∙ ap (λ (t : List ℕ). spelt w (origin + p) ++ t) (drop-drop w (w * i) s ∙ ap (λ (n : ℕ). drop n s) (next i))) (f.is ∙ ap (λ (t : List ℕ). (a i).write o.x ++ t) (drop-drop o.n p s)) v)

  -- ---- within the list
  values_inside : (s : List ℕ) (i k p : ℕ) → p ≤ length s → w * (i + k) ≤ length s → end_of (values_read w origin c a s i k p) ≤ length s
  unfolding values_read end_of pick
  values_inside s i zero p h l = h
  values_inside s i (suc k) p h l = go (λ m d. values_inside s (i + 1) k m d (rw j l)) (eqb (value (take w (drop (w * i) s))) (value (spelt w (origin + p))))
    where
      j : i + 1 + k ≡ i + suc k
      j = omega arith

      go : ((m : ℕ) → m ≤ length s → end_of (values_read w origin c a s (i + 1) k m) ≤ length s) → (b : Bool) → end_of (pick b (onward p ((a i).read (drop p s)) (λ x q. mapped (λ xs. x ∷ xs) (values_read w origin c a s (i + 1) k q))) (refused c (w * i))) ≤ length s
      go more true = onward_end s p ((a i).read (drop p s)) _ (omega (arith, (a i).inside (drop p s), length-drop p s)) (λ x m d. rw end_mapped (more m d))
      go more false = omega (arith, next i, before_next i k)

  -- ---- the whole
  pub indexed_spells : (xs : List A) → Bytes (indexed_write w origin c a xs)
  unfolding indexed_write
  indexed_spells xs = bytes_append _ (each_write a 0 xs) (index_spells 0 (w * length xs) xs) (each_spells a 0 xs)

  pub indexed_back : (n : ℕ) (xs : List A) (t : List ℕ) → EachFit a 0 n xs → indexed_read w origin c a n (indexed_write w origin c a xs ++ t) ≡ got xs (length (indexed_write w origin c a xs))
  unfolding indexed_read indexed_write onward
  indexed_back n xs t f =
      let I = index_write w origin c a 0 (w * length xs) xs in
      let E = each_write a 0 xs in
      let s = (I ++ E) ++ t in
      let li = index_long 0 (w * length xs) xs in
      let e : drop (w * 0) s ≡ I ++ (E ++ t) = rw mul-zero (append_assoc I E t) in
      let m : w * 0 + length I ≡ w * length xs = omega (arith, li, mul-zero w) in
      let d : drop (w * length xs) s ≡ E ++ t = rw m at (behind s (w * 0) I (E ++ t) e) in
      let h = values_back s 0 (w * length xs) xs (E ++ t) t e d f.1 in
      let r = row_there w 0 n s (rw (← f.0) (omega (arith, li, length-append (I ++ E) t, length-append I E))) in
      rw (r.is, ← f.0, zero-add) (h ∙ ap (got xs) (omega (arith, li, length-append I E)))

  pub indexed_forth : (n : ℕ) (s : List ℕ) (xs : List A) (m : ℕ) → Bytes s → indexed_read w origin c a n s ≡ got xs m → Found (indexed_write w origin c a) (EachFit a 0 n) s xs m
  unfolding indexed_read indexed_write
  indexed_forth n s xs m bs e =
      let o = onward_got 0 (each_read (λ i. number w) 0 n s) _ xs m e in
      let t = offsets_there n s o.x o.n o.first in
      let q : 0 + o.n ≡ w * n = omega (arith, t.0) in
      let z : 0 + n ≡ n = zero-add n in
      let v = values_forth s 0 n (w * n) xs m bs (rw z t.1) (rw q at o.rest) in
      let I = index_write w origin c a 0 (w * n) xs in
      let E = each_write a 0 xs in
      let i : s ≡ I ++ drop (w * n) s = rw (mul-zero, z) at v.index in
      let j : index_write w origin c a 0 (w * length xs) xs ++ E ≡ I ++ E = ap (λ (k : ℕ). index_write w origin c a 0 (w * k) xs ++ E) v.many in
      record {
        is = i ∙ ap (λ (t : List ℕ). I ++ t) v.values ∙ sym (append_assoc I E (drop m s)) ∙ ap (λ (t : List ℕ). t ++ drop m s) (sym j);
        ends = v.ends ∙ omega (arith, ap length j, length-append I E, index_long 0 (w * n) xs, ap (λ (k : ℕ). w * k) v.many);
        fit = (v.many, v.fit);
      }

  -- a row that was read has as many values as it was asked for
  values_many : (s : List ℕ) (i k p : ℕ) (xs : List A) (m : ℕ) → values_read w origin c a s i k p ≡ got xs m → length xs ≡ k
  unfolding values_read pick
  values_many s i zero p xs m e = let z : xs ≡ [] = cc in rw z
  values_many s i (suc k) p xs m e = go (λ q ys h. values_many s (i + 1) k q ys m h) (eqb (value (take w (drop (w * i) s))) (value (spelt w (origin + p)))) e
    where
      go : ((q : ℕ) (ys : List A) → values_read w origin c a s (i + 1) k q ≡ got ys m → length ys ≡ k) → (b : Bool) → pick b (onward p ((a i).read (drop p s)) (λ x q. mapped (λ xs. x ∷ xs) (values_read w origin c a s (i + 1) k q))) (refused c (w * i)) ≡ got xs m → length xs ≡ suc k
      go more false h = apart (sym h)
      go more true h =
          let o = onward_got p ((a i).read (drop p s)) _ xs m h in
          let y = mapped_got (λ xs. o.x ∷ xs) (values_read w origin c a s (i + 1) k (p + o.n)) xs m o.rest in
          rw y.1.1 (ap suc (more (p + o.n) y.0 y.1.0))

  pub indexed_long : (n : ℕ) (s : List ℕ) (xs : List A) (m : ℕ) → indexed_read w origin c a n s ≡ got xs m → length xs ≡ n
  unfolding indexed_read
  indexed_long n s xs m e = let o = onward_got 0 (each_read (λ i. number w) 0 n s) _ xs m e in values_many s 0 n (0 + o.n) xs m o.rest

  pub indexed_inside : (n : ℕ) (s : List ℕ) → end_of (indexed_read w origin c a n s) ≤ length s
  unfolding indexed_read onward end_of
  indexed_inside n s = go (each_read (λ i. number w) 0 n s) refl (each_inside (λ i. number w) 0 n s)
    where
      go : (q : Answer (List ℕ)) → each_read (λ i. number w) 0 n s ≡ q → end_of q ≤ length s → end_of (onward 0 q (λ os p. values_read w origin c a s 0 n p)) ≤ length s
      go (got os m) e h = let t = offsets_there n s os m e in values_inside s 0 n (0 + m) (omega arith) (rw zero-add t.1)
      go (refused d m) e h = omega arith

-- That what ReadWrite.antt reads and writes keeps a format's laws: back, forth, inside. With them, laws of numbers, rows and fits.
use Prim.Native.Nat.{ℕ, zero, suc, ◌+◌, ◌*◌, ◌/◌, ◌%◌, ◌^◌, ◌≤◌, ◌<◌}
use native.Mathlib.Omega.{arith}
use Rattle.std.proofs.Math.Nat.{add-zero}
use Rattle.std.proofs.Common.{add_assoc, mul_comm, mul_assoc, pow-suc, div-lt_iff_lt-mul, ◌∙◌, length-drop, take-append-drop, take-add, drop-drop, drop-cons}
use Rattle.std.specs.Prelude.{◌≡◌, Bool, ◌&&◌, drop, get_or, eqb}
use Rattle.std.proofs.Math.Path.{refl, sym, ap}
use Rattle.std.proofs.Math.Bool.{true, false}
use mathlib.Core.List.{List, [], ◌∷◌, ◌++◌, append_assoc}
use Rattle.std.proofs.Math.ListN.{length, take, length-append}
use Rattle.std.proofs.Math.Seq.{drop-append_seam, take-append_seam, length-take-le}
use Rattle.std.proofs.Math.Dec.{leb}
use borrow.Author.Tests.{le-leb, lt-leb, leb-true, eqb-true, eqb-false}
use Rattle.format.specs.declared.Fault.{Fault}
use Rattle.format.specs.declared.Fault.TheVariants.{Cut}
use Rattle.format.specs.Format.{Answer, got, refused, shift, mapped, and_then, end_of, pick, Bytes, Found, Format}
use Rattle.format.specs.Laws.Format.{bytes_drop, bytes_take, bytes_append, apart, went, mapped_got, end_mapped, end_then}
use Rattle.format.specs.ReadWrite.{pair_read, pair_write, PairFit, judge, judge_of, JudgedFit, ViaFit, home, value, spelt, number_read, within, bit, each_read, each_write, AllFit, EachFit, weighed, WeighedFit}

-- two runs of bytes that were found one behind the other, as one
pub joined : {A B : Type 0} {v : A → List ℕ} {w : B → List ℕ} {P : A → Type 0} {Q : B → Type 0} (s : List ℕ) {x : A} {y : B} {n j m : ℕ}
    → Found v P s x n → Found w Q (drop n s) y j → m ≡ n + j → Found (λ (z : A × B). v z.0 ++ w z.1) (λ z. P z.0 × Q z.1) s (x, y) m
joined {v = v} {w = w} s {x} {y} {n} {j} {m} f g e =
    record {
      is = f.is ∙ ap (λ (t : List ℕ). v x ++ t) (g.is ∙ ap (λ (t : List ℕ). w y ++ t) (drop-drop j n s ∙ ap (λ (k : ℕ). drop k s) (sym e))) ∙ sym (append_assoc (v x) (w y) (drop m s));
      ends = omega (arith, f.ends, g.ends, length-append (v x) (w y));
      fit = (f.fit, g.fit);
    }

-- ---- one after the other
module _ {A B : Type 0} (a : Format A) (b : A → Format B) where
  pub pair_back : (p : A × B) (t : List ℕ) → PairFit a b p → pair_read a b (pair_write a b p ++ t) ≡ got p (length (pair_write a b p))
  unfolding pair_read pair_write and_then mapped shift
  pair_back p t f =
      rw (append_assoc, a.back p.0 ((b p.0).write p.1 ++ t) f.0, drop-append_seam, (b p.0).back p.1 t f.1, length-append)

  pub pair_forth : (s : List ℕ) (p : A × B) (m : ℕ) → Bytes s → pair_read a b s ≡ got p m → Found (pair_write a b) (PairFit a b) s p m
  unfolding pair_read pair_write
  pair_forth s p m bs e =
      let w = went (a.read s) (λ x n. mapped (λ y. (x, y)) ((b x).read (drop n s))) p m e in
      let v = mapped_got (λ y. (w.x, y)) ((b w.x).read (drop w.n s)) p w.j w.rest in
      let f = a.forth s w.x w.n bs w.first in
      let g = (b w.x).forth (drop w.n s) v.0 w.j (bytes_drop w.n s bs) v.1.0 in
      let h = joined s f g w.sum in
      rw v.1.1 (record { is = h.is; ends = h.ends; fit = h.fit })

  pub pair_inside : (s : List ℕ) → end_of (pair_read a b s) ≤ length s
  unfolding pair_read
  pair_inside s = end_then s (a.read s) _ (a.inside s) (λ x n. rw end_mapped ((b x).inside (drop n s)))

  pub pair_spells : (p : A × B) → Bytes (pair_write a b p)
  unfolding pair_write
  pair_spells p = bytes_append (a.write p.0) ((b p.0).write p.1) (a.spells p.0) ((b p.0).spells p.1)

-- ---- judged
module _ {A : Type 0} (ok : A → Bool) (c : Fault) (a : Format A) where
  pub judged_back : (x : A) (t : List ℕ) → JudgedFit ok a x → judge_of ok c (a.read (a.write x ++ t)) ≡ got x (length (a.write x))
  unfolding judge_of judge
  judged_back x t f = rw (a.back x t f.0, f.1)

  pub judged_forth : (s : List ℕ) (x : A) (n : ℕ) → Bytes s → judge_of ok c (a.read s) ≡ got x n → Found a.write (JudgedFit ok a) s x n
  unfolding judge_of judge
  judged_forth s x n bs e = go (a.read s) refl e
    where
      passed : (y : A) (m : ℕ) (b : Bool) → ok y ≡ b → a.read s ≡ got y m → judge c b y m ≡ got x n → Found a.write (JudgedFit ok a) s x n
      passed y m true eb e₁ h =
          let ex : x ≡ y = cc in
          let en : n ≡ m = cc in
          let f = a.forth s y m bs e₁ in
          rw (ex, en) (record { is = f.is; ends = f.ends; fit = (f.fit, eb) })
      passed y m false eb e₁ h = apart (sym h)

      go : (r : Answer A) → a.read s ≡ r → judge_of ok c r ≡ got x n → Found a.write (JudgedFit ok a) s x n
      go (got y m) e₁ h = passed y m (ok y) refl e₁ h
      go (refused d q) e₁ h = apart (sym h)

  pub judged_end : (q : Answer A) → end_of (judge_of ok c q) ≤ end_of q
  unfolding judge_of end_of judge
  judged_end (got x n) = go (ok x)
    where
      go : (b : Bool) → end_of (judge c b x n) ≤ n
      go true = omega arith
      go false = omega arith
  judged_end (refused d q) = omega arith

-- ---- in another guise
module _ {A B : Type 0} (a : Format A) (to : A → B) (from : B → A) (same : (x : A) → a.Fit x → from (to x) ≡ x) where
  pub via_back : (y : B) (t : List ℕ) → ViaFit a to from y → mapped to (a.read (a.write (from y) ++ t)) ≡ got y (length (a.write (from y)))
  unfolding mapped
  via_back y t f = rw (a.back (from y) t f.0, f.1)

  pub via_forth : (s : List ℕ) (y : B) (n : ℕ) → Bytes s → mapped to (a.read s) ≡ got y n → Found (λ z. a.write (from z)) (ViaFit a to from) s y n
  via_forth s y n bs e =
      let v = mapped_got to (a.read s) y n e in
      let f = a.forth s v.0 n bs v.1.0 in
      let z = same v.0 f.fit in
      rw v.1.1 (record { is = rw z f.is; ends = rw z f.ends; fit = (rw z f.fit, ap to z) })

-- ---- refused at the start
home_got : {A : Type 0} (q : Answer A) (x : A) (n : ℕ) → home q ≡ got x n → q ≡ got x n
unfolding home
home_got (got y m) x n e = e
home_got (refused c p) x n e = apart (sym e)

pub home_end : {A : Type 0} (q : Answer A) → end_of (home q) ≤ end_of q
unfolding home end_of
home_end (got y m) = omega arith
home_end (refused c p) = omega arith

module _ {A : Type 0} (a : Format A) where
  pub start_back : (x : A) (t : List ℕ) → a.Fit x → home (a.read (a.write x ++ t)) ≡ got x (length (a.write x))
  unfolding home
  start_back x t f = rw (a.back x t f)

  pub start_forth : (s : List ℕ) (x : A) (n : ℕ) → Bytes s → home (a.read s) ≡ got x n → Found a.write a.Fit s x n
  start_forth s x n bs e = a.forth s x n bs (home_got (a.read s) x n e)

  pub start_inside : (s : List ℕ) → end_of (home (a.read s)) ≤ length s
  start_inside s = omega (arith, home_end (a.read s), a.inside s)

-- ---- no bytes
pub nothing_forth : (s : List ℕ) (x : Unit {0}) (n : ℕ) → Bytes s → ◌≡◌ {A = Answer (Unit {0})} (got tt 0) (got x n) → Found {A = Unit {0}} (λ z. []) (λ z. Unit {0}) s x n
nothing_forth s x n bs e = let z : n ≡ 0 = cc in rw z (record { is = refl; ends = refl; fit = tt })

-- ---- numbers
pub length_spelt : (k n : ℕ) → length (spelt k n) ≡ k
unfolding spelt
length_spelt zero n = refl
length_spelt (suc k) n = ap suc (length_spelt k (n / 256))

-- with what is behind it
pub length_before : (k n : ℕ) (w : List ℕ) → length (spelt k n ++ w) ≡ k + length w
length_before k n w = length-append (spelt k n) w ∙ ap (λ (m : ℕ). m + length w) (length_spelt k n)

pub bytes_spelt : (k n : ℕ) → Bytes (spelt k n)
unfolding spelt Bytes
bytes_spelt zero n = tt
bytes_spelt (suc k) n = (omega arith, bytes_spelt k (n / 256))

pub value_spelt : (k n : ℕ) → n < 256 ^ k → value (spelt k n) ≡ n
unfolding value spelt
value_spelt zero n h = omega arith
value_spelt (suc k) n h =
    let p : n < 256 ^ k * 256 = rw (← pow-suc 256 k) h in
    let e = value_spelt k (n / 256) ((div-lt_iff_lt-mul (omega arith)).1 p) in
    omega arith

pub spelt_value : (bs : List ℕ) → Bytes bs → spelt (length bs) (value bs) ≡ bs
unfolding value spelt Bytes
spelt_value [] h = refl
spelt_value (b ∷ bs) h =
    let l = h.0 in
    let m : (b + 256 * value bs) % 256 ≡ b = omega arith in
    let d : (b + 256 * value bs) / 256 ≡ value bs = omega arith in
    rw (m, d, spelt_value bs h.1)

pub value_small : (bs : List ℕ) → Bytes bs → value bs < 256 ^ length bs
unfolding value Bytes
value_small [] h = omega arith
value_small (b ∷ bs) h = let i = value_small bs h.1 in rw pow-suc (omega (arith, h.0))

module _ (k : ℕ) where
  pub number_back : (x : ℕ) (t : List ℕ) → x < 256 ^ k → number_read k (spelt k x ++ t) ≡ got x (length (spelt k x))
  unfolding number_read pick
  number_back x t h =
      let l = length_spelt k x in
      let n : k ≤ length (spelt k x ++ t) = omega (arith, length-append (spelt k x) t) in
      let w : take k (spelt k x ++ t) ≡ spelt k x = ap (λ (j : ℕ). take j (spelt k x ++ t)) (sym l) ∙ take-append_seam (spelt k x) t in
      rw (le-leb k (length (spelt k x ++ t)) n, w, value_spelt k x h, l)

  pub number_forth : (s : List ℕ) (x n : ℕ) → Bytes s → number_read k s ≡ got x n → Found (spelt k) (λ y. y < 256 ^ k) s x n
  unfolding number_read pick
  number_forth s x n bs e = go (leb k (length s)) refl e
    where
      go : (b : Bool) → leb k (length s) ≡ b → pick b (got (value (take k s)) k) (refused Cut 0) ≡ got x n → Found (spelt k) (λ y. y < 256 ^ k) s x n
      go true eb h =
          let l : length (take k s) ≡ k = length-take-le k s (leb-true k (length s) eb) in
          let bt = bytes_take k s bs in
          let w : spelt k (value (take k s)) ≡ take k s = ap (λ (j : ℕ). spelt j (value (take k s))) (sym l) ∙ spelt_value (take k s) bt in
          let ex : x ≡ value (take k s) = cc in
          let en : n ≡ k = cc in
          rw (ex, en)
          (record { is = sym (rw w (take-append-drop k s)); ends = sym (length_spelt k (value (take k s))); fit = rw l at (value_small (take k s) bt) })
      go false eb h = apart (sym h)

  pub number_inside : (s : List ℕ) → end_of (number_read k s) ≤ length s
  unfolding number_read pick end_of
  number_inside s = go (leb k (length s)) refl
    where
      go : (b : Bool) → leb k (length s) ≡ b → end_of (pick b (got (value (take k s)) k) (refused Cut 0)) ≤ length s
      go true eb = leb-true k (length s) eb
      go false eb = omega arith

pub bit_eqb : (n : ℕ) → n ≤ 1 → bit (eqb n 1) ≡ n
unfolding bit pick
bit_eqb n h = go (eqb n 1) refl
  where
    go : (b : Bool) → eqb n 1 ≡ b → pick b 1 0 ≡ n
    go true e = sym (eqb-true n 1 e)
    go false e = omega (arith, eqb-false n 1 e)

pub eqb_bit : (b : Bool) → eqb (bit b) 1 ≡ b
unfolding bit pick
eqb_bit true = refl
eqb_bit false = refl

-- ---- the number that one byte spells; that j bytes and then k bytes spell
pub value_one : (s : List ℕ) (at : ℕ) → at < length s → value (take 1 (drop at s)) ≡ get_or s at 0
unfolding value
value_one s at h = rw (drop-cons s at 0) (omega arith)

value_append : (xs ys : List ℕ) → value (xs ++ ys) ≡ value xs + 256 ^ length xs * value ys
unfolding value
value_append [] ys = omega arith
value_append (x ∷ xs) ys =
    let e : 256 ^ suc (length xs) * value ys ≡ 256 * (256 ^ length xs * value ys) = rw (pow-suc, mul_comm (256 ^ length xs) 256, mul_assoc) in
    let i = value_append xs ys in
    omega (arith, e)

pub value_join : (j k : ℕ) (s : List ℕ) (at : ℕ) {x y : ℕ} → x ≡ value (take j (drop at s)) → y ≡ value (take k (drop (at + j) s)) → at + j ≤ length s
    → x + 256 ^ j * y ≡ value (take (j + k) (drop at s))
value_join j k s at {x} {y} ex ey h =
    let l : length (take j (drop at s)) ≡ j = length-take-le j (drop at s) (omega (arith, length-drop at s)) in
    let d : y ≡ value (take k (drop j (drop at s))) = rw drop-drop ey in
    rw (take-add j k (drop at s), value_append, l, ← ex, ← d)

-- a count within its range
pub within_fits : (low high n : ℕ) → low ≤ n → n ≤ high → within low high n ≡ true
unfolding within
within_fits low high n f g = rw (le-leb low n f, le-leb n high g)

-- what the code's branches say of a range
pub in_range : (low high : ℕ) {n : ℕ} → low ≤ n → n ≤ high → true ≡ within low high n
in_range low high {n} f g = sym (within_fits low high n f g)

pub under_range : (low high : ℕ) {n : ℕ} → n < low → false ≡ within low high n
unfolding within
under_range low high {n} f = rw (lt-leb low n f)

pub over_range : (low high : ℕ) {n : ℕ} → low ≤ n → high < n → false ≡ within low high n
unfolding within
over_range low high {n} f g = rw (le-leb low n f, lt-leb n high g)

pub within_is : (low high n : ℕ) → within low high n ≡ true → (low ≤ n) × (n ≤ high)
unfolding within
within_is low high n e = go (leb low n) refl e
  where
    go : (b : Bool) → leb low n ≡ b → (b && leb n high) ≡ true → (low ≤ n) × (n ≤ high)
    go true l h = (leb-true low n l, leb-true n high h)
    go false l h = absurd (let z : ◌≡◌ {A = ℕ} 0 1 = cc in omega arith)

-- ---- rows
module _ {A : Type 0} (a : ℕ → Format A) where
  pub each_back : (i k : ℕ) (xs : List A) (t : List ℕ) → EachFit a i k xs → each_read a i k (each_write a i xs ++ t) ≡ got xs (length (each_write a i xs))
  unfolding each_read each_write AllFit and_then mapped shift
  each_back i zero [] t f = refl
  each_back i zero (x ∷ xs) t f = absurd (omega arith)
  each_back i (suc k) [] t f = absurd (omega arith)
  each_back i (suc k) (x ∷ xs) t f =
      let l : length xs ≡ k = omega arith in
      rw (append_assoc, (a i).back x (each_write a (i + 1) xs ++ t) f.1.0, drop-append_seam, each_back (i + 1) k xs t (l, f.1.1), length-append)

  pub each_forth : (i k : ℕ) (s : List ℕ) (xs : List A) (m : ℕ) → Bytes s → each_read a i k s ≡ got xs m → Found (each_write a i) (EachFit a i k) s xs m
  unfolding each_read each_write AllFit
  each_forth i zero s xs m bs e =
      let z : m ≡ 0 = cc in
      let y : xs ≡ [] = cc in
      rw (z, y) (record { is = refl; ends = refl; fit = (refl, tt) })
  each_forth i (suc k) s xs m bs e =
      let w = went ((a i).read s) (λ x n. mapped (λ xs. x ∷ xs) (each_read a (i + 1) k (drop n s))) xs m e in
      let v = mapped_got (λ xs. w.x ∷ xs) (each_read a (i + 1) k (drop w.n s)) xs w.j w.rest in
      let f = (a i).forth s w.x w.n bs w.first in
      let g = each_forth (i + 1) k (drop w.n s) v.0 w.j (bytes_drop w.n s bs) v.1.0 in
      let h = joined s f g w.sum in
      rw v.1.1 (record { is = h.is; ends = h.ends; fit = (ap suc g.fit.0, (f.fit, g.fit.1)) })

  pub each_inside : (i k : ℕ) (s : List ℕ) → end_of (each_read a i k s) ≤ length s
  unfolding each_read end_of
  each_inside i zero s = omega arith
  each_inside i (suc k) s = end_then s ((a i).read s) _ ((a i).inside s) (λ x n. rw end_mapped (each_inside (i + 1) k (drop n s)))

  pub each_spells : (i : ℕ) (xs : List A) → Bytes (each_write a i xs)
  unfolding each_write Bytes
  each_spells i [] = tt
  each_spells i (x ∷ xs) = bytes_append ((a i).write x) (each_write a (i + 1) xs) ((a i).spells x) (each_spells (i + 1) xs)

-- ---- rows that are written
pub each_append : {A : Type 0} (a : ℕ → Format A) (i : ℕ) (xs ys : List A) → each_write a i (xs ++ ys) ≡ each_write a i xs ++ each_write a (i + length xs) ys
unfolding each_write
each_append a i [] ys = rw add-zero
each_append a i (x ∷ xs) ys =
    let e : i + 1 + length xs ≡ i + suc (length xs) = omega arith in
    rw (each_append a (i + 1) xs ys, e) (sym (append_assoc ((a i).write x) (each_write a (i + 1) xs) (each_write a (i + suc (length xs)) ys)))

-- formats that write alike write the same row
pub each_alike : {A : Type 0} (a b : ℕ → Format A) (i j : ℕ) (xs : List A) → ((n : ℕ) (x : A) → (a (i + n)).write x ≡ (b (j + n)).write x) → each_write a i xs ≡ each_write b j xs
unfolding each_write
each_alike a b i j [] h = refl
each_alike a b i j (x ∷ xs) h =
    let f : (a i).write x ≡ (b j).write x = rw (add-zero, add-zero) at (h 0 x) in
    let g : (n : ℕ) (y : _) → (a (i + 1 + n)).write y ≡ (b (j + 1 + n)).write y = λ n y. rw (add_assoc, add_assoc) (h (1 + n) y) in
    rw (f, each_alike a b (i + 1) (j + 1) xs g)

-- ---- rows that fit
module _ {A : Type 0} (a : ℕ → Format A) where
  pub all_append : (i : ℕ) (xs ys : List A) → AllFit a i xs → AllFit a (i + length xs) ys → AllFit a i (xs ++ ys)
  unfolding AllFit
  all_append i [] ys f g = rw add-zero at g
  all_append i (x ∷ xs) ys f g = let e : i + suc (length xs) ≡ i + 1 + length xs = omega arith in (f.0, all_append (i + 1) xs ys f.1 (rw e at g))

  pub all_take : (i k : ℕ) (xs : List A) → AllFit a i xs → AllFit a i (take k xs)
  unfolding AllFit
  all_take i zero xs f = tt
  all_take i (suc k) [] f = tt
  all_take i (suc k) (x ∷ xs) f = (f.0, all_take (i + 1) k xs f.1)

  pub all_drop : (i k : ℕ) (xs : List A) → AllFit a i xs → AllFit a (i + k) (drop k xs)
  unfolding AllFit
  all_drop i zero xs f = rw add-zero f
  all_drop i (suc k) [] f = tt
  all_drop i (suc k) (x ∷ xs) f = let e : i + suc k ≡ i + 1 + k = omega arith in rw e (all_drop (i + 1) k xs f.1)

-- ---- values with the number of their bytes
pub end_weighed : {A : Type 0} (q : Answer A) → end_of (weighed q) ≡ end_of q
unfolding weighed end_of
end_weighed (got x n) = refl
end_weighed (refused c p) = refl

module _ {A : Type 0} (a : Format A) where
  pub weighed_back : (p : A × ℕ) (t : List ℕ) → WeighedFit a p → weighed (a.read (a.write p.0 ++ t)) ≡ got p (length (a.write p.0))
  unfolding weighed
  weighed_back p t f = rw (a.back p.0 t f.0, ← f.1)

  pub weighed_forth : (s : List ℕ) (p : A × ℕ) (n : ℕ) → Bytes s → weighed (a.read s) ≡ got p n → Found (λ z. a.write z.0) (WeighedFit a) s p n
  unfolding weighed
  weighed_forth s p n bs e = go (a.read s) refl e
    where
      go : (q : Answer A) → a.read s ≡ q → weighed q ≡ got p n → Found (λ z. a.write z.0) (WeighedFit a) s p n
      go (got x m) h k =
          let ep : p ≡ (x, m) = cc in
          let en : n ≡ m = cc in
          let f = a.forth s x m bs h in
          rw (ep, en) (record { is = f.is; ends = f.ends; fit = (f.fit, f.ends) })
      go (refused d q) h k = apart (sym k)

-- Where a value of a row stands: behind those before it; and a loop that goes there.
use Rattle.std.specs.Prelude.{ℕ, zero, suc, ◌+◌, ◌≤◌, ◌<◌, ◌≡◌, refl, List, [], ◌∷◌, ◌++◌, length, take, drop, Ok, Err}
use Rattle.std.proofs.Common.{add-zero, zero-add, arith, sym, ◌∙◌, append-nil, append_assoc, length-append, length-drop, take_all}
use Rattle.format.specs.Laws.Answers.{Read}
use Rattle.format.specs.declared.Refusal.{Refusal}
use Rattle.format.specs.Format.{Format}
use Rattle.format.specs.ReadWrite.{each_write, AllFit}
use Rattle.format.specs.Laws.Seen.{ok_parts, unlike, got_at}
use Rattle.format.specs.Laws.Written.{behind, Row, Stands, first}
use Rattle.format.specs.Laws.Back.{Where}
use Rattle.format.specs.Row.{start_in}

-- its first starts where the row does, and behind all of them it ends
pub start_first : {A : Type 0} (a : ℕ → Format A) (from : ℕ) (xs : List A) → from ≡ start_in a from xs 0
unfolding start_in each_write
start_first a from xs = omega arith

pub start_end : {A : Type 0} (a : ℕ → Format A) (from k : ℕ) (xs : List A) → length xs ≤ k → start_in a from xs k ≡ from + length (each_write a 0 xs)
unfolding start_in
start_end a from k xs l = rw (take_all k xs l)

-- one value more
written_more : {A : Type 0} (a : ℕ → Format A) (i k : ℕ) (xs ys : List A) (x : A) → drop k xs ≡ x ∷ ys → length (each_write a i (take (k + 1) xs)) ≡ length (each_write a i (take k xs)) + length ((a (i + k)).write x)
unfolding each_write
written_more a i zero [] ys x e = absurd (let z : ◌≡◌ {A = ℕ} 0 1 = cc in omega arith)
written_more a i zero (y ∷ xs) ys x e =
    let h : y ≡ x = cc in
    rw (h, add-zero, append-nil, zero-add)
written_more a i (suc k) [] ys x e = absurd (let z : ◌≡◌ {A = ℕ} 0 1 = cc in omega arith)
written_more a i (suc k) (y ∷ xs) ys x e =
    let z : suc k + 1 ≡ suc (k + 1) = omega arith in
    let w : i + 1 + k ≡ i + suc k = omega arith in
    let m = rw w at (written_more a (i + 1) k xs ys x e) in
    rw z (omega (arith, m, length-append ((a i).write y) (each_write a (i + 1) (take (k + 1) xs)), length-append ((a i).write y) (each_write a (i + 1) (take k xs))))

pub start_more : {A : Type 0} (a : ℕ → Format A) (from k : ℕ) (xs ys : List A) (x : A) → drop k xs ≡ x ∷ ys → start_in a from xs (k + 1) ≡ start_in a from xs k + length ((a k).write x)
unfolding start_in
start_more a from k xs ys x e = let z : 0 + k ≡ k = zero-add k in let m = rw z at (written_more a 0 k xs ys x e) in omega arith

-- of a row that stands at a place, what is behind its first k values
row_behind : {A : Type 0} (a : ℕ → Format A) (s : List ℕ) (i k at : ℕ) (xs : List A) (t : List ℕ) → Row a s i at xs t → k ≤ length xs → Row a s (i + k) (at + length (each_write a i (take k xs))) (drop k xs) t
unfolding AllFit each_write
row_behind a s i zero at xs t r l = let e : i + 0 ≡ i = add-zero i in let f : at + 0 ≡ at = add-zero at in rw (e, f) r
row_behind a s i (suc k) at [] t r l = absurd (omega arith)
row_behind a s i (suc k) at (x ∷ xs) t r l =
    let w = (a i).write x in
    let rest : Row a s (i + 1) (at + length w) xs t = record { fit = r.fit.1; is = behind s at w (each_write a (i + 1) xs ++ t) (r.is ∙ append_assoc w (each_write a (i + 1) xs) t) } in
    let e : i + 1 + k ≡ i + suc k = omega arith in
    let f : at + length w + length (each_write a (i + 1) (take k xs)) ≡ at + length (w ++ each_write a (i + 1) (take k xs)) = omega (arith, length-append w (each_write a (i + 1) (take k xs))) in
    rw (e, f) at (row_behind a s (i + 1) k (at + length w) xs t rest (omega arith))

-- value k of a row
pub record Nth {A : Type 0} (a : ℕ → Format A) (s : List ℕ) (from k at : ℕ) (xs : List A) : Type 0 where
  pub x : A
  pub ys : List A
  pub tail : List ℕ
  pub stands : Stands (a k) s at x tail
  pub starts : at ≡ start_in a from xs k
  pub whole : drop k xs ≡ x ∷ ys

pub nth : {A : Type 0} (a : ℕ → Format A) (s : List ℕ) (from k at : ℕ) (xs : List A) (t : List ℕ) → at ≡ start_in a from xs k → Row a s 0 from xs t → k < length xs → Nth a s from k at xs
unfolding start_in
nth a s from k at xs t e row l =
    let z : 0 + k ≡ k = zero-add k in
    let r : Row a s k at (drop k xs) t = rw e (rw z at (row_behind a s 0 k from xs t row (omega arith))) in
    let f = first a s k at (drop k xs) t (omega (arith, length-drop k xs)) r in
    record { x = f.x; ys = f.ys; tail = _; stands = f.stands; starts = e; whole = f.whole }

-- ---- as the code finds it

-- whatever row of k values or more stands from a place on, r tells where its value i starts
unfoldable pub Skipped : {A : Type 0} → (ℕ → Format A) → List ℕ → ℕ → ℕ → ℕ → Read → Type 0
Skipped {A} a s from k i r = (xs : List A) (t : List ℕ) → Row a s 0 from xs t → k ≤ length xs → r ≡ Ok (start_in a from xs i, 0)

module _ {A : Type 0} (a : ℕ → Format A) (s : List ℕ) (from k : ℕ) where
  pub skip_start : Skipped a s from k 0 (Ok (from, 0))
  unfolding Skipped
  skip_start xs t r h = got_at (start_first a from xs)

  -- of a row that stands there
  module _ (i : ℕ) {r : Read} (w : Skipped a s from k i r) (xs : List A) (t : List ℕ) (row : Row a s 0 from xs t) (l : k ≤ length xs) where
    pub skip_is : {v at : ℕ} → r ≡ Ok (at, v) → at ≡ start_in a from xs i
    unfolding Skipped
    skip_is h = (ok_parts (sym h ∙ w xs t row l)).0

    pub skip_never : {B : Type 0} {why : Refusal} → r ≡ Err why → B
    unfolding Skipped
    skip_never h = unlike (w xs t row l) h

  module _ (i at : ℕ) (w : Skipped a s from k i (Ok (at, 0))) where
    pub skip_end : i ≤ k → k ≤ i → Skipped a s from k k (Ok (at, 0))
    skip_end l m = let e : i ≡ k = omega arith in rw e at w

    -- the value that stands there
    pub skip_nth : (xs : List A) (t : List ℕ) → Row a s 0 from xs t → k ≤ length xs → i < k → Nth a s from i at xs
    skip_nth xs t row m l = nth a s from i at xs t (skip_is i w xs t row m refl) row (omega arith)

    -- q is where it ends
    pub skip_step : (q : ℕ) → i < k → Where (a i) s at (λ x. at + length ((a i).write x)) q → Skipped a s from k (i + 1) (Ok (q, 0))
    unfolding Skipped Where
    skip_step q l h xs t row m =
        let n = skip_nth xs t row m l in
        got_at (omega (arith, h n.x (n.tail, n.stands), n.starts, start_more a from i xs n.ys n.x n.whole))

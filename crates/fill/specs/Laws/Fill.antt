-- Rows in a table, and a loop that fills one.
use Rattle.std.specs.Prelude.{ℕ, ◌+◌, ◌-◌, ◌*◌, ◌^◌, ◌<◌, ◌≤◌, ◌≡◌, refl, List, [], ◌∷◌, ◌++◌, Bool, true, false, eqb, length, Ok, Err, IfErr}
use Rattle.std.proofs.Common.{add-zero, zero-add, arith, ap₂, ◌∙◌, subst, length-append, drop_of_length-le, drop-drop}
use Rattle.std.proofs.Math.Nat.{mod-le}
use Rattle.std.proofs.Math.Path.{sym, ap}
use Rattle.std.proofs.Math.ListN.{drop}
use Rattle.format.specs.Laws.Answers.{Read}
use Rattle.format.specs.Laws.Fault.{Own}
use Rattle.format.specs.declared.Refusal.{Refusal}
use Rattle.format.specs.declared.Refusal.TheVariants.{At, Given}
use Rattle.format.specs.Format.{Format, Bytes, pick}
use Rattle.format.specs.Combinators.{pair, judged, via, seq, ◌then◌, number}
use Rattle.format.specs.Laws.Seen.{seen, told_why, itself, none, got_at}
use Rattle.format.specs.Laws.Fault.{further}
use Rattle.format.specs.Row.{total, start_in}
use Rattle.format.specs.Laws.Written.{Row}
use Rattle.format.specs.Laws.Back.{back_got, back_no, seen_fits, seen_stops}
use Rattle.format.specs.Laws.Skip.{start_first, start_end, start_more, nth}
use Rattle.kind.specs.declared.Product.{Product}
use Rattle.text.specs.Laws.Answers.{StringRead}
use Rattle.text.specs.Text.{string, length_of}
use Rattle.text.specs.Laws.Seen.{text_seen, end_read, end_is}
use Rattle.element.specs.Element.{Element, element, identifier}
use Rattle.element.specs.Laws.Element.{named}
use Rattle.rule.specs.Rule.{placed, separator}
use Rattle.rule.specs.Places.{data_at, elements_bytes}
use Rattle.buffer.specs.Laid.{put}
use Rattle.buffer.specs.Laws.Laid.{put_none, put_on, put_length}
use Rattle.fill.specs.Rows.{rows_of, element_row, element_rows, element_width}

-- rows at the start of a table
pub put_front : (t vs : List ℕ) → put t 0 vs ≡ vs ++ drop (length vs) t
unfolding put
put_front t vs = rw zero-add

-- ---- rows

pub rows_long : {A : Type 0} (a : ℕ → Format A) (row : ℕ → ℕ → A → List ℕ) (w : ℕ) (f : A → ℕ) → ((i at : ℕ) (x : A) → length (row i at x) ≡ w * f x)
    → (i at : ℕ) (xs : List A) → length (rows_of a row i at xs) ≡ w * total f xs
unfolding rows_of total
rows_long a row w f h i at [] = omega arith
rows_long a row w f h i at (x ∷ xs) =
    omega (arith, length-append (row i at x) (rows_of a row (i + 1) (at + length ((a i).write x)) xs), h i at x, rows_long a row w f h (i + 1) (at + length ((a i).write x)) xs)

pub total_one : {A : Type 0} (xs : List A) → total (λ x. 1) xs ≡ length xs
unfolding total
total_one [] = refl
total_one (x ∷ xs) = omega (arith, total_one xs)

-- rows are to come, and the table of len numbers is full up to k
pub record Filling (rows whole : List ℕ) (len : ℕ) (t : List ℕ) (k : ℕ) : Type 0 where
  pub long : length t ≡ len
  pub room : k + length rows ≤ len
  pub rest : put t k rows ≡ whole

module _ (vs ws : List ℕ) {rows whole t : List ℕ} {len k : ℕ} where
  pub filling_room : Filling rows whole len t k → rows ≡ vs ++ ws → k + length vs ≤ length t
  filling_room f e = omega (arith, f.room, f.long, ap length e, length-append vs ws)

  pub filling_go : {t₁ : List ℕ} {k₁ : ℕ} → Filling rows whole len t k → rows ≡ vs ++ ws → t₁ ≡ put t k vs → k₁ ≡ k + length vs → Filling ws whole len t₁ k₁
  filling_go {t₁} {k₁} f e h l =
      let r = filling_room f e in
      record {
        long = ap length h ∙ put_length t k vs r ∙ f.long;
        room = omega (arith, f.room, ap length e, length-append vs ws, l);
        rest = ap₂ (λ (x : List ℕ) (n : ℕ). put x n ws) h l ∙ put_on t k vs ws (omega arith) ∙ ap (put t k) (sym e) ∙ f.rest;
      }

pub filling_done : {rows whole t : List ℕ} {len k : ℕ} → Filling rows whole len t k → rows ≡ [] → t ≡ whole
filling_done {t = t} {k = k} f e = sym (put_none t k) ∙ ap (put t k) (sym e) ∙ f.rest

pub filling_start : (rows t : List ℕ) (k : ℕ) → k + length rows ≤ length t → Filling rows (put t k rows) (length t) t k
filling_start rows t k h = record { long = refl; room = h; rest = refl }

-- of the values of a row from value j on, the first of which starts at p
module _ {A : Type 0} (a : ℕ → Format A) (row : ℕ → ℕ → A → List ℕ) (j p : ℕ) (xs : List A) where
  pub rows_next : {x : A} {ys : List A} → drop j xs ≡ x ∷ ys → rows_of a row j p (drop j xs) ≡ row j p x ++ rows_of a row (j + 1) (p + length ((a j).write x)) (drop (j + 1) xs)
  unfolding rows_of
  rows_next {ys = ys} e =
      let z : drop (j + 1) xs ≡ ys = sym (drop-drop 1 j xs) ∙ ap (drop 1) e in
      rw (z, e)

  pub rows_done : length xs ≤ j → rows_of a row j p (drop j xs) ≡ []
  unfolding rows_of
  rows_done l = ap (rows_of a row j p) (drop_of_length-le xs l)

-- ---- what the code promises: where values are known to stand, they are read and their rows stored

-- n elements of rule i at a place of the rule's part, which starts at base: r is the answer, t becomes t₁
abbrev pub ElementsFill : Product → List ℕ → ℕ → ℕ → ℕ → ℕ → ℕ → List ℕ → List ℕ → Read → Type 0
ElementsFill p s at base i n k t t₁ r =
    (xs : List Element) (u : List ℕ) → Row (placed p) s 0 at xs u → length xs ≡ n → k + length (element_rows p i (base + at) xs) ≤ length t
    → (r ≡ Ok (at + elements_bytes p xs, n)) × (t₁ ≡ put t k (element_rows p i (base + at) xs))

-- of them j are stored, and the next stands at q
abbrev pub ElementsTurn : Product → List ℕ → ℕ → ℕ → ℕ → ℕ → ℕ → List ℕ → ℕ → ℕ → List ℕ → Type 0
ElementsTurn p s at base i n k t j q t₁ =
    (xs : List Element) (u : List ℕ) → Row (placed p) s 0 at xs u → length xs ≡ n → k + length (element_rows p i (base + at) xs) ≤ length t
    → (q ≡ start_in (placed p) at xs j)
    × Filling (rows_of (placed p) (element_row p i) j (base + q) (drop j xs)) (put t k (element_rows p i (base + at) xs)) (length t) t₁ (k + element_width * j)

module _ (p : Product) (s : List ℕ) (at base i n k : ℕ) (t : List ℕ) where
  pub elements_start : ElementsTurn p s at base i n k t 0 at t
  elements_start xs u w m h = (start_first (placed p) at xs, record { long = refl; room = omega arith; rest = ap (λ (z : ℕ). put t z (element_rows p i (base + at) xs)) (add-zero k) })

  module _ (j q : ℕ) (t₁ : List ℕ) (e : ElementsTurn p s at base i n k t j q t₁) where
    pub elements_done : n ≤ j → ElementsFill p s at base i n k t t₁ (Ok (q, n))
    elements_done l xs u w m h =
        let b = e xs u w m h in
        (got_at (b.0 ∙ start_end (placed p) at j xs (omega arith)), filling_done b.1 (rows_done (placed p) (element_row p i) j (base + q) xs (omega arith)))

    module _ {r : Read} (l : j < n) (g : r ≡ seen named (placed p j) s q) where
      pub elements_stop : {why : Refusal} → r ≡ Err why → ElementsFill p s at base i n k t t₁ r
      elements_stop f xs u w m h = back_no named (placed p j) s q (nth (placed p) s at j q xs u (e xs u w m h).0 w (omega arith)).stands g f

      pub elements_fill : {v o d : ℕ} {t₂ : List ℕ} → r ≡ Ok (o, v) → d ≡ data_at j (base + q) → (k + element_width * j + element_width ≤ length t₁ → t₂ ≡ put t₁ (k + element_width * j) (v ∷ i ∷ d ∷ (base + o) ∷ []))
          → ElementsTurn p s at base i n k t (j + 1) o t₂
      elements_fill {v} {o} {d} {t₂} f starts z xs u w m h =
          let b = e xs u w m h in
          let x = nth (placed p) s at j q xs u b.0 w (omega arith) in
          let y = back_got named (placed p j) s q x.stands g f in
          let ends : base + o ≡ base + q + length ((placed p j).write x.x) = omega (arith, y.1) in
          let rows = rows_next (placed p) (element_row p i) j (base + q) xs x.whole in
          let room : k + element_width * j + element_width ≤ length t₁ = filling_room (element_row p i j (base + q) x.x) _ b.1 rows in
          let st : t₂ ≡ put t₁ (k + element_width * j) (element_row p i j (base + q) x.x) = z room ∙ rw (y.0, starts, ends) in
          (omega (arith, y.1, b.0, start_more (placed p) at j xs x.ys x.x x.whole), rw ends (filling_go (element_row p i j (base + q) x.x) _ b.1 rows st (omega arith)))

-- a number of elements below 2 ^ 16 and a place, or a refusal's place
abbrev pub Under : ℕ → Read → Type 0
Under b (Ok (m, n)) = (n < 2 ^ 16) × (m ≤ b)
Under b (Err (At c q)) = q ≤ b
Under b (Err (Given c q)) = ⊥

pub under_own : (b : ℕ) (r : Read) → Under b r → IfErr r Own
under_own b (Ok (m, n)) h = tt
under_own b (Err (At c q)) h = tt
under_own b (Err (Given c q)) h = h

pub under_got : {b n m : ℕ} {r : Read} → Under b r → r ≡ Ok (m, n) → (n < 2 ^ 16) × (m ≤ b)
under_got {b} h e = subst (Under b) e h

pub under_stop : {A : Type 0} (g : A → ℕ) (a : Format A) (s : List ℕ) (at : ℕ) {b : ℕ} {r : Read} {why : Refusal} → r ≡ seen g a s at → r ≡ Err why → at + (length s - at) ≤ b → Under b r
unfolding seen
under_stop g a s at {b} e h l =
    let i = told_why at g (a.read (drop at s)) e h in
    let k = rw i.ends at h in
    let m = seen_stops g a s at e k in
    rw k (omega arith)

-- a String's refusal, handed on
pub under_text : (s : List ℕ) (at : ℕ) {b : ℕ} {c : StringRead} {r : Read} {why : Refusal} → c ≡ text_seen length_of string s at → c ≡ Err why → r ≡ Err why → at + (length s - at) ≤ b → Under b r
under_text s at e h k = under_stop none string s at (end_is length_of string s at e (k ∙ sym (ap end_read h))) k

-- a refusal of a part that starts at a place
pub under_further : (a : ℕ) {b : ℕ} (at : ℕ) {r : Read} {why to : Refusal} → Under a r → r ≡ Err why → to ≡ further at why → at + a ≤ b → Under b (Err to)
under_further a {b} at {why = why} h e f l = rw f (go why (subst (Under a) e h))
  where
    go : (x : Refusal) → Under a (Err x) → Under b (Err (further at x))
    go (At c q) w = omega (arith, mod-le (at + q) (2 ^ 64))
    go (Given c q) w = w

-- an identifier has 32 bits
pub identifier_small : (p : Product) (j : ℕ) (s : List ℕ) (at : ℕ) {r : Read} {v m : ℕ} → Bytes s → r ≡ seen named (placed p j) s at → r ≡ Ok (m, v) → v < 2 ^ 32
unfolding placed pick element identifier ◌then◌ seq via pair judged number
identifier_small p j s at bs e h = let o = seen_fits named (placed p j) s at bs e h in rw o.1.1 (go (eqb j 0) o.0 o.1.0)
  where
    go : (b : Bool) (x : Element) → (pick b (element p) (separator then element p)).Fit x → named x < 2 ^ 32
    go true x f = f.0.0.0
    go false x f = f.0.1.0.0.0

pub two_small : (s : List ℕ) (at : ℕ) {r : Read} {v m : ℕ} → Bytes s → r ≡ seen itself (number 2) s at → r ≡ Ok (m, v) → v < 2 ^ 16
unfolding number
two_small s at bs e h = let o = seen_fits itself (number 2) s at bs e h in rw o.1.1 o.1.0

pub under_up : {a b : ℕ} (r : Read) → Under a r → a ≤ b → Under b r
under_up (Ok (m, n)) h l = (h.0, omega (arith, h.1))
under_up (Err (At c q)) h l = omega arith
under_up (Err (Given c q)) h l = h

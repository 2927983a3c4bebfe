-- The kinds as the code looks them up: one number for each sixteen identifiers, with a digit for each.
use Rattle.std.specs.Prelude.{ℕ, zero, suc, ◌+◌, ◌*◌, ◌/◌, ◌%◌, ◌^◌, ◌≤◌, ◌<◌, ◌≡◌, refl, Bool, true, false, not, List, [], ◌∷◌, eqb, ltb, Ok, Err}
use Rattle.std.proofs.Common.{add-zero, arith, sym, ◌∙◌, shr-shr, ne_eqb}
use Rattle.std.proofs.Math.Path.{ap}
use Rattle.format.specs.declared.Fault.TheVariants as Fault
use Rattle.format.specs.Format.{pick}
use Rattle.kind.specs.declared.Product.{Product}
use Rattle.kind.specs.declared.Product.TheVariants.{Desk, Studio}
use Rattle.kind.specs.declared.Role.TheVariants.{Condition, Action, Exception}
use Rattle.kind.specs.declared.Kind.{Kind}
use Rattle.kind.specs.declared.Kind.TheVariants.{Marker, Simple, WordList, Size, Dates}
use Rattle.kind.specs.Answers.{Row}
use Rattle.format.specs.declared.Refusal.TheVariants.{At}
use Rattle.kind.specs.Kinds.{kinds, has, row_in, in_desk, offered, row_of}

-- the rows by digits
unfoldable pub row_at : ℕ → Row
row_at n =
    pick (eqb n 1) (Ok Marker)
    (pick (eqb n 2) (Ok (Simple Condition))
    (pick (eqb n 3) (Ok (Simple Action))
    (pick (eqb n 4) (Ok (Simple Exception))
    (pick (eqb n 5) (Ok WordList)
    (pick (eqb n 6) (Ok (Size Condition))
    (pick (eqb n 7) (Ok (Size Exception))
    (pick (eqb n 8) (Ok (Dates Condition))
    (pick (eqb n 9) (Ok (Dates Exception))
    (Err (At Fault.Unknown 0))))))))))

-- and back
unfoldable pub digit_of : Row → ℕ
digit_of (Ok Marker) = 1
digit_of (Ok (Simple Condition)) = 2
digit_of (Ok (Simple Action)) = 3
digit_of (Ok (Simple Exception)) = 4
digit_of (Ok WordList) = 5
digit_of (Ok (Size Condition)) = 6
digit_of (Ok (Size Action)) = 0
digit_of (Ok (Size Exception)) = 7
digit_of (Ok (Dates Condition)) = 8
digit_of (Ok (Dates Action)) = 0
digit_of (Ok (Dates Exception)) = 9
digit_of (Err why) = 0

-- the digits of n identifiers from i on, the first lowest
unfoldable pub digits_from : ℕ → ℕ → ℕ
digits_from i zero = 0
digits_from i (suc n) = digit_of (row_in kinds i) + 16 * digits_from (suc i) n

-- line n: the sixteen identifiers from 16 n on
unfoldable pub line_of : ℕ → ℕ
line_of n = digits_from (16 * n) 16

-- the lines that have identifiers
pub lines : (line_of 0x06 ≡ 0x0000000000010000) × ((line_of 0x0C ≡ 0x0000022200000000) × ((line_of 0x0D ≡ 0x0200000000000000) × ((line_of 0x0E ≡ 0x0000000000002286) × ((line_of 0x0F ≡ 0x0000000000200000) × ((line_of 0x12 ≡ 0x0030000000000000) × ((line_of 0x13 ≡ 0x0000330000000300) × ((line_of 0x14 ≡ 0x3003030000000300) × ((line_of 0x15 ≡ 0x0000000000000300) × ((line_of 0x1F ≡ 0x0000000004440000) × ((line_of 0x20 ≡ 0x4497040400000000) × ((line_of 0x21 ≡ 0x0000445004005550))))))))))))
unfolding line_of digits_from digit_of row_in has pick
lines = (refl, (refl, (refl, (refl, (refl, (refl, (refl, (refl, (refl, (refl, (refl, refl)))))))))))

-- ---- a digit of a line gives the row back

digit_small : (r : Row) → digit_of r < 16
unfolding digit_of
digit_small (Ok Marker) = omega arith
digit_small (Ok (Simple Condition)) = omega arith
digit_small (Ok (Simple Action)) = omega arith
digit_small (Ok (Simple Exception)) = omega arith
digit_small (Ok WordList) = omega arith
digit_small (Ok (Size Condition)) = omega arith
digit_small (Ok (Size Action)) = omega arith
digit_small (Ok (Size Exception)) = omega arith
digit_small (Ok (Dates Condition)) = omega arith
digit_small (Ok (Dates Action)) = omega arith
digit_small (Ok (Dates Exception)) = omega arith
digit_small (Err why) = omega arith

digit_in : (i n k : ℕ) → k < n → digits_from i n / 2 ^ (4 * k) % 16 ≡ digit_of (row_in kinds (i + k))
unfolding digits_from
digit_in i zero k h = absurd (omega arith)
digit_in i (suc n) zero h = rw add-zero (omega (arith, digit_small (row_in kinds i)))
digit_in i (suc n) (suc k) h =
    let d = digit_of (row_in kinds i) in
    let r = digits_from (suc i) n in
    let z : suc i + k ≡ i + suc k = omega arith in
    let e : 4 * suc k ≡ 4 + 4 * k = omega arith in
    let q : (d + 16 * r) / 2 ^ 4 ≡ r = omega (arith, digit_small (row_in kinds i)) in
    let t : (d + 16 * r) / 2 ^ (4 + 4 * k) ≡ r / 2 ^ (4 * k) = sym (shr-shr (d + 16 * r) 4 (4 * k)) ∙ ap (λ (x : ℕ). x / 2 ^ (4 * k)) q in
    rw (e, t, ← z) (digit_in (suc i) n k (omega arith))

-- "Desk has the marker, simple conditions and simple actions": the first three digits
unfoldable pub lacks_at : Product → ℕ → Bool
lacks_at Desk n = ltb 3 n
lacks_at Studio n = false

-- each row of the table has a digit of its own, and Desk's are those
unfoldable Kept : List (Kind × List ℕ) → Type 0
Kept [] = Unit {0}
Kept ((k, ids) ∷ rows) = (row_at (digit_of (Ok k)) ≡ Ok k) × ((lacks_at Desk (digit_of (Ok k)) ≡ not (in_desk k)) × Kept rows)

kept : Kept kinds
unfolding row_at digit_of lacks_at pick Kept
kept = (refl, (refl, (refl, (refl, (refl, (refl, (refl, (refl, (refl, (refl, (refl, (refl, (refl, (refl, (refl, (refl, (refl, (refl, tt))))))))))))))))))

none_back : row_at (digit_of (Err (At Fault.Unknown 0))) ≡ Err (At Fault.Unknown 0)
unfolding row_at digit_of pick
none_back = refl

row_back : (rows : List (Kind × List ℕ)) (id : ℕ) → Kept rows → row_at (digit_of (row_in rows id)) ≡ row_in rows id
unfolding row_in pick Kept
row_back [] id h = none_back
row_back ((k, ids) ∷ rows) id h = go (has ids id) (row_back rows id h.1.1)
  where
    go : (b : Bool) → row_at (digit_of (row_in rows id)) ≡ row_in rows id → row_at (digit_of (pick b (Ok k) (row_in rows id))) ≡ pick b (Ok k) (row_in rows id)
    go true e = h.0
    go false e = e

-- a row that a product lacks is foreign
one_offered : (p : Product) (k : Kind) → lacks_at Desk (digit_of (Ok k)) ≡ not (in_desk k) → offered p (Ok k) ≡ pick (lacks_at p (digit_of (Ok k))) (Err (At Fault.Foreign 0)) (Ok k)
unfolding offered lacks_at pick
one_offered Studio k h = refl
one_offered Desk k h = rw h (go (in_desk k))
  where
    go : (b : Bool) → pick b (Ok k) (Err (At Fault.Foreign 0)) ≡ pick (not b) (Err (At Fault.Foreign 0)) (Ok k)
    go true = refl
    go false = refl

none_offered : (p : Product) → offered p (Err (At Fault.Unknown 0)) ≡ pick (lacks_at p (digit_of (Err (At Fault.Unknown 0)))) (Err (At Fault.Foreign 0)) (Err (At Fault.Unknown 0))
unfolding offered lacks_at digit_of pick
none_offered Desk = refl
none_offered Studio = refl

offered_by : (p : Product) (rows : List (Kind × List ℕ)) (id : ℕ) → Kept rows → offered p (row_in rows id) ≡ pick (lacks_at p (digit_of (row_in rows id))) (Err (At Fault.Foreign 0)) (row_in rows id)
unfolding row_in pick Kept
offered_by p [] id h = none_offered p
offered_by p ((k, ids) ∷ rows) id h = go (has ids id) (offered_by p rows id h.1.1)
  where
    go : (b : Bool) → offered p (row_in rows id) ≡ pick (lacks_at p (digit_of (row_in rows id))) (Err (At Fault.Foreign 0)) (row_in rows id)
        → offered p (pick b (Ok k) (row_in rows id)) ≡ pick (lacks_at p (digit_of (pick b (Ok k) (row_in rows id)))) (Err (At Fault.Foreign 0)) (pick b (Ok k) (row_in rows id))
    go true e = one_offered p k h.1.0
    go false e = e

-- ---- as the code finds it

pub digit_is : (id : ℕ) {l : ℕ} → l ≡ line_of (id / 16) → l / 2 ^ (4 * (id % 16)) % 16 ≡ digit_of (row_in kinds id)
unfolding line_of
digit_is id e =
    let z : 16 * (id / 16) + id % 16 ≡ id = omega arith in
    rw e (rw z at (digit_in (16 * (id / 16)) 16 (id % 16) (omega arith)))

module _ (p : Product) (id : ℕ) {d : ℕ} {b : Bool} where
  pub row_foreign : d ≡ digit_of (row_in kinds id) → b ≡ lacks_at p d → b ≡ true → Err (At Fault.Foreign 0) ≡ row_of p id
  unfolding row_of pick
  row_foreign e f t = rw (offered_by p kinds id kept, ← e, ← f, t)

  pub row_has : {r : Row} → d ≡ digit_of (row_in kinds id) → b ≡ lacks_at p d → b ≡ false → r ≡ row_at d → r ≡ row_of p id
  unfolding row_of pick
  row_has e f t h = rw (offered_by p kinds id kept, ← e, ← f, t) (h ∙ ap row_at e ∙ row_back kinds id kept)

-- a line without an identifier
unfoldable pub Off : ℕ → List ℕ → Type 0
Off n [] = Unit {0}
Off n (x ∷ xs) = (n ≡ x / 16 → ⊥) × Off n xs

unfoldable pub AllOff : ℕ → List (Kind × List ℕ) → Type 0
AllOff n [] = Unit {0}
AllOff n ((k, ids) ∷ rows) = Off n ids × AllOff n rows

off_has : (n id : ℕ) (ids : List ℕ) → id / 16 ≡ n → Off n ids → has ids id ≡ false
unfolding has Off
off_has n id [] e o = refl
off_has n id (x ∷ xs) e o = rw (ne_eqb id x (λ z. o.0 (sym e ∙ ap (λ (m : ℕ). m / 16) z))) (off_has n id xs e o.1)

off_row : (n id : ℕ) (rows : List (Kind × List ℕ)) → id / 16 ≡ n → AllOff n rows → row_in rows id ≡ Err (At Fault.Unknown 0)
unfolding row_in AllOff pick
off_row n id [] e o = refl
off_row n id ((k, ids) ∷ rows) e o = rw (off_has n id ids e o.0) (off_row n id rows e o.1)

off_digits : (n i k : ℕ) → AllOff n kinds → 16 * n ≤ i → i + k ≤ 16 * n + 16 → digits_from i k ≡ 0
unfolding digits_from digit_of
off_digits n i zero o h l = refl
off_digits n i (suc k) o h l = rw (off_row n i kinds (omega arith) o, off_digits n (suc i) k o (omega arith) (omega arith))

pub off_line : (n : ℕ) → AllOff n kinds → 0 ≡ line_of n
unfolding line_of
off_line n o = sym (off_digits n (16 * n) 16 o (omega arith) (omega arith))

-- Laws of ../Digits.antt: the digits as the code makes them, and that they give the number back.
use Rattle.std.specs.Prelude.{ℕ, zero, suc, ◌+◌, ◌-◌, ◌*◌, ◌/◌, ◌%◌, ◌^◌, ◌≤◌, ◌<◌, ◌≡◌, refl, Bool, true, false, List, [], ◌∷◌, ◌++◌, eqb, length, take, drop, set}
use Rattle.std.proofs.Common.{not-suc-le-zero, le_of_suc-le-suc, pow-suc, arith, sym, ap, ◌∙◌, append_assoc, length-set, length-drop, length-append, drop_of_length-le, take-append-drop, take_all, take-take, drop_at, length-take-le, lt-ltb, le-ltb, ne_eqb}
use Rattle.std.proofs.lemmas.List.{take-set-le}
use Rattle.format.specs.Format.{pick}
use Rattle.digits.specs.Digits.{decimal_digits, decimal, hex_digit, hex_digits}

-- ---- as the code makes them

pub hex_low : (n : ℕ) → n % 16 < 10 → 48 + n % 16 ≡ hex_digit n
unfolding hex_digit pick
hex_low n h = rw (lt-ltb (n % 16) 10 h)

pub hex_high : (n : ℕ) → 10 ≤ n % 16 → 55 + n % 16 ≡ hex_digit n
unfolding hex_digit pick
hex_high n h = rw (le-ltb (n % 16) 10 h)

-- a digit before those that stand from j on
drop_set : (s : List ℕ) (j x : ℕ) → j < length s → drop j (set s j x) ≡ x ∷ drop (suc j) s
drop_set [] j x h = absurd (not-suc-le-zero h)
drop_set (y ∷ s) zero x h = refl
drop_set (y ∷ s) (suc j) x h = drop_set s j x (le_of_suc-le-suc h)

fewer : (n j : ℕ) → n < 10 ^ suc j → n / 10 < 10 ^ j
fewer n j h = let e = pow-suc 10 j in omega arith

-- what a turn of the loop leaves: the digits of the rest, then those that stand from i on; the bytes before as found
pub record Spelling (d s : List ℕ) (i rest n : ℕ) : Type 0 where
  pub is : decimal_digits i rest ++ drop i s ≡ decimal n
  pub before : take i s ≡ take i d
  pub long : length s ≡ 20
  pub low : i ≤ 19
  pub small : rest < 10 ^ i

pub spelling_first : (s : List ℕ) (n : ℕ) → length s ≡ 20 → n < 2 ^ 64 → Spelling (set s 19 (48 + n % 10)) (set s 19 (48 + n % 10)) 19 (n / 10) n
unfolding decimal
spelling_first s n h k =
    record {
      is = ap (λ (l : List ℕ). decimal_digits 19 (n / 10) ++ l) (drop_set s 19 (48 + n % 10) (omega arith) ∙ ap (λ (l : List ℕ). (48 + n % 10) ∷ l) (drop_of_length-le s {i = 20} (omega arith)));
      before = refl;
      long = length-set s 19 (48 + n % 10) ∙ h;
      low = omega arith;
      small = omega arith;
    }

pub spelling_next : {d s : List ℕ} {n : ℕ} (i rest : ℕ) → Spelling d s i rest n → 0 < rest → Spelling d (set s (i - 1) (48 + rest % 10)) (i - 1) (rest / 10) n
unfolding decimal_digits pick
spelling_next zero rest h p = absurd (omega (arith, h.small))
spelling_next {d} {s} {n} (suc j) rest h p =
    let o : suc j - 1 ≡ j = omega arith in
    let x = 48 + rest % 10 in
    let e : decimal_digits j (rest / 10) ++ drop j (set s j x) ≡ decimal_digits (suc j) rest ++ drop (suc j) s =
    rw (drop_set s j x (omega (arith, h.low, h.long)), ne_eqb rest 0 (λ e. omega arith)) (sym (append_assoc (decimal_digits j (rest / 10)) (x ∷ []) (drop (suc j) s))) in
    let b : take j (set s j x) ≡ take j d =
    take-set-le j s j x (omega arith) ∙ sym (take-take j (suc j) s (omega arith)) ∙ ap (take j) h.before ∙ take-take j (suc j) d (omega arith) in
    rw o (record { is = e ∙ h.is; before = b; long = length-set s j x ∙ h.long; low = omega (arith, h.low); small = fewer rest j h.small })

none : (i : ℕ) → decimal_digits i 0 ≡ []
unfolding decimal_digits pick
none zero = refl
none (suc i) = refl

pub spelling_last : (d : List ℕ) (x : ℕ) {s : List ℕ} {n i rest : ℕ} → Spelling (set d 19 x) s i rest n → rest ≡ 0 → (i ≡ 20 - length (decimal n)) × (s ≡ take i d ++ decimal n)
spelling_last d x {s} {n} {i} h e =
    let w : drop i s ≡ decimal n = ap (λ (l : List ℕ). l ++ drop i s) (sym (none i)) ∙ ap (λ (r : ℕ). decimal_digits i r ++ drop i s) (sym e) ∙ h.is in (
      omega (arith, ap length w, length-drop i s, h.long, h.low),
      sym (take-append-drop i s) ∙ ap (λ (l : List ℕ). l ++ drop i s) (h.before ∙ take-set-le i d 19 x h.low) ∙ ap (λ (l : List ℕ). take i d ++ l) w,
    )

pub spelling_left : {d s : List ℕ} {n : ℕ} (i rest : ℕ) → Spelling d s i rest n → 0 < rest → 1 ≤ i
spelling_left zero rest h p = absurd (omega (arith, h.small))
spelling_left (suc j) rest h p = omega arith

pub hex_is : (n : ℕ) {a b c d e f g h : ℕ} → a ≡ hex_digit (n / 0x10000000) → b ≡ hex_digit (n / 0x1000000) → c ≡ hex_digit (n / 0x100000) → d ≡ hex_digit (n / 0x10000)
    → e ≡ hex_digit (n / 0x1000) → f ≡ hex_digit (n / 0x100) → g ≡ hex_digit (n / 0x10) → h ≡ hex_digit n → a ∷ b ∷ c ∷ d ∷ e ∷ f ∷ g ∷ h ∷ [] ≡ hex_digits n
unfolding hex_digits
hex_is n a b c d e f g h = rw (a, b, c, d, e, f, g, h)

-- ---- as a caller finds them

pick_length : (b : Bool) (xs : List ℕ) (x k : ℕ) → length xs ≤ k → length (pick b [] (xs ++ (x ∷ []))) ≤ suc k
unfolding pick
pick_length true xs x k h = omega arith
pick_length false xs x k h = omega (arith, length-append xs (x ∷ []), h)

digits_length : (k n : ℕ) → length (decimal_digits k n) ≤ k
unfolding decimal_digits
digits_length zero n = omega arith
digits_length (suc k) n = pick_length (eqb n 0) (decimal_digits k (n / 10)) (48 + n % 10) k (digits_length k (n / 10))

pub decimal_length : (n : ℕ) → length (decimal n) ≤ 20
unfolding decimal
decimal_length n = omega (arith, length-append (decimal_digits 19 (n / 10)) ((48 + n % 10) ∷ []), digits_length 19 (n / 10))

-- the digits that stand at the end of 20 bytes
module _ (n i : ℕ) (d : List ℕ) {p : List ℕ} where
  pub spelt_long : i ≡ 20 - length (decimal n) → p ≡ take i d ++ decimal n → length d ≡ 20 → length p ≡ 20
  spelt_long h e l = omega (arith, ap length e, length-append (take i d) (decimal n), length-take-le i d (omega arith), decimal_length n)

  pub spelt : i ≡ 20 - length (decimal n) → p ≡ take i d ++ decimal n → length d ≡ 20 → take (20 - i) (drop i p) ≡ decimal n
  spelt h e l =
      ap (take (20 - i)) (ap (drop i) e ∙ drop_at (take i d) (decimal n) i (length-take-le i d (omega arith)))
      ∙ take_all (20 - i) (decimal n) (omega (arith, decimal_length n))

pub hex_length : (n : ℕ) → length (hex_digits n) ≡ 8
unfolding hex_digits
hex_length n = refl

-- ---- the digits are the number's: read back, they give it

unfoldable pub decimal_value : ℕ → List ℕ → ℕ
decimal_value v [] = v
decimal_value v (d ∷ ds) = decimal_value (10 * v + (d - 48)) ds

value_append : (v : ℕ) (xs ys : List ℕ) → decimal_value v (xs ++ ys) ≡ decimal_value (decimal_value v xs) ys
unfolding decimal_value
value_append v [] ys = refl
value_append v (x ∷ xs) ys = value_append (10 * v + (x - 48)) xs ys

value_last : (n : ℕ) (xs : List ℕ) → decimal_value 0 xs ≡ n / 10 → decimal_value 0 (xs ++ ((48 + n % 10) ∷ [])) ≡ n
unfolding decimal_value
value_last n xs e = value_append 0 xs ((48 + n % 10) ∷ []) ∙ omega (arith, e)

value_digits : (k n : ℕ) → n < 10 ^ k → decimal_value 0 (decimal_digits k n) ≡ n
unfolding decimal_digits pick decimal_value
value_digits zero n h = omega arith
value_digits (suc k) zero h = refl
value_digits (suc k) (suc n) h = rw (ne_eqb (suc n) 0 (λ e. omega arith)) (value_last (suc n) (decimal_digits k (suc n / 10)) (value_digits k (suc n / 10) (fewer (suc n) k h)))

pub value_decimal : (n : ℕ) → n < 2 ^ 64 → decimal_value 0 (decimal n) ≡ n
unfolding decimal
value_decimal n h = value_last n (decimal_digits 19 (n / 10)) (value_digits 19 (n / 10) (omega arith))

-- 18446744073709551615
pub longest : decimal 0xFFFF_FFFF_FFFF_FFFF ≡
    0x31 ∷ 0x38 ∷ 0x34 ∷ 0x34 ∷ 0x36 ∷ 0x37 ∷ 0x34 ∷ 0x34 ∷ 0x30 ∷ 0x37 ∷ 0x33 ∷ 0x37 ∷ 0x30 ∷ 0x39 ∷ 0x35 ∷ 0x35 ∷ 0x31 ∷ 0x36 ∷ 0x31 ∷ 0x35 ∷ []
unfolding decimal decimal_digits pick
longest = refl

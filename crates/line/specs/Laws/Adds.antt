-- A line as it is put into a buffer, piece by piece.
use Rattle.std.specs.Prelude.{ℕ, ◌+◌, ◌-◌, ◌≤◌, ◌≡◌, List, [], ◌∷◌, ◌++◌, length, take, drop}
use Rattle.std.proofs.Common.{arith, ap, subst, ◌∙◌, length-append}
use Rattle.buffer.specs.Laid.{put, put_in}
use Rattle.buffer.specs.Laws.Laid.{put_in_lem, put_on}
use Rattle.digits.specs.Digits.{decimal, hex_digits}
use Rattle.digits.specs.Laws.Digits.{decimal_length, spelt, hex_length}
use Rattle.line.specs.Line.{spaced, Lined}

-- bs behind the first `at` bytes of a buffer; what lies behind stays
pub record Adds (d : List ℕ) (at : ℕ) (bs : List ℕ) (r : ℕ) (y : List ℕ) : Type 0 where
  pub says : r ≡ at + length bs
  pub leaves : y ≡ put d at bs

module _ {d y : List ℕ} {at : ℕ} {r : ℕ} where
  pub adds_put : {bs : List ℕ} → y ≡ put_in d at bs → at + length bs ≤ length d → r ≡ at + length bs → Adds d at bs r y
  adds_put {bs} e h f = record { says = f; leaves = e ∙ put_in_lem d at bs h }

  pub adds_on : {m : ℕ} {x cs bs : List ℕ} → Adds d at cs m x → Adds x m bs r y → at ≤ length d → Adds d at (cs ++ bs) r y
  adds_on {m} {x} {cs} {bs} a b h =
      record {
        says = b.says ∙ omega (arith, a.says, length-append cs bs);
        leaves = b.leaves ∙ ap (λ (n : ℕ). put x n bs) a.says ∙ ap (λ (z : List ℕ). put z (at + length cs) bs) a.leaves ∙ put_on d at cs bs h;
      }

pub adds_line : {d y : List ℕ} {r : ℕ} {bs : List ℕ} → Adds d 0 bs r y → r ≤ length y → 96 ≡ length y → Lined d bs r y
adds_line a h l = record { says = a.says ∙ omega arith; leaves = a.leaves; fits = h; long = l }

pub lined_as : {d y : List ℕ} {r : ℕ} {cs bs : List ℕ} → Lined d cs r y → cs ≡ bs → Lined d bs r y
lined_as {d} {y} {r} a e = subst (λ (l : List ℕ). Lined d l r y) e a

-- the pieces of a line, one after the other from its start
pub and : {d y x : List ℕ} {r m : ℕ} {cs bs : List ℕ} → Adds d 0 cs m x → Adds x m bs r y → Adds d 0 (cs ++ bs) r y
and a b = adds_on a b (omega arith)

pub adds_as : {d y : List ℕ} {at r : ℕ} {cs bs : List ℕ} → Adds d at cs r y → cs ≡ bs → Adds d at bs r y
adds_as {d} {y} {at} {r} a e = subst (λ (l : List ℕ). Adds d at l r y) e a

module _ {d y x : List ℕ} {at m r : ℕ} where
  -- a space, then the digits that stand at the end of 20 bytes
  pub adds_number : (n i : ℕ) (s : List ℕ) {p : List ℕ} → i ≡ 20 - length (decimal n) → p ≡ take i s ++ decimal n → Adds d at (0x20 ∷ []) m x → Adds x m (take (20 - i) (drop i p)) r y → at ≤ length d → length s ≡ 20
      → Adds d at (spaced (decimal n)) r y × (r ≤ at + 21)
  adds_number n i s h e a b k l =
      let t : Adds d at (spaced (decimal n)) r y = adds_as (adds_on a b k) (ap (λ (z : List ℕ). 0x20 ∷ z) (spelt n i s h e l)) in
      (t, omega (arith, t.says, decimal_length n))

  -- a space, then the digits of an identifier
  pub adds_identifier : (n : ℕ) {s : List ℕ} → s ≡ hex_digits n → Adds d at (0x20 ∷ []) m x → Adds x m s r y → at ≤ length d → Adds d at (spaced (hex_digits n)) r y × (r ≤ at + 9)
  adds_identifier n e a b k =
      let t : Adds d at (spaced (hex_digits n)) r y = adds_as (adds_on a b k) (ap (λ (z : List ℕ). 0x20 ∷ z) e) in
      (t, omega (arith, t.says, hex_length n))

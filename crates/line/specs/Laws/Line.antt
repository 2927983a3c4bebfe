-- Laws of ../Line.antt: the lines from their pieces, as the code makes them.
use Rattle.std.specs.Prelude.{ℕ, ◌≡◌, refl, Bool, true, false, List, [], ◌∷◌, ◌++◌}
use Rattle.std.proofs.Common.{append_assoc}
use Rattle.format.specs.Format.{pick}
use Rattle.digits.specs.Digits.{decimal, hex_digits}
use Rattle.line.specs.Line.{spaced, state, newline, deck_line, rule_line, element_line, end_line, refused_line}

pub state_on : (on : Bool) → on ≡ true → 0x20 ∷ 0x4F ∷ 0x4E ∷ [] ≡ spaced (state on)
unfolding state pick
state_on on e = rw e

pub state_off : (on : Bool) → on ≡ false → 0x20 ∷ 0x4F ∷ 0x46 ∷ 0x46 ∷ [] ≡ spaced (state on)
unfolding state pick
state_off on e = rw e

-- a line of a word and two numbers
unfoldable pub numbers_line : List ℕ → ℕ → ℕ → List ℕ
numbers_line word m n = word ++ (spaced (decimal m) ++ (spaced (decimal n) ++ newline))

pub numbers_is : (word : List ℕ) (m n : ℕ) → ((word ++ spaced (decimal m)) ++ spaced (decimal n)) ++ newline ≡ numbers_line word m n
unfolding numbers_line
numbers_is word m n = simp append_assoc

pub deck_is : (version bytes : ℕ) → numbers_line (0x44 ∷ 0x45 ∷ 0x43 ∷ 0x4B ∷ []) version bytes ≡ deck_line version bytes
unfolding numbers_line deck_line
deck_is version bytes = refl

pub end_is : (rules elements : ℕ) → numbers_line (0x45 ∷ 0x4E ∷ 0x44 ∷ []) rules elements ≡ end_line rules elements
unfolding numbers_line end_line
end_is rules elements = refl

pub refused_is : (number place : ℕ) → numbers_line (0x52 ∷ 0x45 ∷ 0x46 ∷ 0x55 ∷ 0x53 ∷ 0x45 ∷ 0x44 ∷ []) number place ≡ refused_line number place
unfolding numbers_line refused_line
refused_is number place = refl

pub rule_is : (k : ℕ) (on : Bool) (units elements : ℕ)
    → (((((0x52 ∷ 0x55 ∷ 0x4C ∷ 0x45 ∷ []) ++ spaced (decimal k)) ++ spaced (state on)) ++ spaced (decimal units)) ++ spaced (decimal elements)) ++ newline ≡ rule_line k on units elements
unfolding rule_line
rule_is k on units elements = simp append_assoc

pub element_is : (i id bytes : ℕ)
    → ((((0x45 ∷ 0x4C ∷ 0x45 ∷ 0x4D ∷ []) ++ spaced (decimal i)) ++ spaced (hex_digits id)) ++ spaced (decimal bytes)) ++ newline ≡ element_line i id bytes
unfolding element_line
element_is i id bytes = simp append_assoc

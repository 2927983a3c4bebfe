-- The lines of a listing as bytes: document 01, "One deck whole".
use Rattle.std.specs.Prelude.{ℕ, ◌≤◌, ◌≡◌, Bool, List, [], ◌∷◌, ◌++◌, length}
use Rattle.format.specs.Format.{pick}
use Rattle.buffer.specs.Laid.{put}
use Rattle.digits.specs.Digits.{decimal, hex_digits}

-- "state ON or OFF"
unfoldable pub state : Bool → List ℕ
state on = pick on (0x4F ∷ 0x4E ∷ []) (0x4F ∷ 0x46 ∷ 0x46 ∷ [])

abbrev pub spaced : List ℕ → List ℕ
spaced bs = 0x20 ∷ bs

abbrev pub newline : List ℕ
newline = 0x0A ∷ []

-- `DECK 1 70`: "version, bytes"
unfoldable pub deck_line : ℕ → ℕ → List ℕ
deck_line version bytes = (0x44 ∷ 0x45 ∷ 0x43 ∷ 0x4B ∷ []) ++ (spaced (decimal version) ++ (spaced (decimal bytes) ++ newline))

-- `RULE 0 ON 1 1`: "rule, state ON or OFF, name units, elements"
unfoldable pub rule_line : ℕ → Bool → ℕ → ℕ → List ℕ
rule_line k on units elements =
    (0x52 ∷ 0x55 ∷ 0x4C ∷ 0x45 ∷ []) ++ (spaced (decimal k) ++ (spaced (state on) ++ (spaced (decimal units) ++ (spaced (decimal elements) ++ newline))))

-- `ELEM 0 000001F5 8`: "element within its rule, identifier in eight upper-case hex digits, data bytes"
unfoldable pub element_line : ℕ → ℕ → ℕ → List ℕ
element_line i id bytes = (0x45 ∷ 0x4C ∷ 0x45 ∷ 0x4D ∷ []) ++ (spaced (decimal i) ++ (spaced (hex_digits id) ++ (spaced (decimal bytes) ++ newline)))

-- `END 1 1`: "all rules, all elements"
unfoldable pub end_line : ℕ → ℕ → List ℕ
end_line rules elements = (0x45 ∷ 0x4E ∷ 0x44 ∷ []) ++ (spaced (decimal rules) ++ (spaced (decimal elements) ++ newline))

-- "A refused deck gives one line, `REFUSED number place`"
unfoldable pub refused_line : ℕ → ℕ → List ℕ
refused_line number place =
    (0x52 ∷ 0x45 ∷ 0x46 ∷ 0x55 ∷ 0x53 ∷ 0x45 ∷ 0x44 ∷ []) ++ (spaced (decimal number) ++ (spaced (decimal place) ++ newline))

-- a line at the start of a buffer of 96 bytes: the answer is its length, and what lies behind stays. By `fits` and `long`, which follow, a caller lends
-- the line on.
pub record Lined (d : List ℕ) (bs : List ℕ) (r : ℕ) (y : List ℕ) : Type 0 where
  pub says : r ≡ length bs
  pub leaves : y ≡ put d 0 bs
  pub fits : r ≤ length y
  pub long : 96 ≡ length y

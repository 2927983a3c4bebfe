-- How numbers are spelt in a listing: document 01, "One deck whole".
use Rattle.std.specs.Prelude.{ℕ, zero, suc, ◌+◌, ◌/◌, ◌%◌, List, [], ◌∷◌, ◌++◌, eqb, ltb}
use Rattle.format.specs.Format.{pick}

-- the decimal digits of a number below 10 ^ k, the first one first; of 0 there are none
unfoldable pub decimal_digits : ℕ → ℕ → List ℕ
decimal_digits zero n = []
decimal_digits (suc k) n = pick (eqb n 0) [] (decimal_digits k (n / 10) ++ ((48 + n % 10) ∷ []))

-- "Other numbers are decimal"
unfoldable pub decimal : ℕ → List ℕ
decimal n = decimal_digits 19 (n / 10) ++ ((48 + n % 10) ∷ [])

-- the last hexadecimal digit of a number: `0` to `9`, `A` to `F`
unfoldable pub hex_digit : ℕ → ℕ
hex_digit n = pick (ltb (n % 16) 10) (48 + n % 16) (55 + n % 16)

-- "identifier in eight upper-case hex digits"
unfoldable pub hex_digits : ℕ → List ℕ
hex_digits n =
    hex_digit (n / 0x10000000) ∷ hex_digit (n / 0x1000000) ∷ hex_digit (n / 0x100000) ∷ hex_digit (n / 0x10000)
    ∷ hex_digit (n / 0x1000) ∷ hex_digit (n / 0x100) ∷ hex_digit (n / 0x10) ∷ hex_digit n ∷ []

-- A double by whole numbers taken from its bits, and which doubles are dates: document 01, "Dates".
use Rattle.std.specs.Prelude.{ℕ, zero, suc, ◌+◌, ◌*◌, ◌/◌, ◌%◌, ◌^◌, Bool, true, false, ◌&&◌, leb, ltb}

-- from the top: a bit for the sign, 11 for the exponent, 52 digits
abbrev pub negative : ℕ → Bool
negative bits = leb (2 ^ 63) bits

abbrev pub exponent : ℕ → ℕ
exponent bits = bits % 2 ^ 63 / 2 ^ 52

abbrev pub digits : ℕ → ℕ
digits bits = bits % 2 ^ 52

-- the size of a double in units of 2 ^ -1074, the smallest: a whole number. Exponent 0 has no leading digit
abbrev pub scaled : ℕ → ℕ → ℕ
scaled zero t = t
scaled (suc x) t = (2 ^ 52 + t) * 2 ^ x

abbrev pub size : ℕ → ℕ
size bits = scaled (exponent bits) (digits bits)

-- one day in those units (shut, since the prover's arithmetic stops at numerals of 38 digits)
unfoldable pub day : ℕ
day = 2 ^ 1074

-- "above -657435 and below 2958466": the days that a size stays below, by the sign
abbrev pub bound : Bool → ℕ
bound true = 657435
bound false = 2958466

-- exponent 2047 is that of "infinities and not-a-numbers"
abbrev pub accepted : ℕ → Bool
accepted bits = ltb (exponent bits) 2047 && ltb (size bits) (bound (negative bits) * day)

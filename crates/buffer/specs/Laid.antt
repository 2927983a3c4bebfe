-- A deck in a lent buffer: bytes put, moved and opened in it, and what each leaves of the whole buffer.
use Rattle.std.specs.Prelude.{ℕ, ◌+◌, ◌-◌, List, ◌++◌, leb, length, take, drop, replicate}
use Rattle.format.specs.Format.{pick}

abbrev pub zeros : ℕ → List ℕ
zeros n = replicate n 0

-- bs in place of the bytes at a place, where there is room for them
unfoldable pub put : List ℕ → ℕ → List ℕ → List ℕ
put d at bs = take at d ++ (bs ++ drop (at + length bs) d)

unfoldable pub put_in : List ℕ → ℕ → List ℕ → List ℕ
put_in d at bs = pick (leb (at + length bs) (length d)) (put d at bs) d

-- a deck at the start of the buffer d, zeros up to hi, and d from hi on
unfoldable pub laid : List ℕ → ℕ → List ℕ → List ℕ
laid new hi d = new ++ (zeros (hi - length new) ++ drop hi d)

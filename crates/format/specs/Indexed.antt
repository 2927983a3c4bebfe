-- The combinator of ../Index.antt: a row of values behind an index of their places.
use Rattle.std.specs.Prelude.{ℕ, List}
use Rattle.format.specs.declared.Fault.{Fault}
use Rattle.format.specs.Format.{Format}
use Rattle.format.specs.ReadWrite.{EachFit}
use Rattle.format.specs.Index.{indexed_read, indexed_write}
use Rattle.format.specs.Laws.Index.{indexed_back, indexed_forth, indexed_inside, indexed_spells}

-- n offsets of w bytes, then n values, each where its offset says, counted from `origin` bytes before the first offset; else the fault c, at the offset
unfoldable pub indexed : {A : Type 0} → ℕ → ℕ → Fault → (ℕ → Format A) → ℕ → Format (List A)
indexed w origin c a n = record { read = indexed_read w origin c a n; write = indexed_write w origin c a; Fit = EachFit a 0 n; back = indexed_back w origin c a n; forth = indexed_forth w origin c a n; inside = indexed_inside w origin c a n; spells = indexed_spells w origin c a }

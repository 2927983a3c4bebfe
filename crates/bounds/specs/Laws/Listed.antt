-- Laws of ../Listed.antt: a number among the first rows, or among later ones.
use Rattle.std.specs.Prelude.{ℕ, ◌≤◌, ◌≡◌, refl, Bool, true, false, ◌&&◌, ◌||◌, List, ◌∷◌, leb, eqb, Ok, Err}
use Rattle.std.proofs.Common.{arith, le-leb}
use Rattle.format.specs.declared.Fault.{Fault}
use Rattle.format.specs.Answers.{Outcome}
use Rattle.format.specs.declared.Refusal.TheVariants.{At, Given}
use Rattle.format.specs.Fault.{place_of}
use Rattle.format.specs.ReadWrite.{within}
use Rattle.format.specs.Laws.ReadWrite.{within_fits}
use Rattle.bounds.specs.Listed.{Numbers, Listed, allowed, numbers, exactly, Lists}

pub allowed_first : (low high last : ℕ) (rows : List Numbers) (n q : ℕ) → low ≤ n → n ≤ high → q ≤ last → allowed (numbers low high last ∷ rows) n q ≡ true
unfolding allowed
allowed_first low high last rows n q f g h = rw (within_fits low high n f g, le-leb q last h)

pub allowed_later : (row : Numbers) (rows : List Numbers) (n q : ℕ) → allowed rows n q ≡ true → allowed (row ∷ rows) n q ≡ true
unfolding allowed
allowed_later row rows n q e = by row
  where
    go : (b : Bool) → (b || allowed rows n q) ≡ true
    go true = refl
    go false = e

    by : (row : Numbers) → allowed (row ∷ rows) n q ≡ true
    by (numbers low high last) = go (within low high n && leb q last)
    by (exactly m o) = go (eqb n m && eqb q o)

-- ---- an answer, accepted ones too: at a place up to the last, or refused by one of the rows

abbrev pub Within : List Numbers → ℕ → Outcome → Type 0
Within rows last (Ok n) = n ≤ last
Within rows last (Err why) = Lists rows (Err why)

pub within_lists : (rows : List Numbers) (last : ℕ) (o : Outcome) → Within rows last o → Lists rows o
within_lists rows last (Ok n) f = tt
within_lists rows last (Err why) f = f

listed_small : (c : Fault) (q : ℕ) → Listed c q → q ≤ 60000
listed_small Fault.Edition q h = omega arith
listed_small Fault.Long q h = omega arith
listed_small Fault.Cut q h = h
listed_small Fault.Mark q h = omega arith
listed_small Fault.Version q h = omega arith
listed_small Fault.Count q h = h
listed_small Fault.Form q h = h
listed_small Fault.Field q h = h
listed_small Fault.Unknown q h = h
listed_small Fault.Foreign q h = h
listed_small Fault.Date q h = h
listed_small Fault.Size q h = h
listed_small Fault.Over q h = h
listed_small Fault.Table q h = omega arith
listed_small Fault.Stated q h = omega arith
listed_small Fault.Absent q h = omega arith
listed_small Fault.Text q h = omega arith
listed_small Fault.Rules q h = omega arith
listed_small Fault.Large q h = omega arith
listed_small Fault.Room q h = omega arith
listed_small Fault.Full q h = omega arith
listed_small Fault.Last q h = omega arith
listed_small Fault.Offset q h = h

pub within_small : (rows : List Numbers) (last : ℕ) (o : Outcome) → Within rows last o → last ≤ 60000 → place_of o ≤ 60000
within_small rows last (Ok n) f h = omega arith
within_small rows last (Err (At c q)) f h = listed_small c q f.1
within_small rows last (Err (Given c q)) f h = listed_small c q f.1

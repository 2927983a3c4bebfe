-- The value of lone data is of dates that are dates.
use Rattle.std.specs.Prelude.{ℕ, ◌≡◌, List, get_or, Ok}
use Rattle.std.proofs.Common.{Fits}
use Rattle.std.specs.Int.{w8}
use Rattle.format.specs.Laws.Format.{bytes_all}
use Rattle.value.specs.Answers.{Valued}
use Rattle.value.specs.declared.Value.{Value}
use Rattle.value.specs.Value.{value_of}
use Rattle.value.specs.Laws.Dates.{Dated, value_has, has_is, dated_data}

pub value_dated : (edition id : ℕ) (s : List ℕ) (v : Value) {x : Valued} → ((i : ℕ) → Fits w8 (get_or s i 0)) → x ≡ value_of edition id s → x ≡ Ok v → Dated v
value_dated edition id s v b e h = has_is Dated h e (value_has Dated _ (dated_data _) edition s (bytes_all s b))

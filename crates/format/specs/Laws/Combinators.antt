-- Laws of the combinators.
use Rattle.std.specs.Prelude.{ℕ, ◌≡◌, List, length}
use Rattle.format.specs.Format.{shift, mapped, and_then, pick, whole, Format}
use Rattle.format.specs.ReadWrite.{pair_read, pair_write, judge, judge_of, home, value, spelt, number_read, within, bit, each_read, each_write, weighed}
use Rattle.format.specs.Combinators.{pair, judged, via, at_start, nothing, seq, ◌then◌, number, fixed, bytes, count, flag, each, counted, listed, measured, sized}

-- a value that fits behind what has none
pub then_fit : {B : Type 0} (a : Format (Unit {0})) (b : Format B) (y : B) → (a then b).Fit y → b.Fit y
unfolding ◌then◌ seq via pair
then_fit a b y f = f.0.1

-- a row has as many values as it is asked for
pub each_long : {A : Type 0} (a : ℕ → Format A) (i n : ℕ) (xs : List A) → (each a i n).Fit xs → length xs ≡ n
unfolding each
each_long a i n xs f = f.0

-- Where a case is computed, its `unfolding` line names this: it opens all that a format reads and writes by. The formats of each layer have the like.
unfoldable pub ComputingFormats : Type 0
unfolding shift mapped and_then pick whole pair_read pair_write judge judge_of home value spelt number_read within bit each_read each_write weighed pair judged via at_start nothing seq ◌then◌ number fixed bytes count flag each counted listed measured sized
ComputingFormats = Unit {0}

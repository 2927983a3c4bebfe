-- The view of a word within its data: document 01, "Tables and views".
use Rattle.std.specs.Prelude.{ℕ, ◌+◌, List, [], ◌∷◌, drop, Err}
use Rattle.format.specs.declared.Fault.TheVariants as Fault
use Rattle.format.specs.Row.{start_in}
use Rattle.text.specs.Text.{Text, word}
use Rattle.element.specs.Data.{Data, words_of}
use Rattle.view.specs.Answers.{View}
use Rattle.format.specs.declared.Refusal.TheVariants.{At}
use Rattle.view.specs.View.{text_view}

-- the first of the words that stand from a place on: its String, behind 4 zero bytes; "no such .. word": 16 at 2
abbrev pub word_at : ℕ → List Text → View
word_at at [] = Err (At Fault.Absent 2)
word_at at (t ∷ ws) = text_view (at + 4) t

-- word w of data that start at a place, behind the count; "or no word list there": other data have no words
abbrev pub data_word : ℕ → ℕ → Data → View
data_word w at d = word_at (start_in (λ i. word) (at + 4) (words_of d) w) (drop w (words_of d))

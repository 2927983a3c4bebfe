-- The data of an element, by its kind: document 01, "The deck"; source document 001, sections 2.4.1, 2.4.2, 2.4.4, 2.4.10 and 2.4.11.
use Rattle.std.specs.Prelude.{ℕ, refl, Bool, false, List, []}
use Rattle.format.specs.declared.Fault.TheVariants as Fault
use Rattle.format.specs.Format.{Format}
use Rattle.format.specs.Combinators.{via, seq, ◌then◌, number, count, fixed, flag, listed}
use Rattle.text.specs.Text.{word, Text}
use Rattle.date.specs.Date.{date}
use Rattle.kind.specs.declared.Kind.{Kind}

-- one end of a date span: whether it counts, and its date
pub record Limit : Type 0 where
  pub set : Bool
  pub at : ℕ

-- what the data says: of a marker and of a simple element nothing
pub data Data : Type 0 where
  plain : Data
  words : List Text → Data
  sizes : ℕ → ℕ → Data
  span : Limit → Limit → Data

-- f of the words, where there are words
abbrev pub of_words : {W : Type 0} → W → (List Text → W) → Data → W
of_words absent f plain = absent
of_words absent f (words ws) = f ws
of_words absent f (sizes a b) = absent
of_words absent f (span a b) = absent

-- what a case of Data holds; of the other cases, anything
abbrev pub words_of : Data → List Text
words_of d = of_words [] (λ ws. ws) d

abbrev pub sizes_of : Data → ℕ × ℕ
sizes_of plain = (0, 0)
sizes_of (words ws) = (0, 0)
sizes_of (sizes a b) = (a, b)
sizes_of (span a b) = (0, 0)

abbrev pub span_of : Data → Limit × Limit
span_of plain = (record { set = false; at = 0 }, record { set = false; at = 0 })
span_of (words ws) = (record { set = false; at = 0 }, record { set = false; at = 0 })
span_of (sizes a b) = (record { set = false; at = 0 }, record { set = false; at = 0 })
span_of (span a b) = (a, b)

-- "1, 0": two 4-byte words
unfoldable pub one_zero : Format (Unit {0})
one_zero = fixed 4 1 Fault.Field then fixed 4 0 Fault.Field

-- marker: "1, 0, 1 (three 4-byte words)"
unfoldable pub marker_data : Format Data
marker_data = via (one_zero then fixed 4 1 Fault.Field) (λ u. plain) (λ d. tt) (λ u f. refl)

-- simple: "1, 0"
unfoldable pub simple_data : Format Data
simple_data = via one_zero (λ u. plain) (λ d. tt) (λ u f. refl)

-- word list: "4-byte count 0 to 64, then the words"
abbrev pub word_count : Format ℕ
word_count = count 4 0 64

unfoldable pub word_data : Format Data
word_data = via (listed word_count word) words words_of (λ ws f. refl)

-- size: "1, 0, minimum KB, maximum KB"
unfoldable pub size_data : Format Data
size_data = via (one_zero then seq (number 4) (number 4)) (λ p. sizes p.0 p.1) sizes_of (λ p f. refl)

-- dates: "1, 0, flag, 0, after date, flag, 0, before date"
unfoldable pub limit : Format Limit
limit = via (seq flag (fixed 4 0 Fault.Field then date)) (λ p. record { set = p.0; at = p.1 }) (λ l. (l.set, l.at)) (λ p f. refl)

unfoldable pub date_data : Format Data
date_data = via (one_zero then seq limit limit) (λ p. span p.0 p.1) span_of (λ p f. refl)

abbrev pub data_of : Kind → Format Data
data_of Kind.Marker = marker_data
data_of (Kind.Simple r) = simple_data
data_of Kind.WordList = word_data
data_of (Kind.Size r) = size_data
data_of (Kind.Dates r) = date_data

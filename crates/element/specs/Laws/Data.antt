-- Laws of ../Data.antt: only a word list has words; a list that stands at a place.
use Rattle.std.specs.Prelude.{ℕ, ◌+◌, ◌≡◌, List, length}
use Rattle.std.proofs.Common.{sym, ap, ◌∙◌, append_assoc}
use Rattle.format.specs.ReadWrite.{pair_write, spelt, each_write}
use Rattle.format.specs.Laws.ReadWrite.{length_spelt}
use Rattle.format.specs.Combinators.{via, judged, pair, number, count, each, counted, listed}
use Rattle.format.specs.Laws.Written.{behind, Stands, Held, Row}
use Rattle.text.specs.Text.{word, Text}
use Rattle.kind.specs.declared.Kind.{Kind}
use Rattle.element.specs.Data.{Data, of_words, words_of, marker_data, simple_data, word_data, size_data, date_data, data_of}

-- ---- only a word list has words
abbrev pub Other : Kind → Type 0
Other Kind.Marker = Unit {0}
Other (Kind.Simple r) = Unit {0}
Other Kind.WordList = ⊥
Other (Kind.Size r) = Unit {0}
Other (Kind.Dates r) = Unit {0}

pub words_none : {W : Type 0} (absent : W) (f : List Text → W) (k : Kind) (x : Data) → (data_of k).Fit x → Other k → of_words absent f x ≡ absent
unfolding marker_data simple_data size_data date_data via
words_none absent f Kind.Marker x h o = ap (of_words absent f) (sym h.1)
words_none absent f (Kind.Simple r) x h o = ap (of_words absent f) (sym h.1)
words_none absent f Kind.WordList x h o = absurd o
words_none absent f (Kind.Size r) x h o = ap (of_words absent f) (sym h.1)
words_none absent f (Kind.Dates r) x h o = ap (of_words absent f) (sym h.1)

-- a list that stands at a place: the number of its words, and the words
pub list_parts : (s : List ℕ) (at : ℕ) (x : Data) (u : List ℕ) → Stands word_data s at x u → Held (number 4) s at (length (words_of x)) × Row (λ i. word) s 0 (at + 4) (words_of x) u
unfolding word_data listed counted count via judged pair pair_write each number
list_parts s at x u b =
    let n = length (words_of x) in
    let ws = each_write (λ i. word) 0 (words_of x) in
    let e = b.is ∙ append_assoc (spelt 4 n) ws u in
    ((_, record { fit = b.fit.0.0.0.0; is = e }), record { fit = b.fit.0.0.1.1; is = rw length_spelt at (behind s at (spelt 4 n) _ e) })

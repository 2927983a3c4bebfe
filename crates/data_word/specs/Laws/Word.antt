-- Laws of ../Word.antt: how the code finds a word of a row, of a list, of the data of a kind.
use Rattle.std.specs.Prelude.{ℕ, ◌+◌, ◌≤◌, ◌<◌, ◌≡◌, length, Ok, Err}
use Rattle.std.proofs.Common.{arith, sym, ◌∙◌}
use Rattle.std.proofs.Math.Path.{ap}
use mathlib.Core.List.{List, [], ◌∷◌}
use Rattle.std.proofs.Math.ListN.{drop, drop_of_length-le}
use Rattle.format.specs.declared.Fault.{Fault}
use Rattle.format.specs.Laws.Answers.{Read}
use Rattle.text.specs.Laws.Answers.{StringRead}
use Rattle.view.specs.Answers.{View}
use Rattle.format.specs.declared.Refusal.{Refusal}
use Rattle.format.specs.declared.Refusal.TheVariants.{At}
use Rattle.format.specs.Laws.ReadWrite.{length_spelt}
use Rattle.format.specs.Combinators.{number}
use Rattle.format.specs.Laws.Seen.{seen, itself}
use Rattle.format.specs.Laws.Written.{Row}
use Rattle.format.specs.Laws.Back.{Where, stands_room, back_got, back_no}
use Rattle.format.specs.Row.{start_in}
use Rattle.format.specs.Laws.Skip.{Skipped, skip_is, skip_never, nth}
use Rattle.text.specs.declared.Form.{Form}
use Rattle.text.specs.Text.{Text, length_of, unit, string, word}
use Rattle.text.specs.Laws.Seen.{text_seen, text_back}
use Rattle.text.specs.Laws.Written.{word_length}
use Rattle.kind.specs.declared.Kind.{Kind}
use Rattle.element.specs.Data.{words_of, word_data, data_of}
use Rattle.element.specs.Laws.Data.{Other, words_none, list_parts}
use Rattle.view.specs.Laws.View.{units_of, units_of_lem}
use Rattle.data_word.specs.Word.{word_at, data_word}

-- whatever words stand from a place on, v is the view of word w
unfoldable pub Words : List ℕ → ℕ → ℕ → View → Type 0
Words s at w v = (ws : List Text) (t : List ℕ) → Row (λ i. word) s 0 at ws t → w < length ws → v ≡ word_at (start_in (λ i. word) at ws w) (drop w ws)

abbrev text_as : ℕ → Form → ℕ → StringRead
text_as e form n = Ok (e, form, n)

-- z is what was told of its start
pub word_never : (s : List ℕ) (at w : ℕ) (v : View) {z : Read} {why : Refusal} → Skipped (λ i. word) s at w w z → z ≡ Err why → Words s at w v
unfolding Words
word_never s at w v k j ws t row l = skip_never (λ i. word) s at w w k ws t row (omega arith) j

pub word_is : (s : List ℕ) (at w : ℕ) (v : View) {z : Read} {r : StringRead} {u q : ℕ} → Skipped (λ i. word) s at w w z → z ≡ Ok (q, u) → r ≡ text_seen length_of word s q → v ≡ units_of (length s) r → Words s at w v
unfolding Words
word_is s at w v {r = r} {q = q} k j e h ws t row l =
    let n = nth (λ i. word) s at w q ws t (skip_is (λ i. word) s at w w k ws t row (omega arith) j) row l in
    let x = n.x in
    let m = word_length unit x in
    let o : q + length (word.write x) ≡ q + 4 + length (string.write x) = omega arith in
    units_of_lem (length s) (q + 4) x h (text_back length_of word s q n.stands e ∙ ap (λ (m : ℕ). text_as m x.form (length x.units)) o) (omega (arith, stands_room word s q n.stands))
    ∙ ap (λ (a : ℕ). word_at a (x ∷ n.ys)) n.starts ∙ ap (word_at (start_in (λ i. word) at ws w)) (sym n.whole)

module _ (s : List ℕ) (at w : ℕ) {c : Read} (e : c ≡ seen itself (number 4) s at) where
  pub list_cut : (v : View) {why : Refusal} → c ≡ Err why → Where word_data s at (data_word w at) v
  unfolding Where
  list_cut v h x b = back_no itself (number 4) s at (list_parts s at x b.0 b.1).0.1 e h

  module _ {n q : ℕ} (h : c ≡ Ok (q, n)) where
    pub list_short : n ≤ w → Where word_data s at (data_word w at) (Err (At Fault.Absent 2))
    unfolding Where
    list_short l x b =
        let g = (back_got itself (number 4) s at (list_parts s at x b.0 b.1).0.1 e h).0 in
        let d : drop w (words_of x) ≡ [] = drop_of_length-le (words_of x) {i = w} (omega arith) in
        ap (word_at (start_in (λ i. word) (at + 4) (words_of x) w)) (sym d)

    pub list_is : (v : View) → w < n → Words s q w v → Where word_data s at (data_word w at) v
    unfolding Where Words number
    list_is v l k x b =
        let p = list_parts s at x b.0 b.1 in
        let g = back_got itself (number 4) s at p.0.1 e h in
        let z : q ≡ at + 4 = g.1 ∙ ap (λ (m : ℕ). at + m) (length_spelt 4 (length (words_of x))) in
        (rw z at k) (words_of x) b.0 p.1 (omega (arith, g.0))

pub data_other : (k : Kind) (s : List ℕ) (at w : ℕ) → Other k → Where (data_of k) s at (data_word w at) (Err (At Fault.Absent 2))
unfolding Where
data_other k s at w o x b =
    let n : words_of x ≡ [] = words_none [] (λ ws. ws) k x b.1.fit o in
    let d : drop w (words_of x) ≡ [] = drop_of_length-le (words_of x) {i = w} (omega (arith, ap length n)) in
    ap (word_at (start_in (λ i. word) (at + 4) (words_of x) w)) (sym d)

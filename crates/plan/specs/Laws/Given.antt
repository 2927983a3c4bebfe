-- What callers hand over fits: texts as their bytes, numbers of 32 bits, given elements that were accepted.
use Rattle.std.specs.Prelude.{ℕ, ◌+◌, ◌<◌, ◌^◌, ◌≡◌, refl, Bool, true, false, List, [], ◌∷◌, ◌++◌, eqb, length, Ok, Err}
use Rattle.std.proofs.Common.{arith, sym, ap, ◌∙◌, length-append}
use Rattle.format.specs.declared.Fault.{Fault}
use Rattle.format.specs.Format.{Answer, got, refused, Bytes, pick, whole}
use Rattle.format.specs.Laws.Format.{apart, mapped_got}
use Rattle.format.specs.ReadWrite.{AllFit}
use Rattle.format.specs.Laws.ReadWrite.{within_fits, all_append}
use Rattle.format.specs.Combinators.{pair, judged, via, number, count, each, counted, listed}
use Rattle.text.specs.Laws.Written.{length_fits, fits_string, fits_word}
use Rattle.text.specs.Text.{Text, unit, string, word}
use Rattle.kind.specs.declared.Product.{Product}
use Rattle.kind.specs.declared.Kind.{Kind}
use Rattle.kind.specs.Answers.{Row}
use Rattle.format.specs.declared.Refusal.TheVariants.{At, Given}
use Rattle.kind.specs.Kinds.{kinds, row_in, row_of}
use Rattle.kind.specs.Laws.Kinds.{offered_is}
use Rattle.element.specs.Data.{words, data_of, marker_data, simple_data, word_data, size_data, date_data}
use Rattle.element.specs.Element.{Element, element, identifier, is_row, data_by}
use Rattle.given.specs.Given.{is_text, units, text_of, given, given_by, with_data}
use Rattle.parts.specs.Laws.Text.{text_units}

-- ---- texts
units_fit : (i : ℕ) (s : List ℕ) → Bytes s → AllFit (λ j. number 2) i (units s)
unfolding units AllFit number Bytes
units_fit i [] b = tt
units_fit i (x ∷ []) b = tt
units_fit i (x ∷ (y ∷ s)) b = (omega (arith, b.0, b.1.0), units_fit (i + 1) s b.1.1)

pub text_fits : (s : List ℕ) → Bytes s → is_text s ≡ true → string.Fit (text_of s)
text_fits s b e = fits_string unit (text_of s) (length_fits (length (units s)) (text_units s b e).1) (units_fit 0 s b)

pub word_fits : (s : List ℕ) → Bytes s → is_text s ≡ true → word.Fit (text_of s)
word_fits s b e = fits_word unit (text_of s) (text_fits s b e)

-- ---- a given element that was accepted
whole_got : {A : Type 0} (n : ℕ) (a : Answer A) (x : A) (m : ℕ) → whole n a ≡ got x m → a ≡ got x m
unfolding whole pick
whole_got n (got y k) x m e = go (eqb k n) e
  where
    go : (b : Bool) → pick b (got y k) (refused Fault.Over k) ≡ got x m → got y k ≡ got x m
    go true h = h
    go false h = apart (sym h)
whole_got n (refused c q) x m e = apart (sym e)

pub given_fits : (p : Product) (id : ℕ) (s : List ℕ) (x : Element) (n : ℕ) → id < 256 ^ 4 → Bytes s → given p id s ≡ got x n → (element p).Fit x
unfolding given element pair identifier judged number row_of
given_fits p id s x n l b e = go (row_of p id) refl e
  where
    go : (w : Row) → row_of p id ≡ w → given_by w id s ≡ got x n → (element p).Fit x
    go (Err (At c q)) h z = apart (sym z)
    go (Err (Given c q)) h z = apart (sym z)
    go (Ok k) h z =
        let m = mapped_got (with_data id) (whole (length s) ((data_of k).read s)) x n z in
        let f = ((data_of k).forth s m.0 n b (whole_got (length s) ((data_of k).read s) m.0 n m.1.0)).fit in
        let w : row_in kinds id ≡ Ok k = offered_is p (row_in kinds id) h in
        rw m.1.1 (((l, ap is_row w), ap is_row h), rw w f)

-- ---- a word more in a list
more_words : (ws : List Text) (t : Text) → word_data.Fit (words ws) → length ws < 64 → word.Fit t → word_data.Fit (words (ws ++ (t ∷ [])))
unfolding word_data listed counted via pair each AllFit count judged number
more_words ws t f l g =
    let n : length (ws ++ (t ∷ [])) ≡ length ws + 1 = length-append ws (t ∷ []) in
    ((((omega (arith, n), within_fits 0 64 (length (ws ++ (t ∷ []))) (omega arith) (omega (arith, n))), (refl, all_append (λ i. word) 0 ws (t ∷ []) f.0.0.1.1 (g, tt))), refl), refl)

-- of the kinds only a word list has words
word_list : (k : Kind) (ws : List Text) → (data_of k).Fit (words ws) → k ≡ Kind.WordList
unfolding marker_data simple_data size_data date_data via
word_list Kind.Marker ws f = absurd (let z : ◌≡◌ {A = ℕ} 0 1 = cc f.1 in omega arith)
word_list (Kind.Simple r) ws f = absurd (let z : ◌≡◌ {A = ℕ} 0 1 = cc f.1 in omega arith)
word_list Kind.WordList ws f = refl
word_list (Kind.Size r) ws f = absurd (let z : ◌≡◌ {A = ℕ} 0 1 = cc f.1 in omega arith)
word_list (Kind.Dates r) ws f = absurd (let z : ◌≡◌ {A = ℕ} 0 1 = cc f.1 in omega arith)

pub word_more : (p : Product) (id : ℕ) (ws : List Text) (t : Text) → (element p).Fit (id, words ws) → length ws < 64 → word.Fit t → (element p).Fit (id, words (ws ++ (t ∷ [])))
unfolding element pair identifier judged
word_more p id ws t f l g = (f.0, by (row_in kinds id) refl f.1)
  where
    by : (w : Row) → row_in kinds id ≡ w → (data_by w).Fit (words ws) → (data_by w).Fit (words (ws ++ (t ∷ [])))
    by (Ok k) e h = let i = word_list k ws h in rw i (more_words ws t (rw i at h) l g)
    by (Err why) e h = absurd (let z : ◌≡◌ {A = Bool} false true = sym (ap is_row e) ∙ f.0.0.1 in let y : ◌≡◌ {A = ℕ} 0 1 = cc in omega arith)

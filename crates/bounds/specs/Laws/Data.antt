-- How far the data of an element go: at most 33,092 bytes, those of a list of 64 words of 255 units.
use Rattle.std.specs.Prelude.{ℕ, ◌≤◌, ◌≡◌, refl, Bool, true, false, List, eqb, length, Ok, Err}
use Rattle.std.proofs.Common.{arith, ◌∙◌}
use Rattle.format.specs.declared.Fault.{Fault}
use Rattle.format.specs.Format.{Answer, got, refused, end_of, whole, pick, Format, Bytes}
use Rattle.format.specs.Laws.Format.{end_mapped}
use Rattle.format.specs.Laws.ReadWrite.{within_is}
use Rattle.format.specs.Combinators.{pair, judged, seq, number, count, fixed, flag}
use Rattle.text.specs.Length.{long_length, in_long, length_behind}
use Rattle.text.specs.Text.{string_length, string_of, unit, string, word_of, word}
use Rattle.text.specs.Laws.Written.{length_most}
use Rattle.date.specs.Date.{date}
use Rattle.kind.specs.declared.Product.{Product}
use Rattle.kind.specs.declared.Kind.{Kind}
use Rattle.kind.specs.Answers.{Row}
use Rattle.format.specs.declared.Refusal.{Refusal}
use Rattle.format.specs.declared.Refusal.TheVariants.{At}
use Rattle.kind.specs.Kinds.{kinds, row_in, offered, row_of}
use Rattle.kind.specs.Laws.Kinds.{lacking, foreign}
use Rattle.element.specs.Data.{one_zero, marker_data, simple_data, word_count, word_data, size_data, limit, date_data, data_of}
use Rattle.given.specs.Given.{given, given_by, with_data}
use Rattle.bounds.specs.Laws.Bounded.{Bounded, bounded_number, bounded_nothing, bounded_pick, bounded_judged, bounded_via, bounded_start, bounded_pair, bounded_then, bounded_fixed, bounded_flag, bounded_count, bounded_row, bounded_listed}
use Rattle.bounds.specs.Calls.{most}

-- a bound is also any greater one
wider : {A : Type 0} (a : Format A) (m n : ℕ) → m ≤ n → Bounded a m → Bounded a n
unfolding Bounded
wider a m n h f s b = omega (arith, f s b)

text_length : Bounded string_length 3
unfolding string_length length_behind long_length
text_length = bounded_via _ _ _ _ 3 (bounded_pair (number 1) length_behind 1 2 (bounded_number 1) (λ b f. bounded_pick (eqb b 255) in_long _ 2 (bounded_via _ _ _ _ 2 (bounded_judged _ Fault.Form (number 2) 2 (bounded_number 2))) (wider _ 0 2 (omega arith) (bounded_via _ _ _ _ 0 bounded_nothing))))

text : Bounded string 513
unfolding string_of
text = bounded_start _ 513 (bounded_via _ _ _ _ 513 (bounded_pair string_length _ 3 510 text_length (λ l f. bounded_row unit 2 (bounded_number 2) l.1 255 (length_most l f))))

wordy : Bounded word 517
unfolding word_of
wordy = bounded_then (fixed 4 0 Fault.Field) string 4 513 (bounded_fixed 4 0 Fault.Field) text

count_most : (n : ℕ) → word_count.Fit n → n ≤ 64
unfolding count judged
count_most n f = (within_is 0 64 n f.1).1

one_zero_lem : Bounded one_zero 8
unfolding one_zero
one_zero_lem = bounded_then (fixed 4 1 Fault.Field) (fixed 4 0 Fault.Field) 4 4 (bounded_fixed 4 1 Fault.Field) (bounded_fixed 4 0 Fault.Field)

limited : Bounded limit 16
unfolding limit seq date
limited =
    bounded_via _ _ _ _ 16 (bounded_pair flag (λ x. _) 4 12 bounded_flag (λ x f. bounded_then (fixed 4 0 Fault.Field) date 4 8 (bounded_fixed 4 0 Fault.Field) (bounded_judged _ Fault.Date (number 8) 8 (bounded_number 8))))

pub bounded_data : (k : Kind) → Bounded (data_of k) most
unfolding marker_data simple_data word_data size_data date_data seq
bounded_data Kind.Marker = wider _ 12 most (omega arith) (bounded_via _ _ _ _ 12 (bounded_then one_zero (fixed 4 1 Fault.Field) 8 4 one_zero_lem (bounded_fixed 4 1 Fault.Field)))
bounded_data (Kind.Simple r) = wider _ 8 most (omega arith) (bounded_via _ _ _ _ 8 one_zero_lem)
bounded_data Kind.WordList = bounded_via _ _ _ _ most (bounded_listed word_count word 4 517 64 (bounded_count 4 0 64) count_most wordy)
bounded_data (Kind.Size r) = wider _ 16 most (omega arith) (bounded_via _ _ _ _ 16 (bounded_then one_zero (pair (number 4) (λ x. number 4)) 8 8 one_zero_lem (bounded_pair (number 4) (λ x. number 4) 4 4 (bounded_number 4) (λ x f. bounded_number 4))))
bounded_data (Kind.Dates r) = wider _ 40 most (omega arith) (bounded_via _ _ _ _ 40 (bounded_then one_zero (pair limit (λ x. limit)) 8 32 one_zero_lem (bounded_pair limit (λ x. limit) 16 16 limited (λ x f. limited))))

-- ---- a given element

-- what holds of 41 and of 42 at 0 holds of every identifier that is refused
pub row_refuses : (P : Refusal → Type 0) → P (At Fault.Unknown 0) → P (At Fault.Foreign 0) → (p : Product) (id : ℕ) {why : Refusal} → row_of p id ≡ Err why → P why
unfolding row_of offered
row_refuses P u f p id {why} e = go (row_in kinds id) refl e
  where
    go : (r : Row) → row_in kinds id ≡ r → offered p r ≡ Err why → P why
    go (Ok k) h i = rw (foreign p k i) f
    go (Err d) h i = rw (lacking kinds id (h ∙ i)) u

pub whole_end : {A : Type 0} (n : ℕ) (a : Answer A) → end_of (whole n a) ≤ end_of a
unfolding whole end_of pick
whole_end n (got x m) = go (eqb m n)
  where
    go : (b : Bool) → end_of (pick b (got x m) (refused Fault.Over m)) ≤ m
    go true = omega arith
    go false = omega arith
whole_end n (refused c q) = omega arith

pub given_end : (p : Product) (id : ℕ) (s : List ℕ) → Bytes s → end_of (given p id s) ≤ most
unfolding given Bounded end_of
given_end p id s b = go (row_of p id) refl
  where
    go : (r : Row) → row_of p id ≡ r → end_of (given_by r id s) ≤ most
    go (Ok k) h = omega (arith, end_mapped (with_data id) (whole (length s) ((data_of k).read s)), whole_end (length s) ((data_of k).read s), bounded_data k s b)
    go (Err why) h = row_refuses (λ w. end_of (given_by (Err w) id s) ≤ most) (omega arith) (omega arith) p id h

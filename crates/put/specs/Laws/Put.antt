-- The data of a value put into a buffer, as the code does it.
use Rattle.std.specs.Prelude.{ℕ, ◌+◌, ◌≤◌, ◌<◌, ◌≡◌, Bool, false, ◌&&◌, List, ◌++◌, eqb, length, drop, Float, Ok, Err}
use Rattle.std.proofs.Math.Nat.{zero-add}
use Rattle.std.proofs.Common.{arith, ◌∙◌}
use Rattle.std.proofs.Math.Path.{refl}
use Rattle.std.proofs.Math.Bool.{true}
use Rattle.std.specs.Float.{binary64}
use Rattle.std.specs.Float.Ieee.{to_bits}
use borrow.Author.Tests.{le-leb, lt-leb, eqb-true}
use Rattle.format.specs.declared.Fault.{Fault}
use Rattle.format.specs.declared.Refusal.TheVariants.{At}
use Rattle.format.specs.Format.{pick, Format}
use Rattle.format.specs.ReadWrite.{pair_write, spelt, bit}
use Rattle.format.specs.Combinators.{pair, seq, ◌then◌, judged, via, number, fixed, flag}
use Rattle.buffer.specs.Laid.{put, put_in}
use Rattle.buffer.specs.Laws.Laid.{put_in_lem, put_both}
use Rattle.date.specs.Date.{date}
use Rattle.element.specs.Data.{Data, plain, sizes, span, Limit, one_zero, marker_data, simple_data, word_data, size_data, limit, date_data, data_of}
use Rattle.kind.specs.declared.Kind.{Kind}
use Rattle.value.specs.declared.Span.{Span}
use Rattle.value.specs.declared.Value.{Value}
use Rattle.put.specs.Plan.{after_of, before_of, shape, is_of, write, deny, if_room, put_says, put_leaves, Puts}

abbrev pub limit_of : Bool → Float → Limit
limit_of b x = record { set = b; at = to_bits binary64 x }

abbrev pub span_data : Span → Data
span_data v = span (after_of v) (before_of v)

-- ---- the data, put number by number

pub one_zero_put : (xs : List ℕ) {ys : List ℕ} → ys ≡ put_in xs 0 (spelt 8 1) → ys ≡ put_in xs 0 (one_zero.write tt)
unfolding one_zero fixed ◌then◌ seq pair pair_write via judged number spelt
one_zero_put xs e = e

pub limit_put : (xs : List ℕ) (at : ℕ) (b : Bool) (n : ℕ) {ys zs ws : List ℕ} → ys ≡ put_in xs at (spelt 4 (bit b)) → zs ≡ put_in ys (at + 4) (spelt 4 0) → ws ≡ put_in zs (at + 8) (spelt 8 n) → at + 16 ≤ length xs
    → ws ≡ put_in xs at (limit.write (record { set = b; at = n }))
unfolding limit flag fixed date ◌then◌ seq pair pair_write via judged number spelt
limit_put xs at b n e f g h = put_both xs at (spelt 4 (bit b) ++ spelt 4 0) (spelt 8 n) (put_both xs at (spelt 4 (bit b)) (spelt 4 0) e f refl (omega arith)) g refl (omega arith)

module _ (xs : List ℕ) {ys : List ℕ} (e : ys ≡ put_in xs 0 (one_zero.write tt)) where
  pub simple_put : ys ≡ put_in xs 0 (simple_data.write plain)
  unfolding simple_data via
  simple_put = e

  pub marker_put : {zs : List ℕ} → zs ≡ put_in ys 8 (spelt 4 1) → 12 ≤ length xs → zs ≡ put_in xs 0 (marker_data.write plain)
  unfolding marker_data one_zero fixed ◌then◌ seq pair pair_write via judged number spelt
  marker_put f h = put_both xs 0 _ _ e f refl h

  pub sizes_put : (a b : ℕ) {zs ws : List ℕ} → zs ≡ put_in ys 8 (spelt 4 a) → ws ≡ put_in zs 12 (spelt 4 b) → 16 ≤ length xs → ws ≡ put_in xs 0 (size_data.write (sizes a b))
  unfolding size_data one_zero fixed ◌then◌ seq pair pair_write via judged number spelt
  sizes_put a b f g h = put_both xs 0 _ _ (put_both xs 0 _ _ e f refl (omega arith)) g refl h

  pub span_put : (l m : Limit) {zs ws : List ℕ} → zs ≡ put_in ys 8 (limit.write l) → ws ≡ put_in zs 24 (limit.write m) → 40 ≤ length xs → ws ≡ put_in xs 0 (date_data.write (span l m))
  unfolding date_data limit flag date one_zero fixed ◌then◌ seq pair pair_write via judged number spelt
  span_put l m f g h = put_both xs 0 _ _ (put_both xs 0 _ _ e f refl (omega arith)) g refl h

pub simple_long : length (simple_data.write plain) ≡ 8
unfolding simple_data one_zero fixed ◌then◌ seq pair pair_write via judged number spelt
simple_long = refl

pub marker_long : length (marker_data.write plain) ≡ 12
unfolding marker_data one_zero fixed ◌then◌ seq pair pair_write via judged number spelt
marker_long = refl

pub sizes_long : (a b : ℕ) → length (size_data.write (sizes a b)) ≡ 16
unfolding size_data one_zero fixed ◌then◌ seq pair pair_write via judged number spelt
sizes_long a b = refl

pub span_long : (l m : Limit) → length (date_data.write (span l m)) ≡ 40
unfolding date_data limit flag date one_zero fixed ◌then◌ seq pair pair_write via judged number spelt
span_long l m = refl

-- ---- a plan that is carried out, and one that is not

pub room_less : (xs bs : List ℕ) → length xs < length bs → if_room (length xs) bs ≡ deny (Err (At Fault.Room 0))
unfolding if_room pick
room_less xs bs h = rw (lt-leb (length bs) (length xs) h)

pub room_enough : (xs bs : List ℕ) → length bs ≤ length xs → if_room (length xs) bs ≡ write bs
unfolding if_room pick
room_enough xs bs h = rw (le-leb (length bs) (length xs) h)

pub bytes_put : (xs bs : List ℕ) {ys : List ℕ} → ys ≡ put_in xs 0 bs → length bs ≤ length xs → ys ≡ bs ++ drop (length bs) xs
unfolding put
bytes_put xs bs o h = rw zero-add at (o ∙ put_in_lem xs 0 bs (omega arith))

module _ (xs bs : List ℕ) {n : ℕ} where
  pub all_put : {ys : List ℕ} → ys ≡ put_in xs 0 bs → length bs ≡ n → n ≤ length xs → Puts xs (if_room (length xs) bs) (Ok n) ys
  unfolding put_says put_leaves
  all_put o e h = let l : length bs ≤ length xs = omega arith in let t = room_enough xs bs l in (rw (t, e), rw t (bytes_put xs bs o l))

pub ruleset room = (room_less, room_enough, bytes_put)

-- ---- a value, by its case

-- the data that a shape stands for
unfoldable pub format_by : ℕ → Format Data
format_by n = pick (eqb n 1) marker_data (pick (eqb n 2) simple_data (pick (eqb n 3) word_data (pick (eqb n 4) size_data date_data)))

pub shaped : (k : Kind) → data_of k ≡ format_by (shape k)
unfolding format_by shape pick
shaped Kind.Marker = refl
shaped (Kind.Simple r) = refl
shaped Kind.WordList = refl
shaped (Kind.Size r) = refl
shaped (Kind.Dates r) = refl

and_left : (a b : Bool) → (a && b) ≡ true → a ≡ true
and_left true b h = refl
and_left false b h = h

unfoldable pub shape_of : Value → ℕ
shape_of Value.Marker = 1
shape_of (Value.Simple n) = 2
shape_of (Value.Words n) = 3
shape_of (Value.Size a b) = 4
shape_of (Value.Dates v) = 5

pub of_shape : (k : Kind) (id : ℕ) (v : Value) → is_of k id v ≡ true → shape k ≡ shape_of v
unfolding is_of shape_of
of_shape k id Value.Marker h = eqb-true (shape k) 1 h
of_shape k id (Value.Simple n) h = eqb-true (shape k) 2 (and_left (eqb (shape k) 2) (eqb n id) h)
of_shape k id (Value.Words n) h = eqb-true (shape k) 3 h
of_shape k id (Value.Size a b) h = eqb-true (shape k) 4 h
of_shape k id (Value.Dates v) h = eqb-true (shape k) 5 h

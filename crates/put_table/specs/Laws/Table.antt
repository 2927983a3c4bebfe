-- Laws of ../Table.antt: as the code takes a value from a table.
use Rattle.std.specs.Prelude.{ℕ, ◌^◌, ◌≤◌, ◌<◌, ◌≡◌, refl, Bool, true, false, not, List, T, eqb, length, get_or, Float, Ok, Err, Some, None}
use Rattle.std.proofs.Common.{arith, sym, ap, ◌∙◌}
use Rattle.std.specs.Float.{nan, inf, fin, binary64}
use Rattle.std.specs.Float.Ieee.{of_bits, to_bits, is_nan, nan_bits}
use Rattle.std.specs.Float.Ieee.Bits.{nan_bits_is}
use borrow.Author.Tests.{le-leb, lt-leb, ne_eqb}
use Rattle.format.specs.Format.{pick}
use Rattle.date.specs.Double.{accepted}
use Rattle.date.proofs.Floats.{bits_back, date_no_nan}
use Rattle.kind.specs.declared.Kind.{Kind}
use Rattle.kind.specs.Answers.{Edition, Row}
use Rattle.kind.specs.Kinds.{edition_of, row_of}
use Rattle.value.specs.declared.Span.{Span}
use Rattle.value.specs.declared.Value.{Value}
use Rattle.put.specs.Plan.{from_span, is_of, plan_kind, plan_row, plan_edition, putting}
use Rattle.put_table.specs.Table.{no_value, by_simple, by_size, by_dates, by_case, value_from}

-- ---- a float for the bits of a date

-- it is a date just where they are one's, and then theirs
unfoldable pub Stands : ℕ → Float → Type 0
Stands bits x = (accepted (to_bits binary64 x) ≡ accepted bits) × (accepted bits ≡ true → x ≡ of_bits binary64 bits)

nan_no_date : (x : Float) → is_nan x ≡ true → accepted (to_bits binary64 x) ≡ false
unfolding is_nan to_bits
nan_no_date nan e = refl
nan_no_date (inf s) e = absurd (let z : ◌≡◌ {A = ℕ} 0 1 = cc in omega arith)
nan_no_date (fin s m n) e = absurd (let z : ◌≡◌ {A = ℕ} 0 1 = cc in omega arith)

bits_dated : (bits : ℕ) → bits < 2 ^ 64 → accepted (to_bits binary64 (of_bits binary64 bits)) ≡ accepted bits
bits_dated bits h = go (nan_bits binary64 bits) refl (accepted bits) refl
  where
    go : (n : Bool) → nan_bits binary64 bits ≡ n → (a : Bool) → accepted bits ≡ a → accepted (to_bits binary64 (of_bits binary64 bits)) ≡ a
    go false e a f = ap accepted (bits_back bits h (rw e tt)) ∙ f
    go true e false f = nan_no_date (of_bits binary64 bits) (sym (nan_bits_is binary64 bits) ∙ e)
    go true e true f = absurd (let w : T (not (nan_bits binary64 bits)) = date_no_nan bits f in rw e at w)

pub stands_for : (bits : ℕ) {x : Float} → bits < 2 ^ 64 → x ≡ of_bits binary64 bits → Stands bits x
unfolding Stands
stands_for bits h e = (ap (λ (y : Float). accepted (to_bits binary64 y)) e ∙ bits_dated bits h, λ f. e)

pub stands_off : (bits n : ℕ) → n < 2 ^ 64 → accepted n ≡ false → accepted bits ≡ false → Stands bits (of_bits binary64 n)
unfolding Stands
stands_off bits n h e f = (bits_dated n h ∙ e ∙ sym f, λ g. absurd (let z : ◌≡◌ {A = ℕ} 0 1 = (let w = sym f ∙ g in cc) in omega arith))

-- ---- values that go back alike, as data of whatever kind

unfoldable pub Alike : Value → Value → Type 0
Alike v w = (k : Kind) (id room : ℕ) → plan_kind k id v room ≡ plan_kind k id w room

pub alike : {v w : Value} → v ≡ w → Alike v w
unfolding Alike
alike e k id room = ap (λ (u : Value). plan_kind k id u room) e

abbrev span : Bool → Bool → Float → Float → Span
span f g x y = record { starts = f; ends = g; after = x; before = y }

spans_alike : (f g : Bool) (a b : ℕ) (x y : Float) → a < 2 ^ 64 → b < 2 ^ 64 → Stands a x → Stands b y → from_span (span f g x y) ≡ from_span (span f g (of_bits binary64 a) (of_bits binary64 b))
unfolding from_span Stands pick
spans_alike f g a b x y ha hb sa sb = go (accepted a) refl (accepted b) refl
  where
    go : (p : Bool) → accepted a ≡ p → (q : Bool) → accepted b ≡ q → from_span (span f g x y) ≡ from_span (span f g (of_bits binary64 a) (of_bits binary64 b))
    go true e true h = rw (sa.1 e, sb.1 h)
    go true e false h = let w = sb.0 ∙ h in let z = bits_dated b hb ∙ h in rw (sa.1 e, w, z)
    go false e q h = let w = sa.0 ∙ e in let z = bits_dated a ha ∙ e in rw (w, z)

pub dates_alike : (f g : Bool) (a b : ℕ) (x y : Float) → a < 2 ^ 64 → b < 2 ^ 64 → Stands a x → Stands b y → Alike (Value.Dates (span f g x y)) (Value.Dates (span f g (of_bits binary64 a) (of_bits binary64 b)))
unfolding Alike plan_kind is_of
dates_alike f g a b x y ha hb sa sb k id room = rw (spans_alike f g a b x y ha hb sa sb)

-- ---- case by case

module _ (f g a b : ℕ) where
  pub dates_are : (x y : Float) → a < 2 ^ 64 → b < 2 ^ 64 → Stands a x → Stands b y → f ≤ 1 → g ≤ 1 → Alike (Value.Dates (span (eqb f 1) (eqb g 1) x y)) (by_dates f g a b)
  unfolding by_dates pick
  dates_are x y ha hb sa sb h l = rw (le-leb f 1 h, le-leb g 1 l) (dates_alike (eqb f 1) (eqb g 1) a b x y ha hb sa sb)

  pub dates_none : 1 < f → Alike no_value (by_dates f g a b)
  unfolding by_dates pick
  dates_none h = alike (rw (lt-leb f 1 h))

  pub dates_none_2 : f ≤ 1 → 1 < g → Alike no_value (by_dates f g a b)
  unfolding by_dates pick
  dates_none_2 h l = alike (rw (le-leb f 1 h, lt-leb g 1 l))

-- the case that a table says
module _ (t : List ℕ) where
  pub from_short : length t < 5 → Alike no_value (value_from t)
  unfolding value_from pick
  from_short h = alike (rw (lt-leb 5 (length t) h))

  module _ (h : 5 ≤ length t) where
    from_case : {n : ℕ} → get_or t 0 0 ≡ n → by_case n (get_or t 1 0) (get_or t 2 0) (get_or t 3 0) (get_or t 4 0) ≡ value_from t
    unfolding value_from pick
    from_case e = rw (le-leb 5 (length t) h, e)

    pub from_marker : get_or t 0 0 ≡ 0 → Alike Value.Marker (value_from t)
    unfolding by_case pick
    from_marker e = alike (from_case e)

    pub from_simple : {v : Value} → get_or t 0 0 ≡ 1 → v ≡ by_simple (get_or t 1 0) → Alike v (value_from t)
    unfolding by_case pick
    from_simple e f = alike (f ∙ from_case e)

    pub from_size : {v : Value} → get_or t 0 0 ≡ 2 → v ≡ by_size (get_or t 1 0) (get_or t 2 0) → Alike v (value_from t)
    unfolding by_case pick
    from_size e f = alike (f ∙ from_case e)

    pub from_dates : (v : Value) → get_or t 0 0 ≡ 3 → Alike v (by_dates (get_or t 1 0) (get_or t 2 0) (get_or t 3 0) (get_or t 4 0)) → Alike v (value_from t)
    unfolding by_case pick
    from_dates v e f = rw (from_case e) at f

    pub from_other : (get_or t 0 0 ≡ 0 → ⊥) → (get_or t 0 0 ≡ 1 → ⊥) → (get_or t 0 0 ≡ 2 → ⊥) → (get_or t 0 0 ≡ 3 → ⊥) → Alike no_value (value_from t)
    unfolding by_case value_from pick
    from_other a b c d = alike (rw (le-leb 5 (length t) h, ne_eqb (get_or t 0 0) 0 a, ne_eqb (get_or t 0 0) 1 b, ne_eqb (get_or t 0 0) 2 c, ne_eqb (get_or t 0 0) 3 d))

pub ruleset cases = (from_short, from_marker, from_simple, from_size, from_dates, from_other)

-- what goes back alike goes back alike in an edition
pub putting_alike : (edition id room : ℕ) (v w : Value) → Alike v w → putting edition id v room ≡ putting edition id w room
unfolding putting Alike
putting_alike edition id room v w f = by (edition_of edition)
  where
    row : (r : Row) → plan_row r id v room ≡ plan_row r id w room
    row (Ok k) = f k id room
    row (Err why) = refl

    by : (o : Edition) → plan_edition o id v room ≡ plan_edition o id w room
    by (Some p) = row (row_of p id)
    by None = refl

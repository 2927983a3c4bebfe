-- The dates of a value are dates: those that were read are, and come back bit for bit.
use Rattle.std.specs.Prelude.{ℕ, ◌^◌, ◌<◌, ◌≡◌, refl, Bool, true, false, List, eqb, length, Ok, Err, Some, None}
use Rattle.std.proofs.Common.{arith, ap, ◌∙◌}
use Rattle.std.specs.Float.{binary64}
use Rattle.std.specs.Float.Ieee.{of_bits, to_bits}
use Rattle.format.specs.declared.Fault.{Fault}
use Rattle.format.specs.Format.{Answer, got, refused, Bytes, pick, whole}
use Rattle.format.specs.Combinators.{pair, seq, judged, via, number}
use Rattle.format.specs.Laws.Combinators.{then_fit}
use Rattle.date.specs.Double.{accepted}
use Rattle.date.specs.Date.{date}
use Rattle.date.proofs.Floats.{date_no_nan, bits_back}
use Rattle.kind.specs.Answers.{Edition, Row}
use Rattle.value.specs.Answers.{Valued}
use Rattle.format.specs.declared.Refusal.TheVariants.{At, Given}
use Rattle.kind.specs.declared.Kind.{Kind}
use Rattle.kind.specs.Kinds.{edition_of, row_of}
use Rattle.element.specs.Data.{Data, Limit, span_of, limit, date_data, data_of}
use Rattle.value.specs.declared.Span.{Span}
use Rattle.value.specs.declared.Value.{Value}
use Rattle.value.specs.Value.{value_in, from_data, from_kind, from_row, from_edition, value_of}

limit_fit : (l : Limit) → limit.Fit l → (l.at < 256 ^ 8) × (accepted l.at ≡ true)
unfolding limit seq pair via date judged number
limit_fit l f = then_fit _ _ l.at f.0.1

abbrev pub sound : Limit → Limit
sound l = record { set = l.set; at = to_bits binary64 (of_bits binary64 l.at) }

pub limit_back : (l : Limit) → limit.Fit l → (sound l ≡ l) × (accepted (to_bits binary64 (of_bits binary64 l.at)) ≡ true)
limit_back l f =
    let p = limit_fit l f in
    let e = bits_back l.at (omega (arith, p.0)) (date_no_nan l.at p.1) in
    (ap (λ (n : ℕ). record { set = l.set; at = n }) e, ap accepted e ∙ p.1)

-- ---- what holds of every value that data of a kind have holds of those that lone data have

abbrev pub Has : (Value → Type 0) → Valued → Type 0
Has P (Ok v) = P v
Has P (Err why) = Unit {0}

pub value_has : (P : Value → Type 0) (id : ℕ) → ((k : Kind) (d : Data) → (data_of k).Fit d → P (value_in k id d)) → (edition : ℕ) (s : List ℕ) → Bytes s → Has P (value_of edition id s)
unfolding value_of from_kind whole pick
value_has P id f edition s b = by (edition_of edition)
  where
    read : (k : Kind) (a : Answer Data) → (data_of k).read s ≡ a → Has P (from_data k id (whole (length s) a))
    read k (got d n) r = ends (eqb n (length s))
      where
        ends : (t : Bool) → Has P (from_data k id (pick t (got d n) (refused Fault.Over n)))
        ends true = f k d ((data_of k).forth s d n b r).fit
        ends false = tt
    read k (refused c p) r = tt

    row : (r : Row) → Has P (from_row r id s)
    row (Ok k) = read k ((data_of k).read s) refl
    row (Err (At c p)) = tt
    row (Err (Given c p)) = tt

    by : (o : Edition) → Has P (from_edition o id s)
    by (Some p) = row (row_of p id)
    by None = tt

pub has_is : (P : Value → Type 0) {x y : Valued} {v : Value} → x ≡ Ok v → x ≡ y → Has P y → P v
has_is P e f d = rw (← f, e) at d

-- ---- so its dates are dates

abbrev pub Dated : Value → Type 0
Dated Value.Marker = Unit {0}
Dated (Value.Simple n) = Unit {0}
Dated (Value.Size a b) = Unit {0}
Dated (Value.Dates v) = (accepted (to_bits binary64 v.after) ≡ true) × (accepted (to_bits binary64 v.before) ≡ true)
Dated (Value.Words n) = Unit {0}

pub dated_data : (id : ℕ) (k : Kind) (d : Data) → (data_of k).Fit d → Dated (value_in k id d)
unfolding date_data seq pair via
dated_data id Kind.Marker d f = tt
dated_data id (Kind.Simple r) d f = tt
dated_data id Kind.WordList d f = tt
dated_data id (Kind.Size r) d f = tt
dated_data id (Kind.Dates r) d f = let g = then_fit _ _ (span_of d) f.0 in ((limit_back (span_of d).0 g.0).1, (limit_back (span_of d).1 g.1).1)

pub dated_is : {v : Value} {x : Span} → Dated v → v ≡ Value.Dates x → Dated (Value.Dates x)
dated_is f e = rw e at f

-- Data to a value and back, a value to data and back: document 01, "the other values go back alone, dates bit for bit".
use Rattle.std.specs.Prelude.{ℕ, ◌≤◌, ◌<◌, ◌^◌, ◌≡◌, refl, Bool, true, false, ◌&&◌, List, [], T, leb, eqb, length, drop, Float, Ok, Err, Some, None}
use Rattle.std.proofs.Common.{arith, sym, ap, ◌∙◌, subst, append-nil, le-leb, eq-eqb, eqb-true}
use Rattle.std.proofs.Math.Seq.{drop-length}
use Rattle.std.specs.Float.{binary64}
use Rattle.std.specs.Float.Ieee.{to_bits, fits}
use Rattle.std.specs.Float.Ieee.Bits.{of_bits-to_bits, to_bits-lt}
use Rattle.format.specs.declared.Fault.{Fault}
use Rattle.kind.specs.Answers.{Edition, Row}
use Rattle.format.specs.Answers.{Outcome}
use Rattle.value.specs.Answers.{Valued}
use Rattle.format.specs.declared.Refusal.{Refusal}
use Rattle.format.specs.declared.Refusal.TheVariants.{At, Given}
use Rattle.format.specs.Format.{Answer, got, refused, Bytes, pick, whole}
use Rattle.format.specs.ReadWrite.{bit}
use Rattle.format.specs.Combinators.{pair, seq, ◌then◌, judged, via, number, fixed, flag}
use Rattle.format.specs.Laws.Combinators.{then_fit}
use Rattle.date.specs.Double.{accepted}
use Rattle.date.specs.Date.{date}
use Rattle.kind.specs.declared.Kind.{Kind}
use Rattle.kind.specs.Kinds.{edition_of, row_of}
use Rattle.element.specs.Data.{Data, plain, sizes, span, words_of, sizes_of, span_of, one_zero, marker_data, simple_data, size_data, limit, date_data, data_of}
use Rattle.value.specs.declared.Span.{Span}
use Rattle.value.specs.declared.Value.{Value}
use Rattle.value.specs.Value.{floats, value_in, from_data, from_kind, from_row, from_edition, value_of}
use Rattle.value.specs.Laws.Dates.{limit_back}
use Rattle.put.specs.Plan.{after_of, before_of, Fitted, holds, lacks, from_span, from_value, shape, is_of, Putting, write, deny, if_room, plan_data, plan_kind, plan_row, plan_edition, putting, Puts}
use Rattle.put.specs.Laws.Put.{format_by, shaped, shape_of, of_shape}

-- ---- what each promise allows is one outcome

pub value_of_one : (edition id : ℕ) (s : List ℕ) {a b : Valued} → a ≡ value_of edition id s → b ≡ value_of edition id s → a ≡ b
value_of_one edition id s e f = e ∙ sym f

pub put_value_one : (edition id : ℕ) (v : Value) (xs : List ℕ) {a b : Outcome} {ys zs : List ℕ}
    → Puts xs (putting edition id v (length xs)) a ys → Puts xs (putting edition id v (length xs)) b zs → (a ≡ b) × (ys ≡ zs)
put_value_one edition id v xs e f = (e.0 ∙ sym f.0, e.1 ∙ sym f.1)

-- ---- cases that cannot be

unlike : {B : Type 0} {x : Valued} {v : Value} {why : Refusal} → x ≡ Err why → x ≡ Ok v → B
unlike e f = absurd (let z : ◌≡◌ {A = ℕ} 0 1 = cc in omega arith)

unwritten : {B : Type 0} {x : Putting} {o : Outcome} {bs : List ℕ} → x ≡ deny o → x ≡ write bs → B
unwritten e f = absurd (let z : ◌≡◌ {A = ℕ} 0 1 = cc in omega arith)

-- ---- data to a value and back

-- "a word list goes back as its bytes; the other values go back alone"
abbrev pub alone : Value → Bool
alone Value.Marker = true
alone (Value.Simple n) = true
alone (Value.Size a b) = true
alone (Value.Dates v) = true
alone (Value.Words n) = false

span_back : (d : Data) (room : ℕ) → date_data.Fit d → plan_data date_data room (from_span (floats (span_of d))) ≡ if_room room (date_data.write d)
unfolding date_data seq pair via from_span pick
span_back d room f =
    let g = then_fit _ _ (span_of d) f.0 in
    let a = limit_back (span_of d).0 g.0 in
    let b = limit_back (span_of d).1 g.1 in
    rw (a.1, b.1, a.0, b.0)

again : (k : Kind) (id : ℕ) (d : Data) (room : ℕ) → (data_of k).Fit d → alone (value_in k id d) ≡ true → plan_kind k id (value_in k id d) room ≡ if_room room ((data_of k).write d)
unfolding plan_kind is_of shape pick marker_data simple_data size_data via
again Kind.Marker id d room f a = refl
again (Kind.Simple r) id d room f a = rw (eq-eqb id id refl)
again Kind.WordList id d room f a = absurd (let z : ◌≡◌ {A = ℕ} 0 1 = cc in omega arith)
again (Kind.Size r) id d room f a = refl
again (Kind.Dates r) id d room f a = span_back d room f

room_for_lem : (room : ℕ) (s : List ℕ) → length s ≤ room → if_room room s ≡ write s
unfolding if_room pick
room_for_lem room s h = rw (le-leb (length s) room h)

kind_back : (k : Kind) (id : ℕ) (s : List ℕ) (v : Value) (room : ℕ) → Bytes s → alone v ≡ true → from_kind k id s ≡ Ok v → length s ≤ room → plan_kind k id v room ≡ write s
unfolding from_kind whole pick
kind_back k id s v room bs a e h = go ((data_of k).read s) refl e
  where
    ends : (d : Data) (n : ℕ) (t : Bool) → (data_of k).read s ≡ got d n → eqb n (length s) ≡ t → from_data k id (pick t (got d n) (refused Fault.Over n)) ≡ Ok v → plan_kind k id v room ≡ write s
    ends d n true r t x =
        let f = (data_of k).forth s d n bs r in
        let y : v ≡ value_in k id d = cc in
        let z : drop n s ≡ [] = rw (eqb-true n (length s) t) (drop-length s) in
        let w : (data_of k).write d ≡ s = sym (f.is ∙ rw (z, append-nil)) in
        ap (λ (u : Value). plan_kind k id u room) y ∙ again k id d room f.fit (sym (ap alone y) ∙ a) ∙ ap (if_room room) w ∙ room_for_lem room s h
    ends d n false r t x = unlike refl x

    go : (q : Answer Data) → (data_of k).read s ≡ q → from_data k id (whole (length s) q) ≡ Ok v → plan_kind k id v room ≡ write s
    go (got d n) r x = ends d n (eqb n (length s)) r refl x
    go (refused c p) r x = unlike refl x

-- "data turned into a value and back": the same bytes
pub value_writes_back : (edition id : ℕ) (s : List ℕ) (v : Value) (room : ℕ) → Bytes s → alone v ≡ true → value_of edition id s ≡ Ok v → length s ≤ room → putting edition id v room ≡ write s
unfolding value_of putting
value_writes_back edition id s v room bs a e h = by (edition_of edition) e
  where
    of : (r : Row) → from_row r id s ≡ Ok v → plan_row r id v room ≡ write s
    of (Ok k) x = kind_back k id s v room bs a x h
    of (Err (At c p)) x = unlike refl x
    of (Err (Given c p)) x = unlike refl x

    by : (d : Edition) → from_edition d id s ≡ Ok v → plan_edition d id v room ≡ write s
    by (Some p) x = of (row_of p id) x
    by None x = unlike refl x

-- ---- a value to data and back

-- what the code's types hold: numbers of 32 bits, floats of 64
abbrev pub HandedValue : Value → Type 0
HandedValue Value.Marker = Unit {0}
HandedValue (Value.Simple n) = n < 2 ^ 32
HandedValue (Value.Size a b) = (a < 2 ^ 32) × (b < 2 ^ 32)
HandedValue (Value.Dates v) = (fits binary64 v.after ≡ true) × (fits binary64 v.before ≡ true)
HandedValue (Value.Words n) = Unit {0}

one_zero_fit : one_zero.Fit tt
unfolding one_zero fixed ◌then◌ seq pair via judged number
one_zero_fit = ((((omega arith, refl), refl), ((omega arith, refl), refl)), refl)

marker_fit : marker_data.Fit plain
unfolding marker_data ◌then◌ seq pair via fixed judged number
marker_fit = (((one_zero_fit, ((omega arith, refl), refl)), refl), refl)

date_fit : (x : Float) → fits binary64 x ≡ true → accepted (to_bits binary64 x) ≡ true → date.Fit (to_bits binary64 x)
unfolding date judged number
date_fit x f a = (let l = to_bits-lt binary64 x (subst T (sym f) tt) in omega arith, a)

-- the value in data by their shape
value_by : ℕ → ℕ → Data → Value
value_by n id d =
    pick (eqb n 1) Value.Marker (pick (eqb n 2) (Value.Simple id) (pick (eqb n 3) (Value.Words (length (words_of d))) (pick (eqb n 4) (Value.Size (sizes_of d).0 (sizes_of d).1) (Value.Dates (floats (span_of d))))))

valued : (k : Kind) (id : ℕ) (d : Data) → value_in k id d ≡ value_by (shape k) id d
unfolding value_by shape pick
valued Kind.Marker id d = refl
valued (Kind.Simple r) id d = refl
valued Kind.WordList id d = refl
valued (Kind.Size r) id d = refl
valued (Kind.Dates r) id d = refl

limit_fits : (b : Bool) (n : ℕ) → date.Fit n → limit.Fit (record { set = b; at = n })
unfolding limit flag bit pick fixed ◌then◌ seq pair via judged number
limit_fits true n f = ((((omega arith, refl), refl), ((((omega arith, refl), refl), f), refl)), refl)
limit_fits false n f = ((((omega arith, refl), refl), ((((omega arith, refl), refl), f), refl)), refl)

-- no refusal, taken apart
not_lacks : {B : Type 0} {x : Fitted} {c : Fault} {p : ℕ} {d : Data} → x ≡ lacks c p → x ≡ holds d → B
not_lacks e f = absurd (let z : ◌≡◌ {A = ℕ} 0 1 = cc in omega arith)

record Dated (v : Span) (d : Data) : Type 0 where
  pub is : d ≡ span (after_of v) (before_of v)
  pub first : accepted (to_bits binary64 v.after) ≡ true
  pub last : accepted (to_bits binary64 v.before) ≡ true

dated_is : (v : Span) (d : Data) → from_span v ≡ holds d → Dated v d
unfolding from_span pick
dated_is v d e = go (accepted (to_bits binary64 v.after)) (accepted (to_bits binary64 v.before)) refl refl e
  where
    go : (a b : Bool) → accepted (to_bits binary64 v.after) ≡ a → accepted (to_bits binary64 v.before) ≡ b
        → pick a (pick b (holds (span (after_of v) (before_of v))) (lacks Fault.Date 32)) (lacks Fault.Date 16) ≡ holds d → Dated v d
    go true true x y w = record { is = (cc); first = x; last = y }
    go true false x y w = not_lacks refl w
    go false b x y w = not_lacks refl w

fit_of : (v : Value) (d : Data) → HandedValue v → from_value v ≡ holds d → (format_by (shape_of v)).Fit d
unfolding format_by shape_of pick simple_data size_data date_data ◌then◌ seq pair via number
fit_of Value.Marker d h e = let y : d ≡ plain = cc in rw y marker_fit
fit_of (Value.Simple n) d h e = let y : d ≡ plain = cc in rw y (one_zero_fit, refl)
fit_of (Value.Size a b) d h e = let y : d ≡ sizes a b = cc in rw y (((one_zero_fit, h), refl), refl)
fit_of (Value.Dates v) d h e =
    let y = dated_is v d e in
    rw y.is (((one_zero_fit, (limit_fits v.starts _ (date_fit v.after h.0 y.first), limit_fits v.ends _ (date_fit v.before h.1 y.last))), refl), refl)
fit_of (Value.Words n) d h e = not_lacks refl e

and_right : (a b : Bool) → (a && b) ≡ true → b ≡ true
and_right true b h = h
and_right false b h = absurd (let z : ◌≡◌ {A = ℕ} 0 1 = cc in omega arith)

value_of_data : (k : Kind) (id : ℕ) (v : Value) (d : Data) → HandedValue v → is_of k id v ≡ true → from_value v ≡ holds d → value_by (shape_of v) id d ≡ v
unfolding value_by shape_of is_of pick
value_of_data k id Value.Marker d h i e = refl
value_of_data k id (Value.Simple n) d h i e = ap Value.Simple (sym (eqb-true n id (and_right (eqb (shape k) 2) (eqb n id) i)))
value_of_data k id (Value.Size a b) d h i e = let y : d ≡ sizes a b = cc in rw y
value_of_data k id (Value.Dates v) d h i e =
    rw ((dated_is v d e).is, of_bits-to_bits binary64 v.after (subst T (sym h.0) tt), of_bits-to_bits binary64 v.before (subst T (sym h.1) tt))
value_of_data k id (Value.Words n) d h i e = not_lacks refl e

abbrev is_value : Value → Valued
is_value v = Ok v

-- what fits is read whole
whole_back : (k : Kind) (id : ℕ) (d : Data) → (data_of k).Fit d → from_kind k id ((data_of k).write d) ≡ Ok (value_in k id d)
unfolding from_kind whole pick
whole_back k id d f =
    let b : (data_of k).read ((data_of k).write d) ≡ got d (length ((data_of k).write d)) = rw append-nil at ((data_of k).back d [] f) in
    rw (b, eq-eqb (length ((data_of k).write d)) (length ((data_of k).write d)) refl)

kind_forth : (k : Kind) (id : ℕ) (v : Value) (room : ℕ) (bs : List ℕ) → HandedValue v → plan_kind k id v room ≡ write bs → from_kind k id bs ≡ Ok v
unfolding plan_kind if_room pick
kind_forth k id v room bs h e = is (is_of k id v) refl e
  where
    fit : (d : Data) (t : Bool) → is_of k id v ≡ true → from_value v ≡ holds d → pick t (write ((data_of k).write d)) (deny (Err (At Fault.Room 0))) ≡ write bs → from_kind k id bs ≡ Ok v
    fit d true i f x =
        let s = of_shape k id v i in
        let w : bs ≡ (data_of k).write d = cc in
        let z : data_of k ≡ format_by (shape_of v) = shaped k ∙ ap format_by s in
        let g : (data_of k).Fit d = rw z (fit_of v d h f) in
        ap (from_kind k id) w ∙ whole_back k id d g ∙ ap (λ (u : Value). is_value u) (valued k id d ∙ ap (λ (n : ℕ). value_by n id d) s ∙ value_of_data k id v d h i f)
    fit d false i f x = unwritten refl x

    has : (q : Fitted) → is_of k id v ≡ true → from_value v ≡ q → plan_data (data_of k) room q ≡ write bs → from_kind k id bs ≡ Ok v
    has (holds d) i f x = fit d (leb (length ((data_of k).write d)) room) i f x
    has (lacks c p) i f x = unwritten refl x

    is : (t : Bool) → is_of k id v ≡ t → plan_data (data_of k) room (pick t (from_value v) (lacks Fault.Field 0)) ≡ write bs → from_kind k id bs ≡ Ok v
    is true i x = has (from_value v) i refl x
    is false i x = unwritten refl x

-- "a value turned into data" and read: the same value
pub data_reads_back : (edition id : ℕ) (v : Value) (room : ℕ) (bs : List ℕ) → HandedValue v → putting edition id v room ≡ write bs → value_of edition id bs ≡ Ok v
unfolding value_of putting
data_reads_back edition id v room bs h e = by (edition_of edition) e
  where
    of : (r : Row) → plan_row r id v room ≡ write bs → from_row r id bs ≡ Ok v
    of (Ok k) x = kind_forth k id v room bs h x
    of (Err (At c p)) x = unwritten refl x
    of (Err (Given c p)) x = unwritten refl x

    by : (d : Edition) → plan_edition d id v room ≡ write bs → from_edition d id bs ≡ Ok v
    by (Some p) x = of (row_of p id) x
    by None x = unwritten refl x

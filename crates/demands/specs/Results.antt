-- Demand 2 of values in lent tables: a value that was put into a table, taken from it again, is written as the bytes that it was read from;
-- and a table that says no value is refused as "a value that isn't of that identifier's kind".
use Rattle.format.specs.declared.Refusal.TheVariants.{Given}
use Rattle.std.specs.Prelude.{ℕ, suc, ◌^◌, ◌≤◌, ◌<◌, ◌≡◌, refl, Bool, true, false, List, [], ◌∷◌, T, leb, length, Ok, Err, Some}
use Rattle.std.proofs.Common.{arith, sym, ap, ◌∙◌, subst, le-leb, lt-ltb}
use Rattle.std.specs.Float.{binary64}
use Rattle.std.specs.Float.Ieee.Bits.{of_bits-to_bits, of_bits-fits}
use Rattle.format.specs.declared.Fault.TheVariants as Fault
use Rattle.format.specs.Format.{pick, Bytes}
use Rattle.format.specs.ReadWrite.{bit}
use Rattle.format.specs.Laws.ReadWrite.{eqb_bit}
use Rattle.format.specs.Combinators.{pair, seq, via, number}
use Rattle.format.specs.Laws.Combinators.{then_fit}
use Rattle.buffer.specs.Laid.{put}
use Rattle.kind.specs.declared.Product.{Product}
use Rattle.kind.specs.declared.Kind.{Kind}
use Rattle.kind.specs.Kinds.{edition_of, row_of}
use Rattle.value.specs.declared.Value.{Value}
use Rattle.element.specs.Data.{Data, sizes_of, span_of, size_data, data_of}
use Rattle.value.specs.Value.{value_in, value_case, value_answer, value_of}
use Rattle.value.specs.Laws.Dates.{value_has, has_is}
use Rattle.put.specs.Plan.{putting, plan_kind, plan_data, is_of, lacks, write, deny}
use Rattle.lent.specs.Lent.{value_width, lent_leaves}
use Rattle.put_table.specs.Table.{no_value, by_simple, by_size, by_dates, by_case, value_from}
use Rattle.demands.specs.RoundTrip.{alone, HandedValue, value_writes_back}

-- the numbers of a value, put at the start of a table with room for every case, say that value
flags : (b : Bool) → leb (bit b) 1 ≡ true
unfolding bit pick
flags true = refl
flags false = refl

long : (n : ℕ) → leb 5 (suc (suc (suc (suc (suc n))))) ≡ true
long n = le-leb 5 (suc (suc (suc (suc (suc n))))) (omega arith)

said_back : (v : Value) (t : List ℕ) → HandedValue v → alone v ≡ true → 5 ≤ length t → value_from (put t 0 (value_case v)) ≡ v
unfolding value_from by_case by_simple by_size by_dates put pick
said_back v [] h a l = absurd (omega arith)
said_back v (x ∷ []) h a l = absurd (omega arith)
said_back v (x ∷ y ∷ []) h a l = absurd (omega arith)
said_back v (x ∷ y ∷ z ∷ []) h a l = absurd (omega arith)
said_back v (x ∷ y ∷ z ∷ w ∷ []) h a l = absurd (omega arith)
said_back Value.Marker (x ∷ y ∷ z ∷ w ∷ u ∷ t) h a l = rw (long (length t))
said_back (Value.Simple n) (x ∷ y ∷ z ∷ w ∷ u ∷ t) h a l = rw (long (length t), lt-ltb n (2 ^ 32) h)
said_back (Value.Size m n) (x ∷ y ∷ z ∷ w ∷ u ∷ t) h a l = rw (long (length t), lt-ltb m (2 ^ 32) h.0, lt-ltb n (2 ^ 32) h.1)
said_back (Value.Dates v) (x ∷ y ∷ z ∷ w ∷ u ∷ t) h a l = rw (long (length t), flags v.starts, flags v.ends, eqb_bit v.starts, eqb_bit v.ends, of_bits-to_bits binary64 v.after (subst T (sym h.0) tt), of_bits-to_bits binary64 v.before (subst T (sym h.1) tt))
said_back (Value.Words n) (x ∷ y ∷ z ∷ w ∷ u ∷ t) h a l = absurd (let z : ◌≡◌ {A = ℕ} 0 1 = cc in omega arith)

-- ---- those that lone data of an identifier of 32 bits have are such

is_true : (b : Bool) → T b → b ≡ true
is_true true t = refl
is_true false t = absurd t

handed_data : (id : ℕ) → id < 2 ^ 32 → (k : Kind) (d : Data) → (data_of k).Fit d → HandedValue (value_in k id d)
unfolding size_data seq pair via number
handed_data id h Kind.Marker d f = tt
handed_data id h (Kind.Simple r) d f = h
handed_data id h Kind.WordList d f = tt
handed_data id h (Kind.Size r) d f = let g = then_fit _ _ (sizes_of d) f.0 in (omega (arith, g.0), omega (arith, g.1))
handed_data id h (Kind.Dates r) d f = (is_true _ (of_bits-fits binary64 (span_of d).0.at), is_true _ (of_bits-fits binary64 (span_of d).1.at))

-- "data turned into a value and back", through a table: the same bytes
pub table_writes_back : (edition id : ℕ) (s : List ℕ) (v : Value) (t : List ℕ) (room : ℕ) → Bytes s → id < 2 ^ 32 → alone v ≡ true → value_of edition id s ≡ Ok v → value_width ≤ length t → length s ≤ room
    → putting edition id (value_from (lent_leaves value_width t (value_answer edition id s))) room ≡ write s
unfolding lent_leaves pick
table_writes_back edition id s v t room b h a e l r =
    let x : lent_leaves value_width t (value_answer edition id s) ≡ put t 0 (value_case v) = rw (e, le-leb 5 (length t) l) in
    let y : value_from (put t 0 (value_case v)) ≡ v = said_back v t (has_is HandedValue e refl (value_has HandedValue id (handed_data id h) edition s b)) a l in
    ap (λ (u : Value). putting edition id u room) (ap value_from x ∙ y) ∙ value_writes_back edition id s v room b a e r

-- ---- a table that says no value: 40 at 0, in that place of the order

pub no_value_refused : (edition id room : ℕ) (p : Product) (k : Kind) → edition_of edition ≡ Some p → row_of p id ≡ Ok k → putting edition id no_value room ≡ deny (Err (Given Fault.Field 0))
unfolding putting plan_kind pick
no_value_refused edition id room p k e f = rw (e, f) (go (is_of k id no_value))
  where
    go : (b : Bool) → plan_data (data_of k) room (pick b (lacks Fault.Field 0) (lacks Fault.Field 0)) ≡ deny (Err (Given Fault.Field 0))
    go true = refl
    go false = refl

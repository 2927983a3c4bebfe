-- Laws of ../Calls.antt for the calls that answer more than a place: an identifier alone, a lone date, lone data, a value into data.
use Rattle.std.specs.Prelude.{ℕ, ◌+◌, ◌≤◌, ◌≡◌, refl, Bool, true, false, List, [], leb, length, Ok, Err, Some, None}
use Rattle.std.proofs.Common.{arith}
use Rattle.format.specs.declared.Fault.{Fault}
use Rattle.kind.specs.Answers.{Edition, Row}
use Rattle.fixed.specs.Answers.{Fielded}
use Rattle.view.specs.Answers.{View}
use Rattle.format.specs.declared.Refusal.TheVariants.{At, Given}
use Rattle.format.specs.Fault.{number_of, place_of, Said}
use Rattle.format.specs.Format.{Answer, got, refused, mapped, whole, pick, Bytes}
use Rattle.format.specs.ReadWrite.{within, pair_write, each_write, spelt}
use Rattle.format.specs.Combinators.{pair, seq, ◌then◌, judged, via, number, fixed, flag, count, each, counted, listed}
use Rattle.kind.specs.declared.Product.{Product}
use Rattle.kind.specs.declared.Kind.{Kind}
use Rattle.kind.specs.Kinds.{kind_says, edition_of, row_of, row_by, kind_of}
use Rattle.date.specs.Double.{accepted}
use Rattle.date.specs.Date.{date}
use Rattle.moment.specs.Moment.{SaysBy}
use Rattle.element.specs.Data.{Data, words_of, one_zero, marker_data, simple_data, word_data, size_data, limit, date_data, data_of}
use Rattle.value.specs.declared.Value.{Value}
use Rattle.value.specs.Value.{value_says, value_answer, from_data, from_kind, from_row, from_edition, value_of}
use Rattle.put.specs.Plan.{Fitted, holds, lacks, from_span, from_value, is_of, fitted, write, deny, if_room, plan_data, plan_kind, plan_row, plan_edition, putting, put_says}
use Rattle.view.specs.View.{view_says, part_says}
use Rattle.name_view.specs.Name.{name_view}
use Rattle.word_view.specs.Word.{word_view}
use Rattle.fixed.specs.Fixed.{fixed_fields, fields_say, fields_answer}
use Rattle.given.specs.Given.{given, given_by, with_data}
use Rattle.bounds.specs.Listed.{Numbers, exactly, allowed, Lists}
use Rattle.bounds.specs.Calls.{element_numbers, view_numbers, kind_numbers, moment_numbers, value_numbers, put_numbers}
use Rattle.bounds.specs.Laws.Data.{row_refuses}
use Rattle.bounds.specs.Laws.Refused.{as_refused}
use Rattle.bounds.specs.Laws.Listed.{Within, within_small, allowed_later}
use Rattle.bounds.specs.Laws.Calls.{name_listed, word_listed, fixed_listed}
use Rattle.bounds.specs.Laws.Faulty.{ElementListed, element_listed_lem}

-- "An identifier alone .. 1, 9 or 10 at 0"
pub kind_listed : (edition id : ℕ) → Within kind_numbers 0 (kind_of edition id).0
unfolding kind_of row_by allowed
kind_listed edition id = by (edition_of edition)
  where
    row : (p : Product) (r : Row) → row_of p id ≡ r → Within kind_numbers 0 (kind_says r).0
    row p (Ok k) e = omega arith
    row p (Err why) e = row_refuses (λ w. Lists kind_numbers (Err w)) (refl, omega arith) (refl, omega arith) p id e

    by : (o : Edition) → Within kind_numbers 0 (row_by o id).0
    by (Some p) = row p (row_of p id) refl
    by None = (refl, refl)

-- "a lone date answers 11 at 0"
pub moment_listed : (bits : ℕ) (x : Said) → SaysBy (accepted bits) bits x → Within moment_numbers 0 x.0
unfolding allowed
moment_listed bits x = go (accepted bits)
  where
    go : (b : Bool) → SaysBy b bits x → Within moment_numbers 0 x.0
    go true f = rw f.1.1 (omega arith)
    go false f = rw f (refl, omega arith)

-- "Turning lone element data into a value takes an edition and answers 1 first, then as for a given element"
pub value_listed : (edition id : ℕ) (s : List ℕ) → Bytes s → Within value_numbers 0 (value_answer edition id s).0
unfolding value_of from_kind given mapped allowed
value_listed edition id s b = by (edition_of edition)
  where
    listed : (p : Product) (c : Fault) (q : ℕ) → given p id s ≡ refused c q → Lists value_numbers (Err (Given c q))
    listed p c q e = let f = as_refused ElementListed (element_listed_lem p id s b) e in (allowed_later (exactly 1 0) element_numbers (number_of c + 32) q f.0, f.1)

    read : (p : Product) (k : Kind) (a : Answer Data) → given p id s ≡ mapped (with_data id) a → Within value_numbers 0 (value_says (from_data k id a)).0
    read p k (got x n) e = omega arith
    read p k (refused c q) e = listed p c q e

    row : (p : Product) (r : Row) → given p id s ≡ given_by r id s → Within value_numbers 0 (value_says (from_row r id s)).0
    row p (Ok k) e = read p k (whole (length s) ((data_of k).read s)) e
    row p (Err (At c q)) e = listed p c q e
    row p (Err (Given c q)) e = listed p c q e

    by : (o : Edition) → Within value_numbers 0 (value_says (from_edition o id s)).0
    by (Some p) = row p (row_of p id) refl
    by None = (refl, refl)

-- "Turning a value into data .. 1, then 41 or 42, then 40 at 0 .., then 43 at 16 or 32, then 20"
abbrev Lacks : Fitted → Type 0
Lacks (holds d) = words_of d ≡ []
Lacks (lacks c q) = Lists put_numbers (Err (Given c q))

lacks_pick : (b : Bool) (x y : Fitted) → Lacks x → Lacks y → Lacks (pick b x y)
unfolding pick
lacks_pick true x y f g = f
lacks_pick false x y f g = g

lacks_value : (v : Value) → Lacks (from_value v)
unfolding from_span allowed within
lacks_value Value.Marker = refl
lacks_value (Value.Simple n) = refl
lacks_value (Value.Words n) = (refl, omega arith)
lacks_value (Value.Size a b) = refl
lacks_value (Value.Dates v) = lacks_pick _ _ _ (lacks_pick _ _ _ refl (refl, omega arith)) (refl, omega arith)

-- data without words
data_small : (k : Kind) (d : Data) → words_of d ≡ [] → length ((data_of k).write d) ≤ 40
unfolding marker_data simple_data word_data size_data date_data limit flag date one_zero fixed listed counted count each each_write ◌then◌ seq pair pair_write via judged number spelt
data_small Kind.Marker d e = omega arith
data_small (Kind.Simple r) d e = omega arith
data_small Kind.WordList d e = rw e (omega arith)
data_small (Kind.Size r) d e = omega arith
data_small (Kind.Dates r) d e = omega arith

pub put_listed : (edition id : ℕ) (v : Value) (room : ℕ) → Within put_numbers 40 (put_says (putting edition id v room))
unfolding putting plan_kind if_room put_says pick allowed within
put_listed edition id v room = by (edition_of edition)
  where
    roomy : (b : Bool) (bs : List ℕ) → length bs ≤ 40 → Within put_numbers 40 (put_says (pick b (write bs) (deny (Err (At Fault.Room 0)))))
    roomy true bs h = h
    roomy false bs h = (refl, refl)

    fit : (k : Kind) (f : Fitted) → Lacks f → Within put_numbers 40 (put_says (plan_data (data_of k) room f))
    fit k (holds d) w = roomy (leb (length ((data_of k).write d)) room) ((data_of k).write d) (data_small k d w)
    fit k (lacks c q) w = w

    row : (p : Product) (r : Row) → row_of p id ≡ r → Within put_numbers 40 (put_says (plan_row r id v room))
    row p (Ok k) e = fit k (fitted k id v) (lacks_pick (is_of k id v) _ _ (lacks_value v) (refl, omega arith))
    row p (Err why) e = row_refuses (λ w. Within put_numbers 40 (put_says (plan_row (Err w) id v room))) (refl, omega arith) (refl, omega arith) p id e

    by : (o : Edition) → Within put_numbers 40 (put_says (plan_edition o id v room))
    by (Some p) = row p (row_of p id) refl
    by None = (refl, refl)

-- ---- so no place that they answer is above 60,000

pub kind_small : (edition id : ℕ) → place_of (kind_of edition id).0 ≤ 60000
kind_small edition id = within_small kind_numbers 0 (kind_of edition id).0 (kind_listed edition id) (omega arith)

pub moment_small : (bits : ℕ) (x : Said) → SaysBy (accepted bits) bits x → place_of x.0 ≤ 60000
moment_small bits x f = within_small moment_numbers 0 x.0 (moment_listed bits x f) (omega arith)

pub value_small : (edition id : ℕ) (s : List ℕ) → Bytes s → place_of (value_answer edition id s).0 ≤ 60000
value_small edition id s b = within_small value_numbers 0 (value_answer edition id s).0 (value_listed edition id s b) (omega arith)

pub put_small : (edition id : ℕ) (v : Value) (room : ℕ) → place_of (put_says (putting edition id v room)) ≤ 60000
put_small edition id v room = within_small put_numbers 40 (put_says (putting edition id v room)) (put_listed edition id v room) (omega arith)

part_small : (rows : List Numbers) (v : View) → Lists rows (view_says v) → place_of (part_says v).0 ≤ 60000
part_small rows (Ok (a, n, form)) f = omega arith
part_small rows (Err why) f = within_small rows 0 (Err why) f (omega arith)

pub name_part_small : (edition k : ℕ) (s : List ℕ) → place_of (part_says (name_view edition k s)).0 ≤ 60000
name_part_small edition k s = part_small (view_numbers 0) (name_view edition k s) (name_listed edition k s)

pub word_part_small : (edition k e w : ℕ) (s : List ℕ) → place_of (part_says (word_view edition k e w s)).0 ≤ 60000
word_part_small edition k e w s = part_small (view_numbers 2) (word_view edition k e w s) (word_listed edition k e w s)

pub fields_small : (edition k : ℕ) (s : List ℕ) → place_of (fields_answer edition k s).0 ≤ 60000
fields_small edition k s = go (fixed_fields edition k s) (fixed_listed edition k s)
  where
    go : (v : Fielded) → Lists (view_numbers 0) (fields_say v).0 → place_of (fields_say v).0 ≤ 60000
    go (Ok x) f = omega arith
    go (Err why) f = within_small (view_numbers 0) 0 (Err why) f (omega arith)

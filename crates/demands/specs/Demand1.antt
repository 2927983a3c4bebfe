-- Demand 1: each call takes all byte strings, lengths and numbers, and does its work or refuses by a number and a place from document 01's
-- table; a refused call leaves every lent buffer and table exactly as found. That each call ends, and takes all input, is what a proved
-- function without a `requires` is; what follows is said of the promises.
use Rattle.std.specs.Prelude.{ℕ, ◌+◌, ◌<◌, ◌≡◌, refl, Bool, true, false, List, [], ◌∷◌, leb, length, Ok, Err, Some, None}
use Rattle.std.proofs.Common.{arith, ◌∙◌}
use Rattle.format.specs.declared.Fault.TheVariants as Fault
use Rattle.kind.specs.Answers.{Edition}
use Rattle.format.specs.Answers.{Outcome}
use Rattle.format.specs.declared.Refusal.TheVariants.{At, Given}
use Rattle.format.specs.Fault.{number_of, code_of, Said}
use Rattle.format.specs.Format.{Answer, pick, Bytes}
use Rattle.format.specs.Laws.Format.{one}
use Rattle.buffer.specs.Laid.{put}
use Rattle.room.specs.Laws.Room.{room_judged}
use Rattle.kind.specs.declared.Product.{Product}
use Rattle.kind.specs.Kinds.{edition_of, kind_of}
use Rattle.date.specs.Double.{accepted}
use Rattle.moment.specs.Moment.{SaysBy}
use Rattle.moment.specs.Laws.One.{said_one}
use Rattle.value.specs.declared.Value.{Value}
use Rattle.value.specs.Value.{value_answer}
use Rattle.put.specs.Plan.{write, deny, putting, put_says, Putting, put_leaves}
use Rattle.scan.specs.Scan.{scan_says}
use Rattle.deck.specs.Deck.{Deck, read_as, read_deck, answered, scanned}
use Rattle.tables.specs.Tables.{tabled, read_says, rules_left, rules_after, elements_left, elements_after}
use Rattle.view.specs.View.{view_says}
use Rattle.name_view.specs.Name.{name_view}
use Rattle.word_view.specs.Word.{word_view}
use Rattle.fixed.specs.Fixed.{fields_answer}
use Rattle.plan.specs.Edit.{Edit, Plan, become, refuse, refuse_given, planned, says, leaves, Edits}
use Rattle.plan.specs.Handed.{Handed}
use Rattle.convert.specs.Convert.{other_plan, Converts}
use Rattle.start.specs.Start.{start_says, start_leaves}
use Rattle.start.specs.Laws.Start.{start_none}
use Rattle.bounds.specs.Listed.{Numbers, exactly, allowed, Lists}
use Rattle.bounds.specs.Laws.Listed.{allowed_later, within_lists}
use Rattle.bounds.specs.Calls.{deck_numbers, check_numbers, read_numbers, convert_numbers, view_numbers, edit_numbers, kind_numbers, moment_numbers, value_numbers, put_numbers}
use Rattle.bounds.specs.Laws.Calls.{check_listed, pass_listed, read_listed, name_listed, word_listed, fixed_listed, edit_listed}
use Rattle.bounds.specs.Laws.Convert.{convert_listed, back_not_large}
use Rattle.bounds.specs.Laws.Results.{kind_listed, moment_listed, value_listed, put_listed}
use Rattle.lent.specs.Lent.{moment_width, lent_says, lent_leaves, Lends}
use Rattle.lent_moment.specs.Moment.{LendsMoment}
use Rattle.lent.specs.Laws.Lent.{lent_as}
use Rattle.rule_deck.specs.Sent.{Hands, HandsMoment}

-- the answer and the buffer of an edit are functions of what it was called with: two outcomes that the promise allows coincide
pub edits_coincide : (edition n : ℕ) (e : Edit) (d : List ℕ) {r q : Outcome} {x y : List ℕ} → Edits edition n e d r x → Edits edition n e d q y → (r ≡ q) × (x ≡ y)
edits_coincide edition n e d f g = (one f.0 g.0, one f.1 g.1)

-- so are those of a conversion
pub converts_coincide : (edition v u : ℕ) (s d : List ℕ) {r q : Outcome} {x y : List ℕ} → Converts edition v u s d r x → Converts edition v u s d q y → (r ≡ q) × (x ≡ y)
converts_coincide edition v u s d f g = (one f.0 g.0, one f.1 g.1)

-- a refused plan leaves the buffer as found
plan_as_found : (n : ℕ) (d : List ℕ) (q : Plan Deck) → 0 < code_of (says q) → leaves n d q ≡ d
unfolding says leaves
plan_as_found n d (become k) h = absurd (omega arith)
plan_as_found n d (refuse c o) h = refl
plan_as_found n d (refuse_given c o) h = refl

-- so a refused edit does
pub edit_as_found : (edition n : ℕ) (e : Edit) (d : List ℕ) {r : Outcome} {x : List ℕ} → Edits edition n e d r x → 0 < code_of r → x ≡ d
edit_as_found edition n e d f h = f.1 ∙ plan_as_found n d (planned edition n d e) (rw f.0 at h)

-- and a refused conversion
pub convert_as_found : (edition v u : ℕ) (s d : List ℕ) {r : Outcome} {x : List ℕ} → Converts edition v u s d r x → 0 < code_of r → x ≡ d
convert_as_found edition v u s d f h = f.1 ∙ plan_as_found 0 d (other_plan edition v u (length d) s) (rw f.0 at h)

-- a refused read leaves both tables as found
pub read_as_found : (edition : ℕ) (s rules elements : List ℕ) → 0 < code_of (read_says (edition_of edition) (length rules) (length elements) s)
    → (rules_after (edition_of edition) s rules elements ≡ rules) × (elements_after (edition_of edition) s rules elements ≡ elements)
read_as_found edition s rules elements = by (edition_of edition)
  where
    left : (a : Answer Deck) (o : Outcome) → 0 < code_of o → (p : Product) → (rules_left p o a rules ≡ rules) × (elements_left p o a elements ≡ elements)
    left a (Ok n) h p = absurd (omega arith)
    left a (Err (At c q)) h p = (refl, refl)
    left a (Err (Given c q)) h p = (refl, refl)

    by : (o : Edition) → 0 < code_of (read_says o (length rules) (length elements) s) → (rules_after o s rules elements ≡ rules) × (elements_after o s rules elements ≡ elements)
    by (Some p) h = left (read_as p s) (tabled (length rules) (length elements) (read_as p s)) h p
    by None h = (refl, refl)

-- a refused value, and a refused start, leave the buffer as found
pub put_as_found : (edition id : ℕ) (v : Value) (buf : List ℕ) → 0 < code_of (put_says (putting edition id v (length buf))) → put_leaves buf (putting edition id v (length buf)) ≡ buf
unfolding put_says put_leaves
put_as_found edition id v buf = go (putting edition id v (length buf))
  where
    go : (x : Putting) → 0 < code_of (put_says x) → put_leaves buf x ≡ buf
    go (write bs) h = absurd (omega arith)
    go (deny o) h = refl

pub start_as_found : (d : List ℕ) → 0 < code_of (start_says (length d)) → start_leaves d ≡ d
start_as_found d = room_judged 0 7 (length d) (λ o. 0 < code_of o → start_leaves d ≡ d) (λ w h. absurd (omega arith)) (λ l. absurd (omega arith)) (λ l. absurd (omega arith)) (λ l h. start_none d l)

-- ---- "refuses by a number and a place from document 01's table": by the numbers that the call may give, at the places that the table has for them

-- the deck check, and a pass: 1 to 13, and 29
pub check_refuses : (edition : ℕ) (s : List ℕ) → Lists check_numbers (answered (read_deck edition s))
check_refuses edition s = check_listed edition s

pub pass_refuses : (edition : ℕ) (s : List ℕ) → Lists check_numbers (scan_says (scanned (read_deck edition s)))
pass_refuses edition s = pass_listed edition s

-- a read: 1 to 14, and 29
pub read_refuses : (edition : ℕ) (s rules elements : List ℕ) → Lists read_numbers (read_says (edition_of edition) (length rules) (length elements) s)
read_refuses edition s rules elements = read_listed edition (length rules) (length elements) s

-- views and fixed fields: 1 to 13, 29, and 16, of a word at 0, 1 or 2
pub name_refuses : (edition k : ℕ) (s : List ℕ) → Lists (view_numbers 0) (view_says (name_view edition k s))
name_refuses edition k s = name_listed edition k s

pub word_refuses : (edition k e w : ℕ) (s : List ℕ) → Lists (view_numbers 2) (view_says (word_view edition k e w s))
word_refuses edition k e w s = word_listed edition k e w s

pub fields_refuse : (edition k : ℕ) (s : List ℕ) → Lists (view_numbers 0) (fields_answer edition k s).0
fields_refuse edition k s = fixed_listed edition k s

-- the seven edits: 1 to 13, 29, 15, 18 to 20, and what each judges of its own and of what it is given
pub edit_refuses : (edition n : ℕ) (e : Edit) (d : List ℕ) {r : Outcome} {x : List ℕ} → Handed e → Edits edition n e d r x → Lists (edit_numbers e) r
edit_refuses edition n e d h f = edit_listed edition n e d h f

-- a conversion: 1 to 13, 29, and last 19 and 20; back to version 1 never 19
pub convert_refuses : (edition v u : ℕ) (s d : List ℕ) {r : Outcome} {x : List ℕ} → Bytes s → Converts edition v u s d r x → Lists convert_numbers r
convert_refuses edition v u s d b f = rw f.0 (convert_listed edition v u (length d) s b)

pub back_refuses : (edition v : ℕ) (s d : List ℕ) {r : Outcome} {x : List ℕ} → Bytes s → Converts edition v 1 s d r x → Lists (deck_numbers (exactly 20 0 ∷ [])) r
back_refuses edition v s d b f = rw f.0 (back_not_large edition v (length d) s b)

-- "it refuses only with 20"
pub start_refuses : (cap : ℕ) → Lists (exactly 20 0 ∷ []) (start_says cap)
unfolding allowed
start_refuses cap = room_judged 0 7 cap (Lists (exactly 20 0 ∷ [])) (λ w. tt) (λ l. absurd (omega arith)) (λ l. absurd (omega arith)) (λ l. (refl, refl))

-- "An identifier alone .. 1, 9 or 10 at 0"
pub kind_refuses : (edition id : ℕ) → Lists kind_numbers (kind_of edition id).0
kind_refuses edition id = within_lists kind_numbers 0 (kind_of edition id).0 (kind_listed edition id)

-- "a lone date answers 11 at 0"
pub moment_refuses : (bits : ℕ) (x : Said) → SaysBy (accepted bits) bits x → Lists moment_numbers x.0
moment_refuses bits x f = within_lists moment_numbers 0 x.0 (moment_listed bits x f)

-- "Turning lone element data into a value takes an edition and answers 1 first, then as for a given element"
pub value_refuses : (edition id : ℕ) (s : List ℕ) → Bytes s → Lists value_numbers (value_answer edition id s).0
value_refuses edition id s b = within_lists value_numbers 0 (value_answer edition id s).0 (value_listed edition id s b)

-- "Turning a value into data .. 1, then 41 or 42, then 40 at 0 .., then 43 at 16 or 32, then 20"
pub put_refuses : (edition id : ℕ) (v : Value) (room : ℕ) → Lists put_numbers (put_says (putting edition id v room))
put_refuses edition id v room = within_lists put_numbers 40 (put_says (putting edition id v room)) (put_listed edition id v room)

-- ---- a call with a table for its result: two outcomes that its promise allows coincide

pub results_coincide : (width : ℕ) (t : List ℕ) (x : Said) {r q : Outcome} {a b : List ℕ} → Lends width t x r a → Lends width t x q b → (r ≡ q) × (a ≡ b)
results_coincide width t x f g = (one f.0 g.0, one f.1 g.1)

pub moments_coincide : (bits : ℕ) (t : List ℕ) {r q : Outcome} {a b : List ℕ} → LendsMoment bits t r a → LendsMoment bits t q b → (r ≡ q) × (a ≡ b)
moments_coincide bits t f g = results_coincide moment_width t g.0 (lent_as moment_width t f.0 f.1.1 (said_one (accepted bits) bits f.0 g.0 f.1.0 g.1.0)) g.1.1

-- and so over the products' door
pub hands_coincide : (width : ℕ) (t : List ℕ) (x : Said) {r q : ℕ} {a b : List ℕ} → Hands width t x r a → Hands width t x q b → (r ≡ q) × (a ≡ b)
hands_coincide width t x f g = (one f.0 g.0, one f.1 g.1)

pub hand_moments_coincide : (bits : ℕ) (t : List ℕ) {r q : ℕ} {a b : List ℕ} → HandsMoment bits t r a → HandsMoment bits t q b → (r ≡ q) × (a ≡ b)
hand_moments_coincide bits t {r} {a = a} f g =
    let e = said_one (accepted bits) bits f.0 g.0 f.1.0 g.1.0 in
    let h : Hands moment_width t g.0 r a = rw e at f.1.1 in
    hands_coincide moment_width t g.0 h g.1.1

-- a refused one leaves it as found
pub result_as_found : (width : ℕ) (t : List ℕ) (x : Said) → 0 < code_of (lent_says width (length t) x) → lent_leaves width t x ≡ t
unfolding lent_says lent_leaves pick
result_as_found width t (Ok n, vs) h = go (leb width (length t)) h
  where
    go : (b : Bool) → 0 < code_of (pick b (Ok n) (Err (At Fault.Table 0))) → pick b (put t 0 vs) t ≡ t
    go true h = absurd (omega arith)
    go false h = refl
result_as_found width t (Err (At c q), vs) h = refl
result_as_found width t (Err (Given c q), vs) h = refl

-- and it refuses as the call without a table does, or with 14 at 0
pub result_refuses : (rows : List Numbers) (width room : ℕ) (x : Said) → Lists rows x.0 → Lists (exactly 14 0 ∷ rows) (lent_says width room x)
unfolding lent_says pick allowed
result_refuses rows width room (Ok n, vs) f = go (leb width room)
  where
    go : (b : Bool) → Lists (exactly 14 0 ∷ rows) (pick b (Ok n) (Err (At Fault.Table 0)))
    go true = tt
    go false = (refl, omega arith)
result_refuses rows width room (Err (At c q), vs) f = (allowed_later (exactly 14 0) rows (number_of c) q f.0, f.1)
result_refuses rows width room (Err (Given c q), vs) f = (allowed_later (exactly 14 0) rows (number_of c + 32) q f.0, f.1)

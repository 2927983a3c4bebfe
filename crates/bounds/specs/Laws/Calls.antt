-- Laws of ../Calls.antt: each call gives the numbers that are listed for it, and no others.
use Rattle.std.specs.Prelude.{ℕ, ◌+◌, ◌*◌, ◌≤◌, ◌≡◌, refl, Bool, true, false, leb, length, take, drop, Result, Ok, Err, Some, None}
use Rattle.std.proofs.Common.{arith}
use mathlib.Core.List.{List, [], ◌∷◌}
use Rattle.format.specs.declared.Fault.{Fault}
use Rattle.kind.specs.Answers.{Edition}
use Rattle.format.specs.Answers.{Outcome}
use Rattle.view.specs.Answers.{View}
use Rattle.format.specs.declared.Refusal.{Refusal}
use Rattle.format.specs.declared.Refusal.TheVariants.{At, Given}
use Rattle.format.specs.Fault.{number_of}
use Rattle.format.specs.Format.{Answer, got, refused, pick}
use Rattle.format.specs.ReadWrite.{within}
use Rattle.format.specs.Row.{total}
use Rattle.kind.specs.declared.Product.{Product}
use Rattle.kind.specs.Kinds.{edition_of}
use Rattle.element.specs.Data.{words_of}
use Rattle.element.specs.Element.{Element}
use Rattle.rule.specs.Rule.{Rule, elements_in}
use Rattle.scan.specs.Scan.{scan_says}
use Rattle.deck.specs.Deck.{Deck, read_as, read_by, read_deck, answered, scanned}
use Rattle.plan.specs.Edit.{Edit, switch, rename, remove, insert, add_rule, add_element, add_word, Plan, become, refuse, refuse_given, planned, says, Edits}
use Rattle.given.specs.Given.{given}
use Rattle.plan.specs.Handed.{Handed}
use Rattle.fill.specs.Rows.{rule_width, element_width}
use Rattle.tables.specs.Tables.{in_tables, tabled, read_says}
use Rattle.asked.specs.Asked.{asked, asked_by, asked_of, asked_first}
use Rattle.view.specs.View.{view_says}
use Rattle.name_view.specs.Name.{name_at, name_view}
use Rattle.data_word.specs.Word.{word_at}
use Rattle.word_view.specs.Word.{rule_word, word_view}
use Rattle.word_view.specs.Laws.Word.{element_word}
use Rattle.fixed.specs.Fixed.{fixed_at, fixed_fields, fields_say, fields_answer}
use Rattle.bounds.specs.Laws.Refused.{Only, NotLarge, Each, refused_as, as_refused, OfGift, only_planned}
use Rattle.bounds.specs.Calls.{judges, owns, Gift, nothing, a_deck, an_element, given_to, check_numbers, read_numbers, view_numbers, each_exactly, gift_numbers, later_numbers, edit_numbers}
use Rattle.bounds.specs.Laws.Places.{BytesOf, given_bytes}
use Rattle.bounds.specs.Listed.{Numbers, allowed, Lists, numbers, exactly}
use Rattle.bounds.specs.Laws.Listed.{allowed_first, allowed_later}
use Rattle.bounds.specs.Laws.Faulty.{Faulty, deck_faulty, deck_allowed, edition_listed, faulty_listed, ElementListed, element_listed_lem}
use Rattle.text.specs.Text.{Text}

pub check_listed : (edition : ℕ) (s : List ℕ) → Lists check_numbers (answered (read_deck edition s))
unfolding read_deck read_by
check_listed edition s = by (edition_of edition)
  where
    read : (p : Product) (a : Answer Deck) → read_as p s ≡ a → Lists check_numbers (answered a)
    read p (got k n) e = tt
    read p (refused c q) e = faulty_listed [] c q (as_refused Faulty (deck_faulty p s) e)

    by : (o : Edition) → Lists check_numbers (answered (read_by o s))
    by (Some p) = read p (read_as p s) refl
    by None = edition_listed []

-- and so does a pass over the deck
pub pass_listed : (edition : ℕ) (s : List ℕ) → Lists check_numbers (scan_says (scanned (read_deck edition s)))
pass_listed edition s = go (read_deck edition s) (check_listed edition s)
  where
    go : (a : Answer Deck) → Lists check_numbers (answered a) → Lists check_numbers (scan_says (scanned a))
    go (got k n) f = tt
    go (refused c q) f = f

pub read_listed : (edition rules elements : ℕ) (s : List ℕ) → Lists read_numbers (read_says (edition_of edition) rules elements s)
unfolding in_tables pick allowed within
read_listed edition rules elements s = by (edition_of edition)
  where
    read : (p : Product) (a : Answer Deck) → read_as p s ≡ a → Lists read_numbers (tabled rules elements a)
    read p (got k n) e = few (leb (rule_width * length k.rules) rules) (leb (element_width * total elements_in k.rules) elements)
      where
        few : (x y : Bool) → Lists read_numbers (pick x (pick y (Ok (length k.rules)) (Err (At Fault.Table 1))) (Err (At Fault.Table 0)))
        few true true = tt
        few true false = (refl, omega arith)
        few false y = (refl, omega arith)
    read p (refused c q) e = faulty_listed (numbers 14 14 1 ∷ []) c q (as_refused Faulty (deck_faulty p s) e)

    by : (o : Edition) → Lists read_numbers (read_says o rules elements s)
    by (Some p) = read p (read_as p s) refl
    by None = edition_listed (numbers 14 14 1 ∷ [])

absent_listed : (last q : ℕ) → q ≤ last → q ≤ 2 → Lists (view_numbers last) (Err (At Fault.Absent q))
absent_listed last q f g = (allowed_later (numbers 1 13 60000) _ 16 q (allowed_later (numbers 29 29 60000) _ 16 q (allowed_first 16 16 last [] 16 q (omega arith) (omega arith) f)), g)

-- Q says it of what is answered
module _ {A : Type 0} (f : Product → ℕ → Rule → Result A Refusal) (last : ℕ) (Q : Result A Refusal → Type 0) (says_no : (why : Refusal) → Lists (view_numbers last) (Err why) → Q (Err why)) (there : (p : Product) (at : ℕ) (r : Rule) → Q (f p at r)) where
  asked_listed : (edition k : ℕ) (s : List ℕ) → Q (asked f edition k s)
  unfolding asked
  asked_listed edition k s = by (edition_of edition)
    where
      first : (p : Product) (at : ℕ) (rs : List Rule) → Q (asked_first (f p) at rs)
      first p at [] = says_no (At Fault.Absent 0) (absent_listed last 0 (omega arith) (omega arith))
      first p at (r ∷ rs) = there p at r

      read : (p : Product) (a : Answer Deck) → read_as p s ≡ a → Q (asked_of f k p a)
      read p (got d n) e = first p _ (drop k d.rules)
      read p (refused c q) e = says_no (At c q) (faulty_listed (numbers 16 16 last ∷ []) c q (as_refused Faulty (deck_faulty p s) e))

      by : (o : Edition) → Q (asked_by f k o s)
      by (Some p) = read p (read_as p s) refl
      by None = says_no (At Fault.Edition 0) (edition_listed (numbers 16 16 last ∷ []))

abbrev Viewed : ℕ → View → Type 0
Viewed last v = Lists (view_numbers last) (view_says v)

pub name_listed : (edition k : ℕ) (s : List ℕ) → Lists (view_numbers 0) (view_says (name_view edition k s))
unfolding name_view
name_listed edition k s = asked_listed (λ p. name_at) 0 (Viewed 0) (λ why f. f) (λ p at r. tt) edition k s

-- "no such rule / element / word, or no word list there": 0, 1 or 2
pub word_listed : (edition k e w : ℕ) (s : List ℕ) → Lists (view_numbers 2) (view_says (word_view edition k e w s))
unfolding word_view
word_listed edition k e w s = asked_listed (rule_word k e w) 2 (Viewed 2) (λ why f. f) (λ p at r. element (drop e r.elements) _) edition k s
  where
    worded : (ws : List Text) (at : ℕ) → Viewed 2 (word_at at ws)
    worded [] at = absent_listed 2 2 (omega arith) (omega arith)
    worded (t ∷ ws) at = tt

    element : (xs : List Element) (at : ℕ) → Viewed 2 (element_word e w at xs)
    element [] at = absent_listed 2 1 (omega arith) (omega arith)
    element (x ∷ xs) at = worded (drop w (words_of x.1)) _

pub fixed_listed : (edition k : ℕ) (s : List ℕ) → Lists (view_numbers 0) (fields_answer edition k s).0
unfolding fixed_fields
fixed_listed edition k s = asked_listed (λ p. fixed_at) 0 (λ v. Lists (view_numbers 0) (fields_say v).0) (λ why f. f) (λ p at r. tt) edition k s

-- ---- the edits

abbrev OwnListed : Edit → Fault → ℕ → Type 0
OwnListed e c q = Lists (edit_numbers e) (Err (At c q))

abbrev GivenListed : Edit → Fault → ℕ → Type 0
GivenListed e c q = Lists (edit_numbers e) (Err (Given c q))

judges_listed : (e : Edit) → Each (OwnListed e) (judges e)
unfolding Each allowed within
judges_listed (switch k on) = ((refl, omega arith), tt)
judges_listed (rename k name) = ((refl, omega arith), ((refl, refl), tt))
judges_listed (remove k) = ((refl, omega arith), tt)
judges_listed (insert k second j) = ((refl, omega arith), ((refl, omega arith), tt))
judges_listed (add_rule name f id s) = ((refl, refl), tt)
judges_listed (add_element id s) = ((refl, refl), ((refl, refl), tt))
judges_listed (add_word word) = ((refl, refl), ((refl, refl), ((refl, refl), tt)))

owns_listed : (e : Edit) → Each (OwnListed e) (owns e)
unfolding Each allowed within
owns_listed e = ((refl, refl), ((refl, refl), ((refl, refl), ((refl, refl), ((refl, refl), judges_listed e)))))

-- what is among the later rows is among all
behind : (faults : List (Fault × ℕ)) (rows : List Numbers) (n q : ℕ) → allowed rows n q ≡ true → allowed (each_exactly faults rows) n q ≡ true
behind [] rows n q f = f
behind ((c, o) ∷ faults) rows n q f = allowed_later (exactly (number_of c) o) (each_exactly faults rows) n q (behind faults rows n q f)

gift_allowed : (e : Edit) (n q : ℕ) → allowed (gift_numbers (given_to e)) n q ≡ true → allowed (edit_numbers e) n q ≡ true
gift_allowed e n q f = allowed_later (numbers 1 13 60000) _ n q (allowed_later (numbers 29 29 60000) (later_numbers e) n q (behind (owns e) (gift_numbers (given_to e)) n q f))

given_listed : (p : Product) (e : Edit) (g : Gift) → ((n q : ℕ) → allowed (gift_numbers g) n q ≡ true → allowed (edit_numbers e) n q ≡ true) → BytesOf g → OfGift (GivenListed e) p g
given_listed p e nothing w h = tt
given_listed p e (a_deck s) w h = refused_as (GivenListed e) (read_as p s) (λ c q z.
    let f = as_refused Faulty (deck_faulty p s) z in
    (w (number_of c + 32) q (deck_allowed 34 32 [] (number_of c) (number_of c + 32) q (omega arith) (omega arith) f.0 f.1.0), f.1.1))
given_listed p e (an_element id s) w h = refused_as (GivenListed e) (given p id s) (λ c q z.
    let f = as_refused ElementListed (element_listed_lem p id s h) z in
    (w (number_of c + 32) q f.0, f.1))

pub edit_listed : (edition n : ℕ) (e : Edit) (d : List ℕ) {r : Outcome} {x : List ℕ} → Handed e → Edits edition n e d r x → Lists (edit_numbers e) r
unfolding says
edit_listed edition n e d h f =
    rw f.0 (go (planned edition n d e) (only_planned (OwnListed e) (GivenListed e) edition n d e (owns_listed e) (λ p i. (refused_as (OwnListed e) (read_as p (take n d)) (λ c q z. faulty_listed (later_numbers e) c q (as_refused Faulty (deck_faulty p (take n d)) z)), given_listed p e (given_to e) (gift_allowed e) (given_bytes e h)))))
  where
    go : (x : Plan Deck) → Only NotLarge (OwnListed e) (GivenListed e) x → Lists (edit_numbers e) (says x)
    go (become x) f = tt
    go (refuse c q) f = f
    go (refuse_given c q) f = f

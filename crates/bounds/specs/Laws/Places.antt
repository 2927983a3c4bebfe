-- No place that an edit answers is above 60,000, so that each answer is one number of 64 bits: code plus 256 times place.
use Rattle.std.specs.Prelude.{ℕ, ◌*◌, ◌≤◌, ◌≡◌, refl, Bool, true, false, List, [], ◌∷◌, leb, length, take, drop, Ok, Err, Some, None}
use Rattle.std.proofs.Common.{arith}
use Rattle.format.specs.declared.Fault.{Fault}
use Rattle.kind.specs.Answers.{Edition}
use Rattle.view.specs.Answers.{View}
use Rattle.format.specs.declared.Refusal.TheVariants.{At}
use Rattle.format.specs.Fault.{place_of}
use Rattle.format.specs.Row.{total}
use Rattle.format.specs.Format.{Answer, got, refused, end_of, pick, Bytes}
use Rattle.format.specs.Laws.Format.{bytes_take}
use Rattle.text.specs.Text.{Text}
use Rattle.kind.specs.declared.Product.{Product}
use Rattle.kind.specs.Kinds.{edition_of}
use Rattle.element.specs.Data.{words_of}
use Rattle.element.specs.Element.{Element}
use Rattle.rule.specs.Rule.{Rule, elements_in}
use Rattle.deck.specs.Deck.{Deck, read_as, read_by, read_deck, answered}
use Rattle.deck.specs.Laws.Deck.{place_small, read_writes_back}
use Rattle.deck.specs.Written.{start_of}
use Rattle.given.specs.Given.{given}
use Rattle.plan.specs.Edit.{Edit, switch, rename, remove, insert, add_rule, add_element, add_word, Plan, become, refuse, refuse_given, planned, says}
use Rattle.plan.specs.Handed.{Handed}
use Rattle.fill.specs.Rows.{rule_width, element_width}
use Rattle.tables.specs.Tables.{in_tables, tabled, read_says}
use Rattle.asked.specs.Asked.{asked, asked_by, asked_of, asked_first}
use Rattle.view.specs.Laws.View.{Inside}
use Rattle.view.specs.View.{view_says}
use Rattle.name_view.specs.Name.{name_at, name_view}
use Rattle.data_word.specs.Word.{word_at}
use Rattle.word_view.specs.Word.{rule_word, word_view}
use Rattle.word_view.specs.Laws.Word.{element_word}
use Rattle.bounds.specs.Calls.{most, judges, owns, Gift, nothing, a_deck, an_element, given_to}
use Rattle.bounds.specs.Laws.Data.{given_end}
use Rattle.bounds.specs.Laws.Refused.{Only, NotLarge, Each, RefusedAs, refused_as, OfGift, only_planned}

-- what is lent to an edit beside its buffer, and is read, is bytes
abbrev pub BytesOf : Gift → Type 0
BytesOf nothing = Unit {0}
BytesOf (a_deck s) = Bytes s
BytesOf (an_element id s) = Bytes s

pub given_bytes : (e : Edit) → Handed e → BytesOf (given_to e)
unfolding Handed
given_bytes (switch k on) h = tt
given_bytes (rename k name) h = tt
given_bytes (remove k) h = tt
given_bytes (insert k second j) h = h
given_bytes (add_rule name f id s) h = h.1.1.1
given_bytes (add_element id s) h = h.1
given_bytes (add_word word) h = tt

-- a reading in an edition
read_small : (edition : ℕ) (p : Product) (s : List ℕ) → edition_of edition ≡ Some p → Bytes s → place_of (answered (read_as p s)) ≤ 60000
unfolding read_deck read_by
read_small edition p s e b = rw e at (place_small edition s b)

abbrev Small : Fault → ℕ → Type 0
Small c q = q ≤ 60000

small_judges : (e : Edit) → Each Small (judges e)
unfolding Each
small_judges (switch k on) = (omega arith, tt)
small_judges (rename k name) = (omega arith, (omega arith, tt))
small_judges (remove k) = (omega arith, tt)
small_judges (insert k second j) = (omega arith, (omega arith, tt))
small_judges (add_rule name f id s) = (omega arith, tt)
small_judges (add_element id s) = (omega arith, (omega arith, tt))
small_judges (add_word word) = (omega arith, (omega arith, (omega arith, tt)))

small_owns : (e : Edit) → Each Small (owns e)
unfolding Each
small_owns e = (omega arith, (omega arith, (omega arith, (omega arith, (omega arith, small_judges e)))))

module _ (edition : ℕ) (p : Product) (ed : edition_of edition ≡ Some p) where
  element_small : (id : ℕ) (s : List ℕ) → Bytes s → RefusedAs Small (given p id s)
  unfolding end_of
  element_small id s b = refused_as Small (given p id s) (λ c q e. let w : q ≤ most = rw e at (given_end p id s b) in omega arith)

  deck_small : (s : List ℕ) → Bytes s → RefusedAs Small (read_as p s)
  deck_small s b = refused_as Small (read_as p s) (λ c q e. rw e at (read_small edition p s ed b))

  given_small : (g : Gift) → BytesOf g → OfGift Small p g
  given_small nothing h = tt
  given_small (a_deck s) h = deck_small s h
  given_small (an_element id s) h = element_small id s h

pub plan_small : (edition n : ℕ) (d : List ℕ) (e : Edit) → Bytes d → Handed e → place_of (says (planned edition n d e)) ≤ 60000
unfolding says
plan_small edition n d e b h = go (planned edition n d e) (only_planned Small Small edition n d e (small_owns e) (λ p f. (deck_small edition p f (take n d) (bytes_take n d b), given_small edition p f (given_to e) (given_bytes e h))))
  where
    go : (x : Plan Deck) → Only NotLarge Small Small x → place_of (says x) ≤ 60000
    go (become x) f = f
    go (refuse c q) f = f
    go (refuse_given c q) f = f

-- ---- nor is one that a view answers

-- what is told of a rule that is there
abbrev Few : View → Type 0
Few (Ok (a, n, form)) = Unit {0}
Few (Err why) = place_of (Err why) ≤ 2

view_small : (f : Product → ℕ → Rule → View) (edition k : ℕ) (s : List ℕ) → ((p : Product) (at : ℕ) (r : Rule) → Few (f p at r)) → Bytes s → Inside (asked f edition k s) 60000 → place_of (view_says (asked f edition k s)) ≤ 60000
unfolding asked
view_small f edition k s g b = by (edition_of edition) refl
  where
    at_rule_lem : (v : View) → Few v → Inside v 60000 → place_of (view_says v) ≤ 60000
    at_rule_lem (Ok (a, n, form)) w i = omega arith
    at_rule_lem (Err why) w i = omega arith

    first : (p : Product) (at : ℕ) (rs : List Rule) → Inside (asked_first (f p) at rs) 60000 → place_of (view_says (asked_first (f p) at rs)) ≤ 60000
    first p at [] i = omega arith
    first p at (r ∷ rs) i = at_rule_lem (f p at r) (g p at r) i

    read : (p : Product) (a : Answer Deck) → place_of (answered a) ≤ 60000 → Inside (asked_of f k p a) 60000 → place_of (view_says (asked_of f k p a)) ≤ 60000
    read p (got d m) w i = first p (start_of d.version d.rules k) (drop k d.rules) i
    read p (refused c q) w i = w

    by : (o : Edition) → edition_of edition ≡ o → Inside (asked_by f k o s) 60000 → place_of (view_says (asked_by f k o s)) ≤ 60000
    by (Some p) e i = read p (read_as p s) (read_small edition p s e b) i
    by None e i = omega arith

-- a view that was found lies in the first 60,000 bytes
view_short : (f : Product → ℕ → Rule → View) (edition k : ℕ) (s : List ℕ) → Bytes s → Inside (asked f edition k s) (length s) → Inside (asked f edition k s) 60000
unfolding asked
view_short f edition k s b = by (edition_of edition)
  where
    at_rule_lem : (v : View) → length s ≤ 60000 → Inside v (length s) → Inside v 60000
    at_rule_lem (Ok (a, n, form)) l i = omega arith
    at_rule_lem (Err why) l i = tt

    read : (p : Product) (a : Answer Deck) → read_as p s ≡ a → Inside (asked_of f k p a) (length s) → Inside (asked_of f k p a) 60000
    read p (got d m) h i = at_rule_lem (asked_first (f p) (start_of d.version d.rules k) (drop k d.rules)) (read_writes_back p s d m b h).short i
    read p (refused c q) h i = tt

    by : (o : Edition) → Inside (asked_by f k o s) (length s) → Inside (asked_by f k o s) 60000
    by (Some p) i = read p (read_as p s) refl i
    by None i = tt

pub name_short : (edition k : ℕ) (s : List ℕ) {v : View} → Bytes s → v ≡ name_view edition k s → Inside v (length s) → Inside v 60000
unfolding name_view
name_short edition k s b e i = rw e (view_short (λ p. name_at) edition k s b (rw e at i))

pub word_short : (edition k e w : ℕ) (s : List ℕ) {v : View} → Bytes s → v ≡ word_view edition k e w s → Inside v (length s) → Inside v 60000
unfolding word_view
word_short edition k e w s b h i = rw h (view_short (rule_word k e w) edition k s b (rw h at i))

pub name_small : (edition k : ℕ) (s : List ℕ) → Bytes s → Inside (name_view edition k s) (length s) → place_of (view_says (name_view edition k s)) ≤ 60000
unfolding name_view
name_small edition k s b i = view_small (λ p. name_at) edition k s (λ p at r. tt) b (view_short (λ p. name_at) edition k s b i)

pub word_small : (edition k e w : ℕ) (s : List ℕ) → Bytes s → Inside (word_view edition k e w s) (length s) → place_of (view_says (word_view edition k e w s)) ≤ 60000
unfolding word_view
word_small edition k e w s b i = view_small (rule_word k e w) edition k s (λ p at r. element p (drop e r.elements) _) b (view_short (rule_word k e w) edition k s b i)
  where
    worded : (ws : List Text) (at : ℕ) → Few (word_at at ws)
    worded [] at = omega arith
    worded (t ∷ ws) at = tt

    element : (p : Product) (xs : List Element) (at : ℕ) → Few (element_word e w at xs)
    element p [] at = omega arith
    element p (x ∷ xs) at = worded (drop w (words_of x.1)) _

-- ---- nor one that a read with tables answers
pub tables_small : (edition rules elements : ℕ) (s : List ℕ) → Bytes s → place_of (read_says (edition_of edition) rules elements s) ≤ 60000
unfolding pick in_tables
tables_small edition rules elements s b = by (edition_of edition) refl
  where
    read : (a : Answer Deck) → place_of (answered a) ≤ 60000 → place_of (tabled rules elements a) ≤ 60000
    read (got k n) h = few (leb (rule_width * length k.rules) rules) (leb (element_width * total elements_in k.rules) elements)
      where
        few : (x y : Bool) → place_of (pick x (pick y (Ok (length k.rules)) (Err (At Fault.Table 1))) (Err (At Fault.Table 0))) ≤ 60000
        few true true = h
        few true false = omega arith
        few false y = omega arith
    read (refused c q) h = h

    by : (o : Edition) → edition_of edition ≡ o → place_of (read_says o rules elements s) ≤ 60000
    by (Some p) e = read (read_as p s) (read_small edition p s e b)
    by None e = omega arith

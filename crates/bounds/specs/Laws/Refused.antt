-- What an edit can be refused for, from what its parts can: N says which faults are its own, and at which places, G which are of what it is given.
use Rattle.std.specs.Prelude.{ℕ, ◌≤◌, ◌≡◌, Bool, leb, length, take, Some, None}
use Rattle.std.proofs.Math.Path.{refl}
use Rattle.std.proofs.Math.Bool.{true, false}
use mathlib.Core.List.{List, [], ◌∷◌}
use Rattle.format.specs.declared.Fault.{Fault}
use Rattle.format.specs.Format.{Answer, got, refused, pick}
use Rattle.text.specs.Text.{Text}
use Rattle.kind.specs.declared.Product.{Product}
use Rattle.kind.specs.Answers.{Edition}
use Rattle.kind.specs.Kinds.{edition_of}
use Rattle.element.specs.Data.{plain, words, sizes, span}
use Rattle.element.specs.Element.{Element}
use Rattle.rule.specs.Rule.{Rule}
use Rattle.deck.specs.Deck.{Deck, read_as}
use Rattle.deck.specs.Written.{deck_of, written}
use Rattle.room.specs.Laws.Room.{room_judged}
use Rattle.given.specs.Given.{given}
use Rattle.plan.specs.Edit.{Edit, switch, rename, remove, insert, add_rule, add_element, add_word, Plan, become, refuse, refuse_given, at_rule, at_copy, at_second, at_last, at_list, unless_full, if_text, at_given, edited, in_version, if_done, in_room, plan, plan_by, planned}
use Rattle.bounds.specs.Calls.{judges, owns, Gift, given_to, nothing, a_deck, an_element}

-- a plan that is refused, if it is, as they say; and what is known of what it becomes
abbrev pub Only : {A : Type 0} → (A → Type 0) → (Fault → ℕ → Type 0) → (Fault → ℕ → Type 0) → Plan A → Type 0
Only B N G (become x) = B x
Only B N G (refuse c q) = N c q
Only B N G (refuse_given c q) = G c q

abbrev Any : List Rule → Type 0
Any rs = Unit {0}

abbrev pub NotLarge : Deck → Type 0
NotLarge k = length (written k.version k.rules) ≤ 60000

-- N says it of each
unfoldable pub Each : (Fault → ℕ → Type 0) → List (Fault × ℕ) → Type 0
Each N [] = Unit {0}
Each N ((c, q) ∷ rows) = N c q × Each N rows

-- an answer is refused, if it is, as G says of fault and place
unfoldable pub RefusedAs : {A : Type 0} → (Fault → ℕ → Type 0) → Answer A → Type 0
RefusedAs G (got x n) = Unit {0}
RefusedAs G (refused c q) = G c q

pub refused_as : {A : Type 0} (G : Fault → ℕ → Type 0) (a : Answer A) → ((c : Fault) (q : ℕ) → a ≡ refused c q → G c q) → RefusedAs G a
unfolding RefusedAs
refused_as G (got x n) f = tt
refused_as G (refused c q) f = f c q refl

pub as_refused : {A : Type 0} (G : Fault → ℕ → Type 0) {a : Answer A} {c : Fault} {q : ℕ} → RefusedAs G a → a ≡ refused c q → G c q
unfolding RefusedAs
as_refused G f e = rw e at f

abbrev pub OfGift : (Fault → ℕ → Type 0) → Product → Gift → Type 0
OfGift G p nothing = Unit {0}
OfGift G p (a_deck s) = RefusedAs G (read_as p s)
OfGift G p (an_element id s) = RefusedAs G (given p id s)

module _ (N G : Fault → ℕ → Type 0) where
  only_pick : (b : Bool) (q : Plan (List Rule)) (c : Fault) (at : ℕ) → N c at → Only Any N G q → Only Any N G (pick b q (refuse c at))
  unfolding pick
  only_pick true q c at h f = f
  only_pick false q c at h f = h

  only_text : (s : List ℕ) (q : Plan (List Rule)) → N Fault.Text 0 → Only Any N G q → Only Any N G (if_text s q)
  unfolding if_text
  only_text s q h f = only_pick _ q Fault.Text 0 h f

  only_full : (n : ℕ) (q : Plan (List Rule)) → N Fault.Full 0 → Only Any N G q → Only Any N G (unless_full n q)
  unfolding unless_full
  only_full n q h f = only_pick _ q Fault.Full 0 h f

  only_rule : (ys : List Rule) (f : Rule → List Rule → Plan (List Rule)) → N Fault.Absent 0 → ((r : Rule) (later : List Rule) → Only Any N G (f r later)) → Only Any N G (at_rule ys f)
  unfolding at_rule
  only_rule [] f h g = h
  only_rule (r ∷ later) f h g = g r later

  only_copy : (ys : List Rule) (f : Rule → Plan (List Rule)) → N Fault.Absent 1 → ((r : Rule) → Only Any N G (f r)) → Only Any N G (at_copy ys f)
  unfolding at_copy
  only_copy [] f h g = h
  only_copy (r ∷ later) f h g = g r

  only_last : (ys : List Rule) (f : Rule → Plan (List Rule)) → N Fault.Last 0 → ((r : Rule) → Only Any N G (f r)) → Only Any N G (at_last ys f)
  unfolding at_last
  only_last [] f h g = h
  only_last (r ∷ later) f h g = g r

  only_list : (ys : List Element) (f : ℕ → List Text → Plan (List Rule)) → N Fault.Last 0 → ((id : ℕ) (ws : List Text) → Only Any N G (f id ws)) → Only Any N G (at_list ys f)
  unfolding at_list
  only_list [] f h g = h
  only_list ((id, plain) ∷ later) f h g = h
  only_list ((id, words ws) ∷ later) f h g = g id ws
  only_list ((id, sizes a b) ∷ later) f h g = h
  only_list ((id, span a b) ∷ later) f h g = h

  only_given : (a : Answer Element) (f : Element → Plan (List Rule)) → RefusedAs G a → ((x : Element) → Only Any N G (f x)) → Only Any N G (at_given a f)
  unfolding at_given RefusedAs
  only_given (got x n) f h g = g x
  only_given (refused c q) f h g = h

  only_second : (a : Answer Deck) (f : List Rule → Plan (List Rule)) → RefusedAs G a → ((qs : List Rule) → Only Any N G (f qs)) → Only Any N G (at_second a f)
  unfolding at_second RefusedAs
  only_second (got k n) f h g = g k.rules
  only_second (refused c q) f h g = h

  only_edited : (p : Product) (e : Edit) (rs : List Rule) → Each N (judges e) → OfGift G p (given_to e) → Only Any N G (edited p e rs)
  unfolding edited Each
  only_edited p (switch k on) rs j h = only_rule _ _ j.0 (λ r later. tt)
  only_edited p (rename k name) rs j h = only_rule _ _ j.0 (λ r later. only_text name _ j.1.0 tt)
  only_edited p (remove k) rs j h = only_rule _ _ j.0 (λ r later. tt)
  only_edited p (insert k second i) rs j h = only_second _ _ h (λ qs. only_pick _ _ Fault.Absent 0 j.0 (only_copy _ _ j.1.0 (λ q. tt)))
  only_edited p (add_rule name f id s) rs j h = only_text name _ j.0 (only_given _ _ h (λ x. tt))
  only_edited p (add_element id s) rs j h = only_last _ _ j.0 (λ r. only_full _ _ j.1.0 (only_given _ _ h (λ x. tt)))
  only_edited p (add_word word) rs j h = only_last _ _ j.0 (λ r. only_list _ _ j.0 (λ id ws. only_full _ _ j.1.0 (only_text word _ j.1.1.0 tt)))

  only_room : (e : Edit) → Each N (owns e) → (cap v : ℕ) (q : Plan (List Rule)) → Only Any N G q → Only NotLarge N G (in_room cap (in_version v q))
  unfolding Each
  only_room e o cap v (become rs) f =
      room_judged (length rs) (length (written v rs)) cap (λ r. Only NotLarge N G (if_done r (deck_of v rs))) (λ w. w.short) (λ l. o.1.1.0) (λ l. o.1.1.1.0) (λ l. o.1.1.1.1.0)
  only_room e o cap v (refuse c q) f = f
  only_room e o cap v (refuse_given c q) f = f

  pub only_planned : (edition n : ℕ) (d : List ℕ) (e : Edit) → Each N (owns e) → ((p : Product) → edition_of edition ≡ Some p → RefusedAs N (read_as p (take n d)) × OfGift G p (given_to e)) → Only NotLarge N G (planned edition n d e)
  unfolding planned pick RefusedAs Each
  only_planned edition n d e o w = by (edition_of edition) refl
    where
      read : (p : Product) (a : Answer Deck) → RefusedAs N a × OfGift G p (given_to e) → Only NotLarge N G (plan p (length d) e a)
      read p (got k m) f = only_room e o (length d) k.version (edited p e k.rules) (only_edited p e k.rules o.1.1.1.1.1 f.1)
      read p (refused c q) f = f.0

      stated : (p : Product) (t : Bool) → edition_of edition ≡ Some p → Only NotLarge N G (pick t (plan p (length d) e (read_as p (take n d))) (refuse Fault.Stated 0))
      stated p true f = read p (read_as p (take n d)) (w p f)
      stated p false f = o.1.0

      by : (x : Edition) → edition_of edition ≡ x → Only NotLarge N G (plan_by x n d e)
      by (Some p) f = stated p (leb n (length d)) f
      by None f = o.0

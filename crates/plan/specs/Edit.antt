-- An edit is a plan: the edited list of rules, or a refusal; a deck keeps its version. Document 01, "Edits and building".
use Rattle.std.specs.Prelude.{ℕ, ◌-◌, max, Bool, List, [], ◌∷◌, ◌++◌, leb, ltb, length, take, drop, ◌≡◌, Ok, Err, Some, None}
use Rattle.format.specs.declared.Fault.{Fault}
use Rattle.kind.specs.Answers.{Edition}
use Rattle.format.specs.Answers.{Outcome}
use Rattle.format.specs.declared.Refusal.TheVariants.{At, Given}
use Rattle.format.specs.Format.{Answer, got, refused, pick}
use Rattle.text.specs.Text.{Text}
use Rattle.kind.specs.declared.Product.{Product}
use Rattle.kind.specs.Kinds.{edition_of}
use Rattle.element.specs.Data.{plain, words, sizes, span}
use Rattle.element.specs.Element.{Element}
use Rattle.rule.specs.declared.Fields.{Fields}
use Rattle.rule.specs.Rule.{Rule}
use Rattle.deck.specs.Deck.{Deck, read_as}
use Rattle.deck.specs.Written.{deck_of, afresh}
use Rattle.buffer.specs.Laid.{laid}
use Rattle.room.specs.Room.{room_for}
use Rattle.given.specs.Given.{is_text, text_of, given}

-- the seven edits, and what each is asked with: numbers of rules, texts as their bytes, the second deck, an element as identifier and data
pub data Edit : Type 0 where
  switch : ℕ → Bool → Edit
  rename : ℕ → List ℕ → Edit
  remove : ℕ → Edit
  insert : ℕ → List ℕ → ℕ → Edit
  add_rule : List ℕ → Fields → ℕ → List ℕ → Edit
  add_element : ℕ → List ℕ → Edit
  add_word : List ℕ → Edit

-- what an edit comes to: another list of rules, or another deck; a fault with its place; or a fault in a second deck or in given element data
pub data Plan (A : Type 0) : Type 0 where
  become : A → Plan A
  refuse : Fault → ℕ → Plan A
  refuse_given : Fault → ℕ → Plan A

-- ---- a rule with one thing changed
abbrev pub switched : Bool → Rule → Rule
switched b r = record { signature = r.signature; name = r.name; on = b; unknown2 = r.unknown2; unknown3 = r.unknown3; unknown4 = r.unknown4; unknown5 = r.unknown5; elements = r.elements }

abbrev pub renamed : Text → Rule → Rule
renamed t r = record { signature = r.signature; name = t; on = r.on; unknown2 = r.unknown2; unknown3 = r.unknown3; unknown4 = r.unknown4; unknown5 = r.unknown5; elements = r.elements }

abbrev pub holding : List Element → Rule → Rule
holding xs r = record { signature = r.signature; name = r.name; on = r.on; unknown2 = r.unknown2; unknown3 = r.unknown3; unknown4 = r.unknown4; unknown5 = r.unknown5; elements = xs }

-- "a rule with its name, its fixed fields and first element"
abbrev pub new_rule : Text → Fields → Element → Rule
new_rule t f x = record { signature = f.signature; name = t; on = f.on; unknown2 = f.unknown2; unknown3 = f.unknown3; unknown4 = f.unknown4; unknown5 = f.unknown5; elements = x ∷ [] }

-- ---- what is judged on the way

-- the rules from k on: "no rule k" is 16 at 0
unfoldable pub at_rule : {A : Type 0} → List Rule → (Rule → List Rule → Plan A) → Plan A
at_rule [] f = refuse Fault.Absent 0
at_rule (r ∷ later) f = f r later

-- the rules of the second deck from j on: "no rule j" is 16 at 1
unfoldable pub at_copy : {A : Type 0} → List Rule → (Rule → Plan A) → Plan A
at_copy [] f = refuse Fault.Absent 1
at_copy (r ∷ later) f = f r

-- a second deck: "34 to 45"
unfoldable pub at_second : {A : Type 0} → Answer Deck → (List Rule → Plan A) → Plan A
at_second (got k n) f = f k.rules
at_second (refused c q) f = refuse_given c q

-- the last rule: "no rule" is 22
unfoldable pub at_last : {A : Type 0} → List Rule → (Rule → Plan A) → Plan A
at_last [] f = refuse Fault.Last 0
at_last (r ∷ later) f = f r

-- the last element: "no word list" is 22
unfoldable pub at_list : {A : Type 0} → List Element → (ℕ → List Text → Plan A) → Plan A
at_list [] f = refuse Fault.Last 0
at_list ((id, plain) ∷ later) f = refuse Fault.Last 0
at_list ((id, words ws) ∷ later) f = f id ws
at_list ((id, sizes a b) ∷ later) f = refuse Fault.Last 0
at_list ((id, span a b) ∷ later) f = refuse Fault.Last 0

-- "rule has 64 elements, or list has 64 words": 21
unfoldable pub unless_full : {A : Type 0} → ℕ → Plan A → Plan A
unless_full n q = pick (ltb n 64) q (refuse Fault.Full 0)

-- a new name or word: 17
unfoldable pub if_text : {A : Type 0} → List ℕ → Plan A → Plan A
if_text s q = pick (is_text s) q (refuse Fault.Text 0)

-- given element data: "34 to 45"
unfoldable pub at_given : {A : Type 0} → Answer Element → (Element → Plan A) → Plan A
at_given (got x n) f = f x
at_given (refused c q) f = refuse_given c q

-- ---- the edits
unfoldable pub edited : Product → Edit → List Rule → Plan (List Rule)
edited p (switch k on) rs = at_rule (drop k rs) λ r later. become (take k rs ++ (switched on r ∷ later))
edited p (rename k name) rs = at_rule (drop k rs) λ r later. if_text name (become (take k rs ++ (renamed (text_of name) r ∷ later)))
edited p (remove k) rs = at_rule (drop k rs) λ r later. become (take k rs ++ later)
-- "A place to insert at is 0 to the number of rules"
edited p (insert k second j) rs =
    at_second (read_as p second) λ qs. pick (leb k (length rs)) (at_copy (drop j qs) λ q. become (take k rs ++ (q ∷ drop k rs))) (refuse Fault.Absent 0)
edited p (add_rule name f id s) rs = if_text name (at_given (given p id s) λ x. become (rs ++ (new_rule (text_of name) f x ∷ [])))
edited p (add_element id s) rs =
    at_last (drop (length rs - 1) rs) λ r. unless_full (length r.elements)
    (at_given (given p id s) λ x. become (take (length rs - 1) rs ++ (holding (r.elements ++ (x ∷ [])) r ∷ [])))
edited p (add_word word) rs =
    at_last (drop (length rs - 1) rs) λ r. at_list (drop (length r.elements - 1) r.elements) λ id ws. unless_full (length ws)
    (if_text word (become (take (length rs - 1) rs ++ (holding (take (length r.elements - 1) r.elements ++ ((id, words (ws ++ (text_of word ∷ []))) ∷ [])) r ∷ []))))

-- the deck of the edited list
abbrev pub in_version : ℕ → Plan (List Rule) → Plan Deck
in_version v (become rs) = become (deck_of v rs)
in_version v (refuse c q) = refuse c q
in_version v (refuse_given c q) = refuse_given c q

-- what 18, 19 and 20 leave of it
abbrev pub if_done : Outcome → Deck → Plan Deck
if_done (Ok n) k = become k
if_done (Err (At c q)) k = refuse c q
if_done (Err (Given c q)) k = refuse_given c q

abbrev pub in_room : ℕ → Plan Deck → Plan Deck
in_room cap (become k) = if_done (room_for (length k.rules) (length (afresh k)) cap) k
in_room cap (refuse c q) = refuse c q
in_room cap (refuse_given c q) = refuse_given c q

-- "2 to 13 on its deck", then the edit, in a buffer of cap bytes
abbrev pub plan : Product → ℕ → Edit → Answer Deck → Plan Deck
plan p cap e (got k n) = in_room cap (in_version k.version (edited p e k.rules))
plan p cap e (refused c q) = refuse c q

-- "1, 15": an edit of the deck in the first n bytes of the buffer d
abbrev pub plan_by : Edition → ℕ → List ℕ → Edit → Plan Deck
plan_by (Some p) n d e = pick (leb n (length d)) (plan p (length d) e (read_as p (take n d))) (refuse Fault.Stated 0)
plan_by None n d e = refuse Fault.Edition 0

unfoldable pub planned : ℕ → ℕ → List ℕ → Edit → Plan Deck
planned edition n d e = plan_by (edition_of edition) n d e

-- ---- what a plan answers, "On success the place answered is the new length", and leaves of the buffer:
-- "Where a deck shrinks, the bytes from new to old length become zero. Bytes beyond the larger of the two stay"; a refusal "changes nothing"
unfoldable pub says : Plan Deck → Outcome
says (become k) = Ok (length (afresh k))
says (refuse c q) = Err (At c q)
says (refuse_given c q) = Err (Given c q)

unfoldable pub leaves : ℕ → List ℕ → Plan Deck → List ℕ
leaves n d (become k) = laid (afresh k) (max n (length (afresh k))) d
leaves n d (refuse c q) = d
leaves n d (refuse_given c q) = d

-- the promise of every edit: r is answered and the buffer d becomes d'
abbrev pub Edits : ℕ → ℕ → Edit → List ℕ → Outcome → List ℕ → Type 0
Edits edition n e d r d' = (r ≡ says (planned edition n d e)) × (d' ≡ leaves n d (planned edition n d e))

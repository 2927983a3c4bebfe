-- Demand 2, of views: "A view of a name or word is exactly the bytes of its units", which are those of the list of rules that was read; and document 02, W5:
-- the answer "also says which form it had".
use Rattle.std.specs.Prelude.{ℕ, ◌+◌, ◌*◌, ◌≡◌, List, ◌∷◌, [], drop, length, Result, Ok, Some}
use Rattle.format.specs.declared.Refusal.{Refusal}
use Rattle.format.specs.Format.{Bytes, got}
use Rattle.format.specs.Row.{start_in}
use Rattle.text.specs.Text.{word, Text, units_from}
use Rattle.kind.specs.declared.Product.{Product}
use Rattle.kind.specs.Kinds.{kinds, row_in, edition_of}
use Rattle.element.specs.Data.{words}
use Rattle.element.specs.Element.{Element}
use Rattle.rule.specs.Rule.{Rule}
use Rattle.rule.specs.Places.{data_at, units_at}
use Rattle.rule.specs.Laws.Places.{rule_parts, placed_parts}
use Rattle.deck.specs.Deck.{read_as}
use Rattle.deck.specs.Written.{deck_of, start_of}
use Rattle.asked.specs.Asked.{asked}
use Rattle.view.specs.View.{shown, part_says, form_number}
use Rattle.name_view.specs.Name.{name_view}
use Rattle.word_view.specs.Word.{word_view}
use Rattle.demands.specs.Places.{UnitsOf, element_start}
use Rattle.demands.specs.Laws.Places.{stands_in, string_units, word_units, words_row, rule_stands, element_stands}

-- the deck s was read as the rules rs in version v
module _ (edition : ℕ) (p : Product) (ed : edition_of edition ≡ Some p) (v : ℕ) (s : List ℕ) (rs : List Rule) (n : ℕ) (bs : Bytes s) (e : read_as p s ≡ got (deck_of v rs) n) where
  -- and r is rule k of them
  module _ (k : ℕ) {r : Rule} {later : List Rule} (is_r : drop k rs ≡ r ∷ later) where
    asked_is : {A : Type 0} (f : Product → ℕ → Rule → Result A Refusal) → asked f edition k s ≡ f p (start_of v rs k) r
    unfolding asked
    asked_is f = rw (ed, e, is_r)

    pub name_is_shown : UnitsOf r.name.units (shown (name_view edition k s) s)
    unfolding name_view
    name_is_shown =
        let h = rule_stands p v s rs n bs e k is_r in
        rw asked_is (string_units s (start_of v rs k + 4) (rule_parts p k s (start_of v rs k) r h.0 h.1).named.1)

    pub name_is_told : part_says (name_view edition k s) ≡ (Ok 0, units_at (start_of v rs k) r ∷ 2 * length r.name.units ∷ form_number r.name.form ∷ [])
    unfolding name_view
    name_is_told = rw asked_is

    -- element i of it is a list of words, and t is word w of them
    pub word_is_shown : (i w : ℕ) {id : ℕ} {ws more : List Text} {t : Text} {others : List Element} → drop i r.elements ≡ (id, words ws) ∷ others → drop w ws ≡ t ∷ more → UnitsOf t.units (shown (word_view edition k i w s) s)
    unfolding word_view
    word_is_shown i w {id} {ws} is_list is_word =
        let h = element_stands p v s rs n bs e k is_r i is_list in
        let at = data_at i (element_start p v rs k r i) in
        let row = words_row w s at (row_in kinds id) is_word (placed_parts p i s (element_start p v rs k r i) (id, words ws) h.0 h.1).carries in
        rw (asked_is, is_list, is_word) (word_units s _ (stands_in (λ j. word) s (at + 4) w ws row is_word).1)

    pub word_is_told : (i w : ℕ) {id : ℕ} {ws more : List Text} {t : Text} {others : List Element} → drop i r.elements ≡ (id, words ws) ∷ others → drop w ws ≡ t ∷ more
        → part_says (word_view edition k i w s) ≡ (Ok 0, units_from (start_in (λ j. word) (data_at i (element_start p v rs k r i) + 4) ws w + 4) t ∷ 2 * length t.units ∷ form_number t.form ∷ [])
    unfolding word_view
    word_is_told i w is_list is_word = rw (asked_is, is_list, is_word)

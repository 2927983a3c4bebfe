-- Document 02, W5: the forms of Strings after an edit. "Renaming and adding use the shortest form for the name or word given"; "an inserted rule keeps it". That
-- "given element data keeps its own" is given_written, of given.
use Rattle.std.specs.Prelude.{ℕ, ◌-◌, ◌≤◌, ◌<◌, ◌≡◌, true, List, [], ◌∷◌, ◌++◌, length, take, drop}
use Rattle.std.proofs.Common.{◌∙◌}
use borrow.Author.Tests.{le-leb}
use Rattle.format.specs.Format.{got, pick}
use Rattle.text.specs.Text.{Text, shortest}
use Rattle.kind.specs.declared.Product.{Product}
use Rattle.element.specs.Data.{words}
use Rattle.element.specs.Element.{Element}
use Rattle.rule.specs.declared.Fields.{Fields}
use Rattle.rule.specs.Rule.{Rule}
use Rattle.deck.specs.Deck.{Deck, read_as}
use Rattle.given.specs.Given.{is_text, units, given}
use Rattle.plan.specs.Edit.{become, rename, insert, add_rule, add_word, renamed, new_rule, holding, at_copy, at_second, at_list, edited}
use Rattle.plan.specs.Laws.Makes.{at_rule_lem, at_last_lem, at_given_lem, if_text_lem, not_full}

module _ (p : Product) (rs : List Rule) where
  -- whatever form the name had
  pub renamed_shortest : (k : ℕ) {r : Rule} {later : List Rule} → drop k rs ≡ r ∷ later → (name : List ℕ) → is_text name ≡ true → edited p (rename k name) rs ≡ become (take k rs ++ (renamed (shortest (units name)) r ∷ later))
  unfolding edited
  renamed_shortest k e name t = at_rule_lem rs k _ e ∙ if_text_lem name _ t

  pub added_shortest : (name : List ℕ) (f : Fields) (id : ℕ) (s : List ℕ) {x : Element} {n : ℕ} → is_text name ≡ true → given p id s ≡ got x n → edited p (add_rule name f id s) rs ≡ become (rs ++ (new_rule (shortest (units name)) f x ∷ []))
  unfolding edited
  added_shortest name f id s t e = if_text_lem name _ t ∙ at_given_lem _ e

  -- behind the words of the list that is the last rule's last element, which keep theirs
  pub word_shortest : {r : Rule} {later : List Rule} {id : ℕ} {ws : List Text} {others : List Element} → drop (length rs - 1) rs ≡ r ∷ later → drop (length r.elements - 1) r.elements ≡ (id, words ws) ∷ others → length ws < 64 → (word : List ℕ) → is_text word ≡ true
      → edited p (add_word word) rs ≡ become (take (length rs - 1) rs ++ (holding (take (length r.elements - 1) r.elements ++ ((id, words (ws ++ (shortest (units word) ∷ []))) ∷ [])) r ∷ []))
  unfolding edited at_list
  word_shortest {ws = ws} e d l word t = at_last_lem rs (length rs - 1) _ e ∙ rw d (not_full (length ws) _ l ∙ if_text_lem word _ t)

  -- it is the second deck's own rule
  pub inserted_own : (k : ℕ) (second : List ℕ) (qs : Deck) (n j : ℕ) {q : Rule} {after : List Rule} → read_as p second ≡ got qs n → k ≤ length rs → drop j qs.rules ≡ q ∷ after → edited p (insert k second j) rs ≡ become (take k rs ++ (q ∷ drop k rs))
  unfolding edited at_second at_copy pick
  inserted_own k second qs n j e l d = rw (e, le-leb k (length rs) l, d)

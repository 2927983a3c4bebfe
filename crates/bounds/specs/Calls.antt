-- Which numbers each call may give: document 01, "Numbers a refusal gives".
use Rattle.std.specs.Prelude.{ℕ, List, [], ◌∷◌}
use Rattle.format.specs.declared.Fault.{Fault}
use Rattle.format.specs.Fault.{number_of}
use Rattle.plan.specs.Edit.{Edit, switch, rename, remove, insert, add_rule, add_element, add_word}
use Rattle.bounds.specs.Listed.{Numbers, numbers, exactly}

-- the last place that a reading of an element's data can come to
abbrev pub most : ℕ
most = 33092

-- what each edit judges of its own, fault and place: "16 (k first), 22, 21, 17"
abbrev pub judges : Edit → List (Fault × ℕ)
judges (switch k on) = (Fault.Absent, 0) ∷ []
judges (rename k name) = (Fault.Absent, 0) ∷ (Fault.Text, 0) ∷ []
judges (remove k) = (Fault.Absent, 0) ∷ []
judges (insert k second j) = (Fault.Absent, 0) ∷ (Fault.Absent, 1) ∷ []
judges (add_rule name f id s) = (Fault.Text, 0) ∷ []
judges (add_element id s) = (Fault.Last, 0) ∷ (Fault.Full, 0) ∷ []
judges (add_word word) = (Fault.Last, 0) ∷ (Fault.Full, 0) ∷ (Fault.Text, 0) ∷ []

-- and what every edit does: "1, 15", "18, 19, 20"
abbrev pub owns : Edit → List (Fault × ℕ)
owns e = (Fault.Edition, 0) ∷ (Fault.Stated, 0) ∷ (Fault.Rules, 0) ∷ (Fault.Large, 0) ∷ (Fault.Room, 0) ∷ judges e

-- what an edit is given to read, beside its deck: "a second deck", "an element"
pub data Gift : Type 0 where
  nothing : Gift
  a_deck : List ℕ → Gift
  an_element : ℕ → List ℕ → Gift

abbrev pub given_to : Edit → Gift
given_to (switch k on) = nothing
given_to (rename k name) = nothing
given_to (remove k) = nothing
given_to (insert k second j) = a_deck second
given_to (add_rule name f id s) = an_element id s
given_to (add_element id s) = an_element id s
given_to (add_word word) = nothing

-- what a given element is refused for: "41 and 42 have place 0; the data may give 35, 38, 39, 40, 43, 45"
abbrev pub element_numbers : List Numbers
element_numbers = numbers 35 35 most ∷ numbers 38 40 most ∷ numbers 41 42 0 ∷ numbers 43 43 most ∷ numbers 45 45 most ∷ []

-- what a deck is refused for, before other rows: "1, then 2"; document 02, W10: 29
abbrev pub deck_numbers : List Numbers → List Numbers
deck_numbers rows = numbers 1 13 60000 ∷ numbers 29 29 60000 ∷ rows

-- "The deck check is a read without tables, so without 14"
abbrev pub check_numbers : List Numbers
check_numbers = deck_numbers []

-- "14 last, rule table first"
abbrev pub read_numbers : List Numbers
read_numbers = deck_numbers (numbers 14 14 1 ∷ [])

-- "A view or fixed fields: the read's refusals without 14, then 16", up to a place
abbrev pub view_numbers : ℕ → List Numbers
view_numbers last = deck_numbers (numbers 16 16 last ∷ [])

-- document 02, W10, a conversion: the read's refusals, another version by 5 at 3 among them, "a conversion's 19 and 20 last"
abbrev pub convert_numbers : List Numbers
convert_numbers = deck_numbers (exactly 19 0 ∷ exactly 20 0 ∷ [])

-- "An identifier alone .. 1, 9 or 10 at 0"
abbrev pub kind_numbers : List Numbers
kind_numbers = exactly 1 0 ∷ exactly 9 0 ∷ exactly 10 0 ∷ []

-- "Turning lone element data into a value takes an edition and answers 1 first, then as for a given element"
abbrev pub value_numbers : List Numbers
value_numbers = exactly 1 0 ∷ element_numbers

-- "Turning a value into data .. 1, then 41 or 42, then 40 at 0 .., then 43 at 16 or 32, then 20"
abbrev pub put_numbers : List Numbers
put_numbers = exactly 1 0 ∷ numbers 40 42 0 ∷ exactly 43 16 ∷ exactly 43 32 ∷ exactly 20 0 ∷ []

-- "a lone date answers 11 at 0"
abbrev pub moment_numbers : List Numbers
moment_numbers = exactly 11 0 ∷ []

-- ---- the edits

-- each fault at its place, before other rows
abbrev pub each_exactly : List (Fault × ℕ) → List Numbers → List Numbers
each_exactly [] rows = rows
each_exactly ((c, q) ∷ faults) rows = exactly (number_of c) q ∷ each_exactly faults rows

-- "34 to 45 on a second deck", and on an element; document 02, W10: 61 on a second deck
abbrev pub gift_numbers : Gift → List Numbers
gift_numbers nothing = []
gift_numbers (a_deck s) = numbers 34 45 60000 ∷ numbers 61 61 60000 ∷ []
gift_numbers (an_element id s) = element_numbers

-- "An edit: 1, 15, 2 to 13 on its deck" and 29, its own, "18, 19, 20", and what is wrong with what it is given
abbrev pub later_numbers : Edit → List Numbers
later_numbers e = each_exactly (owns e) (gift_numbers (given_to e))

abbrev pub edit_numbers : Edit → List Numbers
edit_numbers e = deck_numbers (later_numbers e)

-- Document 01's deck of 70 bytes, which Studio takes and Desk does not: of a switch in each edition the deck takes Studio's.
use Rattle.std.specs.Prelude.{◌≡◌, refl, false, [], ◌∷◌}
use Rattle.deck.specs.Written.{deck_of, written}
use Rattle.deck.specs.Laws.Deck.{ComputingDecks}
use Rattle.deck.specs.Laws.Sample.{rule_a}
use Rattle.room.specs.Room.{room_for}
use Rattle.plan.specs.Edit.{switch, switched, at_rule, edited}
use Rattle.runs.specs.Run.{step_rules, run_rules}

pub both_editions : run_rules 70 ((1, switch 0 false) ∷ (2, switch 0 false) ∷ (3, switch 0 false) ∷ []) (deck_of 1 (rule_a ∷ []), 70) ≡ (deck_of 1 (switched false rule_a ∷ []), 70)
unfolding ComputingDecks run_rules step_rules rule_a written edited at_rule room_for
both_editions = refl

-- The tables of document 01's "One deck whole", computed, and the same deck in version 2; and 8001 before the second of two elements.
use Rattle.std.specs.Prelude.{◌≡◌, refl, [], ◌∷◌}
use Rattle.format.specs.Format.{got}
use Rattle.kind.specs.declared.Product.TheVariants.{Studio}
use Rattle.element.specs.Data.{plain}
use Rattle.rule.specs.Laws.Rule.{ComputingRules}
use Rattle.deck.specs.Deck.{deck, read_deck}
use Rattle.deck.specs.Written.{deck_of}
use Rattle.deck.specs.Sample.{sample}
use Rattle.deck.specs.Laws.Deck.{ComputingDecks}
use Rattle.deck.specs.Laws.Sample.{rule_a}
use Rattle.fill.specs.Rows.{rows_of, rule_rows, element_rows, all_element_rows}
use Rattle.demands.specs.Cases.{sample_in}

pub sample_tables : (rule_rows Studio 0 7 (rule_a ∷ []) ≡ 7 ∷ 70 ∷ 12 ∷ 1 ∷ 14 ∷ []) × (all_element_rows Studio 0 7 (rule_a ∷ []) ≡ 0x1F5 ∷ 0 ∷ 62 ∷ 70 ∷ [])
unfolding ComputingRules rows_of rule_a
sample_tables = (refl, refl)

-- document 02, W10: in version 2 the deck has an offset more, and is the same rule, read and written
pub sample_2_reads : read_deck 2 (sample_in 2 0x0B) ≡ got (deck_of 2 (rule_a ∷ [])) 74
unfolding ComputingDecks sample rule_a
sample_2_reads = refl

pub sample_2_writes : (deck Studio).write (deck_of 2 (rule_a ∷ [])) ≡ sample_in 2 0x0B
unfolding ComputingDecks sample rule_a
sample_2_writes = refl

pub sample_2_tables : (rule_rows Studio 0 11 (rule_a ∷ []) ≡ 11 ∷ 74 ∷ 16 ∷ 1 ∷ 18 ∷ []) × (all_element_rows Studio 0 11 (rule_a ∷ []) ≡ 0x1F5 ∷ 0 ∷ 66 ∷ 74 ∷ [])
unfolding ComputingRules rows_of rule_a
sample_2_tables = (refl, refl)

pub two_elements : element_rows Studio 3 100 ((0x1F5, plain) ∷ (0x1F5, plain) ∷ []) ≡ 0x1F5 ∷ 3 ∷ 104 ∷ 112 ∷ 0x1F5 ∷ 3 ∷ 118 ∷ 126 ∷ []
unfolding ComputingRules rows_of
two_elements = refl

-- The 70 bytes of ../Sample.antt are read as their rule, and it is written as them.
use Rattle.std.specs.Prelude.{◌≡◌, refl, true, [], ◌∷◌}
use Rattle.format.specs.Format.{got}
use Rattle.text.specs.declared.Form.TheVariants.{Short}
use Rattle.kind.specs.declared.Product.TheVariants.{Studio}
use Rattle.element.specs.Data.{plain}
use Rattle.rule.specs.Rule.{Rule}
use Rattle.deck.specs.Deck.{deck, read_deck}
use Rattle.deck.specs.Written.{deck_of}
use Rattle.deck.specs.Sample.{sample}
use Rattle.deck.specs.Laws.Deck.{ComputingDecks}

unfoldable pub rule_a : Rule
rule_a = record { signature = 0; name = record { form = Short; units = 0x41 ∷ [] }; on = true; unknown2 = 0; unknown3 = 0; unknown4 = 0; unknown5 = 0; elements = (0x1F5, plain) ∷ [] }

-- the 70 bytes are that rule alone, read and written
pub sample_reads : read_deck 2 sample ≡ got (deck_of 1 (rule_a ∷ [])) 70
unfolding ComputingDecks sample rule_a
sample_reads = refl

pub sample_writes : (deck Studio).write (deck_of 1 (rule_a ∷ [])) ≡ sample
unfolding ComputingDecks sample rule_a
sample_writes = refl

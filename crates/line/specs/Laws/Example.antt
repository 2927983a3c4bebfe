-- Document 01's listing, "One deck whole", line by line.
use Rattle.std.specs.Prelude.{◌≡◌, refl, true, [], ◌∷◌}
use Rattle.format.specs.Format.{pick}
use Rattle.digits.specs.Digits.{decimal_digits, decimal, hex_digit, hex_digits}
use Rattle.line.specs.Line.{state, deck_line, rule_line, element_line, end_line, refused_line}

-- `DECK 1 70`
pub deck_whole : deck_line 1 70 ≡ 0x44 ∷ 0x45 ∷ 0x43 ∷ 0x4B ∷ 0x20 ∷ 0x31 ∷ 0x20 ∷ 0x37 ∷ 0x30 ∷ 0x0A ∷ []
unfolding deck_line decimal decimal_digits pick
deck_whole = refl

-- document 02, W10: the same deck in version 2, `DECK 2 74`
pub deck_2_whole : deck_line 2 74 ≡ 0x44 ∷ 0x45 ∷ 0x43 ∷ 0x4B ∷ 0x20 ∷ 0x32 ∷ 0x20 ∷ 0x37 ∷ 0x34 ∷ 0x0A ∷ []
unfolding deck_line decimal decimal_digits pick
deck_2_whole = refl

-- `RULE 0 ON 1 1`
pub rule_whole : rule_line 0 true 1 1 ≡ 0x52 ∷ 0x55 ∷ 0x4C ∷ 0x45 ∷ 0x20 ∷ 0x30 ∷ 0x20 ∷ 0x4F ∷ 0x4E ∷ 0x20 ∷ 0x31 ∷ 0x20 ∷ 0x31 ∷ 0x0A ∷ []
unfolding rule_line decimal decimal_digits state pick
rule_whole = refl

-- `ELEM 0 000001F5 8`
pub element_whole : element_line 0 0x1F5 8 ≡
    0x45 ∷ 0x4C ∷ 0x45 ∷ 0x4D ∷ 0x20 ∷ 0x30 ∷ 0x20 ∷ 0x30 ∷ 0x30 ∷ 0x30 ∷ 0x30 ∷ 0x30 ∷ 0x31 ∷ 0x46 ∷ 0x35 ∷ 0x20 ∷ 0x38 ∷ 0x0A ∷ []
unfolding element_line decimal decimal_digits hex_digits hex_digit pick
element_whole = refl

-- `END 1 1`
pub end_whole : end_line 1 1 ≡ 0x45 ∷ 0x4E ∷ 0x44 ∷ 0x20 ∷ 0x31 ∷ 0x20 ∷ 0x31 ∷ 0x0A ∷ []
unfolding end_line decimal decimal_digits pick
end_whole = refl

-- `REFUSED 14 1`
pub refused_whole : refused_line 14 1 ≡ 0x52 ∷ 0x45 ∷ 0x46 ∷ 0x55 ∷ 0x53 ∷ 0x45 ∷ 0x44 ∷ 0x20 ∷ 0x31 ∷ 0x34 ∷ 0x20 ∷ 0x31 ∷ 0x0A ∷ []
unfolding refused_line decimal decimal_digits pick
refused_whole = refl

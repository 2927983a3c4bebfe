-- Strings and words: document 01, "The deck"; document 02, W5; source document 001, sections 2.2.2 and 2.2.3.
use Rattle.std.specs.Prelude.{ℕ, ◌+◌, refl, List, eqb, length}
use Rattle.std.proofs.Common.{ap}
use Rattle.format.specs.declared.Fault.TheVariants as Fault
use Rattle.format.specs.Format.{Format, pick}
use Rattle.format.specs.Combinators.{pair, via, at_start, ◌then◌, number, fixed, each}
use Rattle.text.specs.declared.Form.{Form}
use Rattle.text.specs.declared.Form.TheVariants.{Short, Long}
use Rattle.text.specs.Length.{Length, length_behind, length_byte}
use Rattle.text.specs.Laws.Length.{length_byte_lem}

-- what a String says: "which form it had", and its units
pub record Text : Type 0 where
  pub form : Form
  pub units : List ℕ

abbrev pub length_of : Text → Length
length_of t = (t.form, length t.units)

-- "a length byte", and what it says that follows
unfoldable pub string_length : Format Length
unfolding pair length_behind
string_length = via (pair (number 1) length_behind) (λ p. p.1) (λ l. (length_byte l, l)) (λ p f. ap (λ (b : ℕ). (b, p.1)) (length_byte_lem p.0 p.1 (eqb p.0 255) refl f.1))

-- "and that many 16-bit units"; a fault anywhere in it "answers its start". A unit's format says its width and which values it may have
unfoldable pub string_of : Format ℕ → Format Text
unfolding pair each
string_of unit =
    at_start (via (pair string_length (λ l. each (λ i. unit) 0 l.1)) (λ p. record { form = p.0.0; units = p.1 }) (λ t. (length_of t, t.units)) (λ p f. ap (λ (n : ℕ). ((p.0.0, n), p.1)) f.1.0))

-- "4 zero bytes and a String"
unfoldable pub word_of : Format ℕ → Format Text
word_of unit = fixed 4 0 Fault.Field then string_of unit

-- "16-bit units", which "are any 16-bit values"
abbrev pub unit : Format ℕ
unit = number 2

abbrev pub string : Format Text
string = string_of unit

abbrev pub word : Format Text
word = word_of unit

-- "the shortest form": "254 units or fewer use the short form and 255 the long one"
unfoldable pub form_of : ℕ → Form
form_of n = pick (eqb n 255) Long Short

abbrev pub shortest : List ℕ → Text
shortest us = record { form = form_of (length us); units = us }

-- the units of a String that starts at a place: behind its length
abbrev pub units_from : ℕ → Text → ℕ
units_from at t = at + length (string_length.write (length_of t))

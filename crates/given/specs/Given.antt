-- What an edit is given: a text and an element. Document 01, "Numbers a refusal gives".
use Rattle.std.specs.Prelude.{ℕ, ◌+◌, ◌*◌, ◌%◌, Bool, ◌&&◌, List, [], ◌∷◌, leb, eqb, length, Ok, Err}
use Rattle.format.specs.Format.{Answer, refused, mapped, whole}
use Rattle.text.specs.Text.{Text, shortest}
use Rattle.kind.specs.declared.Product.{Product}
use Rattle.kind.specs.Answers.{Row}
use Rattle.format.specs.declared.Refusal.TheVariants.{At, Given}
use Rattle.kind.specs.Kinds.{row_of}
use Rattle.element.specs.Data.{Data, data_of}
use Rattle.element.specs.Element.{Element}

-- a name or a word as its bytes: not of "an odd byte count or over 510 bytes"
unfoldable pub is_text : List ℕ → Bool
is_text s = eqb (length s % 2) 0 && leb (length s) 510

-- its 16-bit units
unfoldable pub units : List ℕ → List ℕ
units [] = []
units (x ∷ []) = []
units (x ∷ (y ∷ s)) = (x + 256 * y) ∷ units s

-- "Renaming and adding use the shortest form for the name or word given"
abbrev pub text_of : List ℕ → Text
text_of s = shortest (units s)

-- "A given element is an identifier, as a number, and its data as bytes; places in the data count from its first byte. 41 and 42 have place 0"
abbrev pub with_data : ℕ → Data → Element
with_data id d = (id, d)

abbrev pub given_by : Row → ℕ → List ℕ → Answer Element
given_by (Ok k) id s = mapped (with_data id) (whole (length s) ((data_of k).read s))
given_by (Err (At c q)) id s = refused c q
given_by (Err (Given c q)) id s = refused c q

unfoldable pub given : Product → ℕ → List ℕ → Answer Element
given p id s = given_by (row_of p id) id s

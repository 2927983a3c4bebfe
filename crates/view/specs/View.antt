-- Views: document 01, "Tables and views".
use Rattle.std.specs.Prelude.{ℕ, ◌+◌, ◌*◌, ◌≡◌, List, [], ◌∷◌, length, take, drop, Ok, Err}
use Rattle.format.specs.Answers.{Outcome}
use Rattle.view.specs.Answers.{View}
use Rattle.format.specs.Fault.{Said}
use Rattle.text.specs.declared.Form.{Form}
use Rattle.text.specs.declared.Form.TheVariants.{Short, Long}
use Rattle.text.specs.Text.{Text, units_from}

-- the view of a String that starts at a place: "exactly the bytes of its units"
abbrev pub text_view : ℕ → Text → View
text_view at t = Ok (units_from at t, 2 * length t.units, t.form)

-- "a refused view is the empty part at the start"
abbrev pub shown : View → List ℕ → List ℕ
shown (Ok (a, n, form)) s = take n (drop a s)
shown (Err why) s = []

abbrev pub shown_from : View → ℕ
shown_from (Ok (a, n, form)) = a
shown_from (Err why) = 0

-- "parts of the caller's bytes": of the bytes xs, which lie at a place of memory, those that a view shows, and where they lie
abbrev pub PartOf : View → List ℕ → ℕ × ℕ → List ℕ → ℕ × ℕ → Type 0
PartOf v xs at ys from = (ys ≡ shown v xs) × (from ≡ (at.0, shown_from v + at.1))

-- "for a view its first byte"
abbrev pub view_says : View → Outcome
view_says (Ok (a, n, form)) = Ok a
view_says (Err why) = Err why

-- the form of a String as a number: "0 short, 1 long"
abbrev pub form_number : Form → ℕ
form_number Short = 0
form_number Long = 1

-- a view by its numbers: its first byte, how many bytes it is, and the form of the String
abbrev pub part_says : View → Said
part_says (Ok (a, n, form)) = (Ok 0, a ∷ n ∷ form_number form ∷ [])
part_says (Err why) = (Err why, [])

-- The view of a name: document 01, "Tables and views".
use Rattle.std.specs.Prelude.{ℕ, ◌+◌, List}
use Rattle.rule.specs.Rule.{Rule}
use Rattle.asked.specs.Asked.{asked}
use Rattle.view.specs.Answers.{View}
use Rattle.view.specs.View.{text_view}

-- the name of a rule that starts at a place: behind its signature
abbrev pub name_at : ℕ → Rule → View
name_at at r = text_view (at + 4) r.name

unfoldable pub name_view : ℕ → ℕ → List ℕ → View
name_view edition k s = asked (λ p. name_at) edition k s

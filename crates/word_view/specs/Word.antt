-- The view of a word: document 01, "Tables and views".
use Rattle.std.specs.Prelude.{ℕ, List, Err}
use Rattle.format.specs.declared.Fault.TheVariants as Fault
use Rattle.kind.specs.declared.Product.{Product}
use Rattle.rule.specs.Rule.{Rule}
use Rattle.walk.specs.Elements.{of_element}
use Rattle.asked.specs.Asked.{asked}
use Rattle.view.specs.Answers.{View}
use Rattle.format.specs.declared.Refusal.TheVariants.{At}
use Rattle.data_word.specs.Word.{data_word}

-- word w of element e of rule k, which starts at a place
abbrev pub rule_word : ℕ → ℕ → ℕ → Product → ℕ → Rule → View
rule_word k e w p at r = of_element (Err (At Fault.Absent 1)) (data_word w) p k e at r

unfoldable pub word_view : ℕ → ℕ → ℕ → ℕ → List ℕ → View
word_view edition k e w s = asked (rule_word k e w) edition k s

-- Laws of ../Word.antt: how the code finds a word of a rule.
use Rattle.std.specs.Prelude.{ℕ, ◌≤◌, ◌<◌, ◌≡◌, Ok, Err}
use Rattle.std.proofs.Common.{arith, sym}
use Rattle.std.proofs.Math.Path.{ap}
use mathlib.Core.List.{List, []}
use Rattle.std.proofs.Math.ListN.{drop, drop_of_length-le}
use Rattle.format.specs.declared.Fault.{Fault}
use Rattle.format.specs.Laws.Answers.{Read}
use Rattle.view.specs.Answers.{View}
use Rattle.format.specs.declared.Refusal.{Refusal}
use Rattle.format.specs.declared.Refusal.TheVariants.{At}
use Rattle.format.specs.Laws.Back.{Where}
use Rattle.format.specs.Row.{start_in}
use Rattle.format.specs.Laws.Skip.{Skipped}
use Rattle.kind.specs.declared.Product.{Product}
use Rattle.element.specs.Element.{Element}
use Rattle.rule.specs.Rule.{rule, placed}
use Rattle.rule.specs.Places.{elements_at}
use Rattle.walk.specs.Laws.Elements.{Elements, Carries, elements_none, elements_are, element_never, of_element_lem}
use Rattle.walk.specs.Elements.{of_first}
use Rattle.data_word.specs.Word.{data_word}
use Rattle.word_view.specs.Word.{rule_word}

-- word w of the first of the elements that stand from a place on, those of its rule from e on; "no such .. element": 16 at 1
abbrev pub element_word : ℕ → ℕ → ℕ → List Element → View
element_word e w at xs = of_first (Err (At Fault.Absent 1)) (data_word w) e at xs

module _ (p : Product) (s : List ℕ) (at k e w : ℕ) {c : Read} (i : Elements s at k c) where
  pub rule_cut : (v : View) {why : Refusal} → c ≡ Err why → Where (rule p k) s at (rule_word k e w p at) v
  unfolding Where
  rule_cut v h x b = elements_none p s at k x b i h

  module _ {n q : ℕ} (h : c ≡ Ok (q, n)) where
    pub rule_short : n ≤ e → Where (rule p k) s at (rule_word k e w p at) (Err (At Fault.Absent 1))
    unfolding Where
    rule_short l x b =
        let d : drop e x.elements ≡ [] = drop_of_length-le x.elements {i = e} (omega (arith, (elements_are p s at k x b i h).0)) in
        ap (element_word e w (start_in (placed p) (elements_at p k at x) x.elements e)) (sym d)

    -- z is what was told of the element's start
    pub rule_never : (v : View) {z : Read} {why : Refusal} → e < n → Skipped (placed p) s q e e z → z ≡ Err why → Where (rule p k) s at (rule_word k e w p at) v
    unfolding Where
    rule_never v l g j x b = element_never p s at k x b i h e _ l g j

    pub rule_is : (v : View) {z : Read} {u o : ℕ} → e < n → Skipped (placed p) s q e e z → z ≡ Ok (o, u) → Carries p s o e (data_word w) v → Where (rule p k) s at (rule_word k e w p at) v
    unfolding Where
    rule_is v l g j m x b = of_element_lem p s at k x b i h e _ l g (Err (At Fault.Absent 1)) (data_word w) v j m

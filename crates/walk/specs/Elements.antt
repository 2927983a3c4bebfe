-- What is told of an element of a rule that starts at a place: document 01, "Tables and views".
use Rattle.std.specs.Prelude.{ℕ, List, [], ◌∷◌, drop}
use Rattle.format.specs.Row.{start_in}
use Rattle.kind.specs.declared.Product.{Product}
use Rattle.element.specs.Data.{Data}
use Rattle.element.specs.Element.{Element}
use Rattle.rule.specs.Rule.{Rule, placed}
use Rattle.rule.specs.Places.{elements_at, data_at}

-- of the first of the elements that stand from a place on, those of their rule from e on: f of where its data start and of them
module _ {W : Type 0} (absent : W) (f : ℕ → Data → W) where
  abbrev pub of_first : ℕ → ℕ → List Element → W
  of_first e at [] = absent
  of_first e at (x ∷ xs) = f (data_at e at) x.1

  -- of element e of rule k, which starts at a place
  abbrev pub of_element : Product → ℕ → ℕ → ℕ → Rule → W
  of_element p k e at r = of_first e (start_in (placed p) (elements_at p k at r) r.elements e) (drop e r.elements)

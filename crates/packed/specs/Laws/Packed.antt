-- Where no place is above 60,000, an outcome packed into 64 bits is whole.
use Rattle.std.specs.Prelude.{ℕ, ◌%◌, ◌^◌, ◌≤◌, ◌≡◌}
use Rattle.std.proofs.Common.{arith, ap, ◌∙◌}
use Rattle.format.specs.Answers.{Outcome}
use Rattle.format.specs.Fault.{place_of, packed}
use Rattle.format.specs.Laws.Fault.{code_small}

pub packed_whole : {o w : Outcome} {r : ℕ} → r ≡ packed o % 2 ^ 64 → o ≡ w → place_of w ≤ 60000 → r ≡ packed w
packed_whole {w = w} e f h = e ∙ ap (λ (x : Outcome). packed x % 2 ^ 64) f ∙ omega (arith, code_small w)

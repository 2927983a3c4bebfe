use Prim.Native.Nat.{ℕ}
use native.Mathlib.Omega.{arith}
use mathlib.Core.Path.{ap, ◌∙◌}
use Rattle.format.specs.declared.Fault.TheVariants.{Cut}
use Rattle.std.specs.Prelude.{Err}
use Rattle.format.specs.declared.Refusal.TheVariants.{At}
use Rattle.format.specs.Laws.Seen.{got_at}
use Rattle.format.specs.Laws.Fours.{fours_there, fours_cut}
use Rattle.wire.proofs.numbers_at.Goals as goal

pub returns-then-n-eq0 : goal.returns-then-n-eq0
returns-then-n-eq0 c = got_at (omega arith) ∙ fours_there _ _ _ (omega arith)

pub returns-then-s-at : goal.returns-then-s-at
returns-then-s-at c = ap (λ (p : ℕ). Err (At Cut p)) (omega arith) ∙ fours_cut _ _ _ (omega arith)

pub returns-then-s-end : goal.returns-then-s-end
returns-then-s-end c = fours_cut _ _ _ (omega arith)

pub returns : goal.returns
returns c = fours_there _ _ _ (omega arith)

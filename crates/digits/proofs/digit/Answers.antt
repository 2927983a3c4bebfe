use native.Mathlib.Omega.{arith}
use Rattle.digits.specs.Laws.Digits.{hex_low, hex_high}
use Rattle.digits.proofs.digit.Goals as goal

pub returns-then-d-lt10 : goal.returns-then-d-lt10
returns-then-d-lt10 c = hex_low _ (omega arith)

pub returns-else-d-lt10 : goal.returns-else-d-lt10
returns-else-d-lt10 c = omega (arith, hex_high c.args.n (omega arith))

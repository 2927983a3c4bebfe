use borrow.Author.Rules.{rules}
use mathlib.Core.Path.{refl}
use Rattle.format.specs.Laws.Format.{bytes_all}
use Rattle.locate.specs.Laws.Located.{last_of}
use Rattle.locate.specs.Laws.Spots.{located_no, located_is}
use native.Mathlib.Omega.{arith}
use Rattle.locate.proofs.last.Goals as goal

pub returns-in_err-version : goal.returns-in_err-version
returns-in_err-version c = search (rules, located_no last_of c.args.edition c.args.s.now c.pass.ensures.0 c.in_err-version.was)

pub returns-then-rules-eq0 : goal.returns-then-rules-eq0
returns-then-rules-eq0 c = located_is _ _ _ _ (bytes_all c.args.s.now c.shared_slice_known-1.given) c.pass.ensures.0 c.in_ok-version.was c.spot_of.ensures (omega arith) (λ rs e. omega arith)

pub returns : goal.returns
returns c = located_is _ _ _ _ (bytes_all c.args.s.now c.shared_slice_known-1.given) c.pass.ensures.0 c.in_ok-version.was c.spot_of-2.ensures refl (λ rs e. omega arith)

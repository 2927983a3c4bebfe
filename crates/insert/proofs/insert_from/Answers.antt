use borrow.Author.Rules.{rules}
use Rattle.std.proofs.Common.{arith}
use Rattle.std.proofs.lemmas.Grind.{common_steps}
use Rattle.insert.specs.Laws.Insert.{makes_given, makes_copies, copyable}
use Rattle.format.specs.Laws.Fault.{given_ok}
use Rattle.format.specs.Laws.Format.{bytes_all}
use Rattle.insert.proofs.insert_from.Goals as goal

pub returns-in_err-g : goal.returns-in_err-g
returns-in_err-g c = makes_given _ _ _ _ _ _ {why = c.in_err-g.field-0.0} c.locate.ensures c.in_given.ensures (grind (arith, common_steps)) (search rules)

pub insert_copy-requires : goal.insert_copy-requires
insert_copy-requires c = (c.requires.0, c.requires.1, copyable _ _ _ (bytes_all c.args.second.now c.shared_slice_known-1.given) c.locate.ensures (given_ok _ c.in_given.ensures (grind (arith, common_steps))))

pub returns : goal.returns
returns c = makes_copies _ _ _ _ _ _ _ _ (bytes_all c.args.second.now c.shared_slice_known-1.given) c.locate.ensures (given_ok _ c.in_given.ensures (grind (arith, common_steps))) c.insert_copy.ensures

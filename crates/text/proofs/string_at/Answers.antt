use native.Mathlib.Omega.{arith}
use Rattle.format.specs.Laws.Format.{bytes_all}
use Rattle.text.specs.Laws.Seen.{string_stop, string_is, string_cut, length_few, length_ends}
use borrow.Author.Rules.{rules}
use Rattle.text.proofs.string_at.Goals as goal

pub returns-in_default : goal.returns-in_default
returns-in_default c = search (rules, string_stop)

pub overflow_mul-end : goal.overflow_mul-end
overflow_mul-end c = let k = length_few _ _ c.length_at-l.ensures (bytes_all c.args.s.now c.shared_slice_known-1.given) c.in-Ok.is in omega (arith, k)

pub overflow_add-end : goal.overflow_add-end
overflow_add-end c = let k = length_few _ _ c.length_at-l.ensures (bytes_all c.args.s.now c.shared_slice_known-1.given) c.in-Ok.is in let e = length_ends _ _ c.length_at-l.ensures c.in-Ok.is in search (rules, k, e)

pub returns-then-s-end : goal.returns-then-s-end
returns-then-s-end c = search (rules, string_cut)

pub returns : goal.returns
returns c = search (rules, string_is)

use Prim.Native.Nat.{◌+◌}
use Rattle.insert.specs.Laws.Insert.{copies_place, copies_rule, copies_unnamed, named_in, copies_is, copy_sizes}
use native.Mathlib.Omega.{arith}
use mathlib.Core.Path.{refl}
use Rattle.insert.proofs.insert_copy.Goals as goal

pub returns-then-f-k : goal.returns-then-f-k
returns-then-f-k c = copies_place _ _ _ _ _ _ c.if-f-k.true

pub returns-then-g-j : goal.returns-then-g-j
returns-then-g-j c = copies_rule _ _ _ _ _ _ (omega arith) c.if-g-j.true

pub returns-in_err-name : goal.returns-in_err-name
returns-in_err-name c = copies_unnamed _ _ _ _ _ _ _ _ (omega (arith, c.if-g-j.false)) c.name_end.ensures c.in_given.ensures c.in_err-name.was

pub overflow_add-head : goal.overflow_add-head
overflow_add-head c = omega (arith, (named_in _ _ c.name_end.ensures c.in_given.ensures c.in_ok-name.was), c.requires.2.inside (omega arith), c.requires.2.end, c.requires.2.short)

pub overflow_add-first : goal.overflow_add-first
overflow_add-first c = omega (arith, (named_in _ _ c.name_end.ensures c.in_given.ensures c.in_ok-name.was), c.requires.2.inside (omega arith), c.requires.2.end, c.requires.2.short, c.head_size.ensures.0)

pub slice_bounds-front-count : goal.slice_bounds-front-count
slice_bounds-front-count c = omega (arith, (named_in _ _ c.name_end.ensures c.in_given.ensures c.in_ok-name.was), c.requires.2.front (omega arith))

pub slice_bounds-front-start : goal.slice_bounds-front-start
slice_bounds-front-start c = omega (arith, (named_in _ _ c.name_end.ensures c.in_given.ensures c.in_ok-name.was), c.requires.2.front (omega arith))

pub slice_bounds-front-end : goal.slice_bounds-front-end
slice_bounds-front-end c = omega (arith, (named_in _ _ c.name_end.ensures c.in_given.ensures c.in_ok-name.was), c.requires.2.inside (omega arith), c.requires.2.end)

pub slice_bounds-els-count : goal.slice_bounds-els-count
slice_bounds-els-count c = omega (arith, (named_in _ _ c.name_end.ensures c.in_given.ensures c.in_ok-name.was), c.requires.2.inside (omega arith), c.head_size.ensures.0)

pub slice_bounds-els-start : goal.slice_bounds-els-start
slice_bounds-els-start c = omega (arith, (named_in _ _ c.name_end.ensures c.in_given.ensures c.in_ok-name.was), c.requires.2.inside (omega arith), c.head_size.ensures.0)

pub copy_rule-requires : goal.copy_rule-requires
copy_rule-requires c = copy_sizes _ _ _ _ _ _ _ _ _ _ refl refl c.requires.0 c.requires.1 (omega arith) c.requires.2 (omega arith) (omega (arith, (named_in _ _ c.name_end.ensures c.in_given.ensures c.in_ok-name.was))) (omega (arith, c.head_size.ensures.0))

pub returns : goal.returns
returns c = let t = c.in_ok-name.name + 26 in copies_is _ _ _ _ _ _ t (t + c.head_size.result) _ _ _ _ c.copy_rule.ensures refl refl (omega arith) (omega arith) (omega (arith, (named_in _ _ c.name_end.ensures c.in_given.ensures c.in_ok-name.was))) (omega (arith, c.head_size.ensures.0))

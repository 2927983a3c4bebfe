use Rattle.word.specs.Laws.Word.{word_none, word_no_list, word_full, word_text, word_done}
use Rattle.steps.specs.Laws.Steps.{name_within, name_got}
use Rattle.format.specs.Laws.Format.{bytes_all}
use mathlib.Core.Path.{sym, ◌∙◌}
use native.Mathlib.Omega.{arith}
use Rattle.plan.specs.Laws.Last.{last_unnamed}
use borrow.Author.Rules.{rules}
use Rattle.word.proofs.word_in.Goals as goal

pub returns-then-f-eq0 : goal.returns-then-f-eq0
returns-then-f-eq0 c = word_none _ _ _ _ c.if-f-eq0.true

pub returns-in_err-e : goal.returns-in_err-e
returns-in_err-e c = last_unnamed _ _ _ _ _ _ c.if-f-eq0.false c.name_end.ensures c.in_err-e.was

pub returns-in_err-t : goal.returns-in_err-t
returns-in_err-t c = word_no_list _ _ _ _ c.if-f-eq0.false (name_got _ _ c.name_end.ensures c.in_ok-e.was) c.list_at.ensures.0 c.in_err-t.was (search rules)

pub returns-then-count-ge64 : goal.returns-then-count-ge64
returns-then-count-ge64 c = word_full _ _ _ _ c.if-f-eq0.false (name_got _ _ c.name_end.ensures c.in_ok-e.was) c.list_at.ensures.0 c.in_ok-t.was c.if-count-ge64.true

pub returns-then-not-text : goal.returns-then-not-text
returns-then-not-text c = word_text _ _ _ _ c.if-f-eq0.false (name_got _ _ c.name_end.ensures c.in_ok-e.was) c.list_at.ensures.0 c.in_ok-t.was (omega arith) (sym c.is_text-text.ensures ∙ c.if-not-text.true)

pub lengthen-requires : goal.lengthen-requires
lengthen-requires c = let w = name_within c.args.buf.now c.args.f.start (omega (arith, c.requires.order, c.requires.inside, c.requires.room)) in (omega (arith, w, name_got _ _ c.name_end.ensures c.in_ok-e.was), c.requires.short, search rules, sym c.is_text-text.ensures ∙ c.if-not-text.false)

pub returns : goal.returns
returns c = word_done _ _ _ _ c.if-f-eq0.false (name_got _ _ c.name_end.ensures c.in_ok-e.was) c.list_at.ensures.0 c.in_ok-t.was _ _ (omega arith) (bytes_all c.args.word.now c.shared_slice_known-1.given) (sym c.is_text-text.ensures ∙ c.if-not-text.false) c.lengthen.ensures

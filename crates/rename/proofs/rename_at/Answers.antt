use borrow.Author.Rules.{rules}
use mathlib.Core.Path.{refl, sym, ◌∙◌}
use Rattle.format.specs.Laws.Format.{bytes_all}
use Rattle.rename.specs.Laws.Rename.{rename_out, rename_done}
use Rattle.rename.proofs.rename_at.Goals as goal

pub returns-in_err-size : goal.returns-in_err-size
returns-in_err-size c = λ edition k l ee. rename_out edition k _ _ _ l (bytes_all c.args.name.now c.shared_slice_known-1.given) (sym c.is_text.ensures ∙ c.if-not-is_text.false) ee c.text_size-len.ensures refl c.room_for.ensures c.in_err-size.was (search rules)

pub returns : goal.returns
returns c = λ edition k l ee. rename_done edition k _ _ _ _ _ l (bytes_all c.args.name.now c.shared_slice_known-1.given) (sym c.is_text.ensures ∙ c.if-not-is_text.false) ee c.text_size-len.ensures refl c.in_ok-size.ensures refl c.open.ensures c.put_text.ensures c.refresh.ensures

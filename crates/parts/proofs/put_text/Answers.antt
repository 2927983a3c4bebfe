use Rattle.parts.specs.Laws.Text.{text_long, text_short}
use borrow.Author.Rules.{rules}
use Rattle.parts.proofs.put_text.Goals as goal

pub returns-then-n-eq255 : goal.returns-then-n-eq255
returns-then-n-eq255 c = search (rules, text_long, text_short)

pub returns : goal.returns
returns c = search (rules, text_long, text_short)

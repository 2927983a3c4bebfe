use Rattle.parts.specs.Laws.Text.{size_none, size_long, size_short}
use borrow.Author.Rules.{rules}
use Rattle.parts.proofs.text_size.Goals as goal

pub returns-then-s-gt510 : goal.returns-then-s-gt510
returns-then-s-gt510 c = search (rules, size_none, size_long, size_short)

pub returns-then-s-eq255 : goal.returns-then-s-eq255
returns-then-s-eq255 c = search (rules, size_none, size_long, size_short)

pub returns : goal.returns
returns c = search (rules, size_none, size_long, size_short)

use borrow.Author.Rules.{rules}
use Rattle.given.specs.Laws.Given.{text_odd, text_even}
use Rattle.given.proofs.is_text.Goals as goal

pub returns-then-s-eq0 : goal.returns-then-s-eq0
returns-then-s-eq0 c = search (rules, text_odd, text_even)

pub returns-else-s-eq0 : goal.returns-else-s-eq0
returns-else-s-eq0 c = text_odd _ c.if-s-eq0.false

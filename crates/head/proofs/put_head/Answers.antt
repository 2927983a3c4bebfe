use Rattle.head.specs.Laws.Head.{put_first, put_other}
use borrow.Author.Rules.{rules}
use Rattle.head.proofs.put_head.Goals as goal

pub returns-then-i-eq0 : goal.returns-then-i-eq0
returns-then-i-eq0 c = search (rules, put_first, put_other)

pub returns : goal.returns
returns c = search (rules, put_first, put_other)

use Rattle.word.specs.Laws.Word.{lengthen_short}
use Rattle.word.proofs.lengthen.Goals as goal

pub returns-then-new-e : goal.returns-then-new-e
returns-then-new-e c = lengthen_short _ _ _ _ _ _ _ _ _ _ c.if-new-e.true

use Rattle.plan.specs.Laws.Finish.{finish_two, finish_is}
use Rattle.plan.proofs.finish.Goals as goal

pub returns-then-f-eq2 : goal.returns-then-f-eq2
returns-then-f-eq2 c = finish_two _ _ _ _ _ _ c.if-f-eq2.true c.reindex.ensures

pub returns : goal.returns
returns c = finish_is _ _ _ _ c.if-f-eq2.false c.put_number.ensures

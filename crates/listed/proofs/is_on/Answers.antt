use Rattle.listed.specs.Laws.Listed.{on_is, on_none}
use Rattle.listed.proofs.is_on.Goals as goal

pub returns-in-Ok : goal.returns-in-Ok
returns-in-Ok c = on_is _ _ c.u32_at-r.ensures c.in-Ok.is

pub returns-in-Err : goal.returns-in-Err
returns-in-Err c = on_none _ _ c.u32_at-r.ensures c.in-Err.is

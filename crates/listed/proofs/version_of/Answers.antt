use Rattle.listed.specs.Laws.Listed.{version_is, version_none}
use Rattle.listed.proofs.version_of.Goals as goal

pub returns-in-Ok : goal.returns-in-Ok
returns-in-Ok c = version_is _ _ c.u16_at-r.ensures c.in-Ok.is

pub returns-in-Err : goal.returns-in-Err
returns-in-Err c = version_none _ _ c.u16_at-r.ensures c.in-Err.is

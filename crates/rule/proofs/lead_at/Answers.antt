use Rattle.rule.specs.Laws.Rule.{lead_first, lead_later}
use Rattle.rule.proofs.lead_at.Goals as goal

pub returns-then-j-eq0 : goal.returns-then-j-eq0
returns-then-j-eq0 c = lead_first _ _ _ c.if-j-eq0.true

pub returns : goal.returns
returns c = lead_later _ _ _ c.if-j-eq0.false c.separator_at.ensures

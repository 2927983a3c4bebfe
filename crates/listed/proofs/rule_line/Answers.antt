use Rattle.listed.specs.Laws.Listed.{rule_listed_lem}
use Rattle.listed.proofs.rule_line.Goals as goal

pub returns : goal.returns
returns c = rule_listed_lem _ _ _ c.entry-units.ensures c.entry-elements.ensures c.entry-enabled.ensures c.is_on-on.ensures c.units_between-n.ensures c.rule.ensures

use Rattle.format.specs.Combinators.{seq}
use Rattle.rule.specs.Rule.{rule, fields}
use Rattle.format.specs.Laws.Seen.{reading, pair_on}
use Rattle.whole_rule.proofs.read_rule.Goals as goal

pub returns-in_default : goal.returns-in_default
unfolding rule fields seq
returns-in_default c = search (reading, pair_on)

pub returns-in_default-name : goal.returns-in_default-name
unfolding rule fields seq
returns-in_default-name c = search (reading, pair_on)

pub returns-in_default-on : goal.returns-in_default-on
unfolding rule fields seq
returns-in_default-on c = search (reading, pair_on) depth 6

pub returns : goal.returns
unfolding rule fields seq
returns c = search (reading, pair_on) depth 6

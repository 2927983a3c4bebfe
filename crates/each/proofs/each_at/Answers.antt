use Rattle.std.proofs.Common.{rules}
use Rattle.each.specs.Laws.Chain.{chain_start, chain_go, chain_stop, chain_done}
use Rattle.each.proofs.each_at.Goals as goal

pub loop-i-init : goal.loop-i-init
loop-i-init g c = chain_start _ _ _

pub returns-in_default : goal.returns-in_default
returns-in_default g c = search (rules, chain_stop)

pub loop-i-preserved : goal.loop-i-preserved
loop-i-preserved g c = search (rules, chain_go)

pub returns : goal.returns
returns g c = search (rules, chain_done)

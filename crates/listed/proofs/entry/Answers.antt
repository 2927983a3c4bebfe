use native.Mathlib.Omega.{arith}
use Rattle.listed.specs.Laws.Listed.{entry_none}
use Rattle.listed.proofs.entry.Goals as goal

pub returns-then-row-j : goal.returns-then-row-j
returns-then-row-j c = entry_none c.args.row.now c.args.j (omega arith)

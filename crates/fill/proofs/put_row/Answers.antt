use native.Mathlib.Omega.{arith}
use mathlib.Core.Path.{◌∙◌}
use Rattle.buffer.specs.Laws.Laid.{put_in_lem}
use Rattle.buffer.proofs.Parts.{put_tail}
use Rattle.lent.specs.Laws.Lent.{lent_put}
use Rattle.fill.proofs.put_row.Goals as goal

pub returns : goal.returns
returns c = λ h. put_tail _ _ _ _ (lent_put _ _ _ c.put_row.ensures (omega arith)) h ∙ put_in_lem _ _ _ h

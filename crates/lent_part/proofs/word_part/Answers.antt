use mathlib.Core.Path.{ap}
use Rattle.format.specs.Laws.Format.{bytes_all}
use Rattle.bounds.specs.Laws.Places.{word_short}
use Rattle.view.specs.View.{part_says}
use Rattle.lent.specs.Laws.Lent.{lent_as}
use Rattle.lent_part.proofs.word_part.Goals as goal

pub put_part-requires : goal.put_part-requires
put_part-requires c = word_short _ _ _ _ _ (bytes_all c.args.s.now c.shared_slice_known-1.given) c.find_word-v.ensures.0 c.find_word-v.ensures.1

pub returns : goal.returns
returns c = lent_as _ _ _ c.put_part.ensures (ap part_says c.find_word-v.ensures.0)

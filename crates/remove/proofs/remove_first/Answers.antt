use native.Mathlib.Omega.{arith}
use Rattle.format.specs.Laws.Format.{bytes_all}
use Rattle.remove.specs.Laws.Remove.{size_bound}
use Rattle.remove.proofs.remove_first.Goals as goal

pub lead-requires : goal.lead-requires
lead-requires c = (omega (arith, c.requires.wide), omega (arith, c.requires.order), omega (arith, c.requires.inside), c.requires.short, size_bound _ _ (bytes_all c.args.buf.now c.slice_known-1.given) c.u32_at.ensures c.in_ok-size.was, omega (arith, c.requires.wide, c.requires.order))

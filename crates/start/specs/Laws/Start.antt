-- Laws of ../Start.antt: a started deck, where there is room for it.
use Rattle.std.specs.Prelude.{ℕ, ◌≤◌, ◌<◌, ◌≡◌, refl, List, [], length}
use Rattle.std.proofs.Common.{arith, ◌∙◌}
use Rattle.std.proofs.Math.Path.{sym, ap}
use Rattle.format.specs.ReadWrite.{pair_write, value, spelt, each_write}
use Rattle.format.specs.Laws.ReadWrite.{length_spelt}
use Rattle.format.specs.Combinators.{pair, seq, ◌then◌, judged, via, number, count, fixed, bytes, counted}
use Rattle.format.specs.Format.{pick}
use Rattle.format.specs.Index.{index_write, indexed_write}
use Rattle.format.specs.Indexed.{indexed}
use Rattle.deck.specs.Deck.{mark, version, wide, rule_list, deck}
use Rattle.deck.specs.Written.{written}
use Rattle.buffer.specs.Laid.{put_in, put, laid}
use Rattle.buffer.specs.Laws.Laid.{put_in_lem, put_out}
use Rattle.start.specs.Start.{start_leaves}

-- ---- as the code writes it
pub empty_is : spelt 7 0x014B4452 ≡ written 1 []
unfolding written deck version wide rule_list counted indexed indexed_write index_write pick bytes mark fixed count via judged ◌then◌ seq pair pair_write number each_write spelt value
empty_is = refl

pub empty_long : length (written 1 []) ≡ 7
empty_long = sym (ap length empty_is) ∙ length_spelt 7 0x014B4452

module _ (d : List ℕ) where
  pub start_is : put_in d 0 (spelt 7 0x014B4452) ≡ start_leaves d
  unfolding start_leaves
  start_is = ap (put_in d 0) empty_is

  -- in a buffer that is too short nothing is put
  pub start_none : length d < 7 → start_leaves d ≡ d
  unfolding start_leaves
  start_none h = sym (put_out d 0 (written 1 []) (λ w. omega (arith, w, empty_long)))

  -- the empty deck is laid in the buffer
  pub start_laid : 7 ≤ length d → start_leaves d ≡ laid (written 1 []) 7 d
  unfolding start_leaves put laid
  start_laid h = put_in_lem d 0 (written 1 []) (omega (arith, empty_long)) ∙ rw empty_long

use Rattle.std.proofs.Common.{◌≡◌, ◌∙◌, ◌+◌, ℕ, List, ◌++◌, take, drop, sym, ap, subst, arith, take-append-drop}
use Rattle.std.proofs.lemmas.List.{drop-take}
use Rattle.std.specs.Io.KnownBytes.{Consumes}
use Rattle.std.proofs.KnownBytes.{Consumes-trans}
use lib.Seq.{take-take}
use Rattle.stream.proofs.read_full.Goals as goal

-- what a read put behind f bytes stands behind them
taken_on : (f n : ℕ) (xs ys : List ℕ) → take f ys ≡ take f xs → take f xs ++ take n (drop f ys) ≡ take (f + n) ys
taken_on f n xs ys front =
    let fronts : take f (take (f + n) ys) ≡ take f xs = take-take f (f + n) ys (omega arith) ∙ front in
    ap (λ l. l ++ take n (drop f ys)) (sym fronts) ∙ ap (λ l. take f (take (f + n) ys) ++ l) (sym (drop-take f n ys)) ∙ take-append-drop f (take (f + n) ys)

pub loop-done-preserved : goal.loop-done-preserved
loop-done-preserved g c =
    let read = c.in_ok-n.ensures in
    (read.fits, subst (Consumes _ _) (taken_on c.loop-done.done c.in_ok-n.n c.loop-done.buf c.read_part.new.buf read.front) (Consumes-trans _ _ _ _ _ c.loop-done.invariant.1 read.part))

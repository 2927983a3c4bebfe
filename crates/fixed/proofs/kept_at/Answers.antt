use mathlib.Core.Path.{refl}
use Rattle.fixed.specs.Laws.Fixed.{kept_1, kept_2, kept_3, kept_4, kept_5, kept_read}
use Rattle.fixed.proofs.kept_at.Goals as goal

pub returns-in_err-p : goal.returns-in_err-p
returns-in_err-p c = kept_1 _ _ _ c.in_err-p.ensures _ refl

pub returns-in_err-q : goal.returns-in_err-q
returns-in_err-q c = kept_2 _ _ _ c.in_ok-p.ensures refl c.in_err-q.ensures _ refl

pub returns-in_err-r : goal.returns-in_err-r
returns-in_err-r c = kept_3 _ _ _ c.in_ok-p.ensures refl c.in_ok-q.ensures refl c.in_err-r.ensures _ refl

pub returns-in_err-t : goal.returns-in_err-t
returns-in_err-t c = kept_4 _ _ _ c.in_ok-p.ensures refl c.in_ok-q.ensures refl c.in_ok-r.ensures refl c.in_err-t.ensures _ refl

pub returns-in_err-unknown5 : goal.returns-in_err-unknown5
returns-in_err-unknown5 c = kept_5 _ _ _ c.in_ok-p.ensures refl c.in_ok-q.ensures refl c.in_ok-r.ensures refl c.in_ok-t.ensures refl c.in_err-unknown5.ensures _ refl

pub returns : goal.returns
returns c = kept_read _ _ _ c.in_ok-p.ensures refl c.in_ok-q.ensures refl c.in_ok-r.ensures refl c.in_ok-t.ensures refl c.in_ok-unknown5.ensures refl

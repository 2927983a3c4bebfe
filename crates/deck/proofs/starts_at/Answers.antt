use native.Mathlib.Omega.{arith}
use Rattle.deck.specs.Laws.Deck.{starts_none, starts_never, starts_is}
use Rattle.deck.proofs.starts_at.Goals as goal

pub returns-then-version-ne2 : goal.returns-then-version-ne2
returns-then-version-ne2 c = starts_none _ _ _ _ c.if-version-ne2.true

pub returns-in_default : goal.returns-in_default
returns-in_default c = starts_never _ _ _ (omega (arith, c.if-version-ne2.false)) c.requires.1 c.u32_at-o.ensures c.in_default.is

pub returns : goal.returns
returns c = starts_is _ _ _ _ (omega (arith, c.if-version-ne2.false)) c.requires.1 c.requires.2 c.u32_at-o.ensures c.in-Ok.is

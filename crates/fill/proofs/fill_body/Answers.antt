use native.Mathlib.Omega.{arith}
use Rattle.format.specs.Laws.Format.{bytes_all}
use Rattle.format.specs.Laws.Seen.{itself, none}
use Rattle.format.specs.Laws.Back.{seen_ends}
use Rattle.fill.specs.Laws.Fill.{under_stop, under_up, two_small}
use Rattle.fill.specs.Laws.Parts.{body_cut, body_off, body_go}
use borrow.Author.Rules.{rules}
use Rattle.fill.proofs.fill_body.Goals as goal

pub returns-in_default : goal.returns-in_default
returns-in_default c = (body_cut _ _ _ _ _ _ _ _ c.u16_at-c.ensures c.in_default.is, under_stop itself _ _ _ c.u16_at-c.ensures c.in_default.is (omega arith))

pub returns-in_default-h : goal.returns-in_default-h
returns-in_default-h c = (body_off _ _ _ _ _ _ _ _ c.u16_at-c.ensures c.in-Ok.is c.head_at-h.ensures c.in_default-h.is, under_stop none _ _ _ c.head_at-h.ensures c.in_default-h.is (omega (arith, seen_ends itself _ _ _ c.u16_at-c.ensures c.in-Ok.is)))

pub fill_elements-requires : goal.fill_elements-requires
fill_elements-requires c = record {
  rest_len_bound = search rules;
  at_bound = omega (arith, seen_ends itself _ _ _ c.u16_at-c.ensures c.in-Ok.is, seen_ends none _ _ _ c.head_at-h.ensures c.in-Ok-h.is);
  n_bound = two_small _ _ (bytes_all _ c.shared_slice_known-1.given) c.u16_at-c.ensures c.in-Ok.is;
}

pub returns : goal.returns
returns c = (body_go _ _ _ _ _ _ _ _ c.u16_at-c.ensures c.in-Ok.is c.head_at-h.ensures c.in-Ok-h.is c.fill_elements.ensures.0, under_up _ c.fill_elements.ensures.1 (omega (arith, seen_ends itself _ _ _ c.u16_at-c.ensures c.in-Ok.is, seen_ends none _ _ _ c.head_at-h.ensures c.in-Ok-h.is)))

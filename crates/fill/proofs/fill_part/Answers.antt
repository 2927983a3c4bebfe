use native.Mathlib.Omega.{arith}
use Rattle.text.specs.Text.{length_of, string}
use Rattle.text.specs.Laws.Seen.{text_ends}
use Rattle.fill.specs.Laws.Fill.{under_text, under_up, under_got}
use Rattle.fill.specs.Laws.Parts.{rule_nameless, rule_bare, rule_go}
use borrow.Author.Rules.{rules}
use Rattle.fill.proofs.fill_part.Goals as goal

pub returns-in_err-enabled : goal.returns-in_err-enabled
returns-in_err-enabled c = (rule_nameless _ _ _ _ _ _ _ _ _ c.string_at.ensures c.in_err-enabled.was, under_text _ _ c.string_at.ensures c.in_err-enabled.was (search (rules, c.in_err-enabled.was)) (omega arith))

pub overflow_add-enabled : goal.overflow_add-enabled
overflow_add-enabled c = omega (arith, text_ends length_of string _ _ c.string_at.ensures c.in_ok-enabled.was)

pub fill_body-r-requires-clause-at_bound : goal.fill_body-r-requires-clause-at_bound
fill_body-r-requires-clause-at_bound c = omega (arith, text_ends length_of string _ _ c.string_at.ensures c.in_ok-enabled.was)

pub returns-in_default : goal.returns-in_default
returns-in_default c = (rule_bare _ _ _ _ _ _ _ _ _ c.string_at.ensures c.in_ok-enabled.was c.fill_body-r.ensures.0 c.in_default.is, under_up _ c.fill_body-r.ensures.1 (omega (arith, text_ends length_of string _ _ c.string_at.ensures c.in_ok-enabled.was)))

pub overflow_add-row : goal.overflow_add-row
overflow_add-row c = omega (arith, (under_got c.fill_body-r.ensures.1 c.in-Ok.is).1, text_ends length_of string _ _ c.string_at.ensures c.in_ok-enabled.was)

pub overflow_cast-row-2 : goal.overflow_cast-row-2
overflow_cast-row-2 c = omega (arith, (under_got c.fill_body-r.ensures.1 c.in-Ok.is).1, text_ends length_of string _ _ c.string_at.ensures c.in_ok-enabled.was)

pub overflow_add-row-3 : goal.overflow_add-row-3
overflow_add-row-3 c = omega (arith, text_ends length_of string _ _ c.string_at.ensures c.in_ok-enabled.was)

pub overflow_cast-row-5 : goal.overflow_cast-row-5
overflow_cast-row-5 c = omega (arith, text_ends length_of string _ _ c.string_at.ensures c.in_ok-enabled.was)

pub returns : goal.returns
returns c = (rule_go _ _ _ _ _ _ _ _ _ c.string_at.ensures c.in_ok-enabled.was c.fill_body-r.ensures.0 c.length_size-units.ensures c.in-Ok.is c.put_row.ensures, under_up _ c.fill_body-r.ensures.1 (omega (arith, text_ends length_of string _ _ c.string_at.ensures c.in_ok-enabled.was)))

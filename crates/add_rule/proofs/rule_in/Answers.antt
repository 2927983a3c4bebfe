use borrow.Author.Rules.{rules}
use Rattle.add_rule.specs.Laws.Rule.{rule_text, rule_given, rule_done}
use Rattle.format.specs.Laws.Format.{bytes_all}
use mathlib.Core.Path.{sym, ◌∙◌}
use Rattle.add_rule.proofs.rule_in.Goals as goal

pub returns-then-not-text : goal.returns-then-not-text
returns-then-not-text c = rule_text _ _ _ _ _ _ _ (sym c.is_text-text.ensures ∙ c.if-not-text.true)

pub returns-in_err-in_given : goal.returns-in_err-in_given
returns-in_err-in_given c = rule_given _ _ _ _ _ _ _ (sym c.is_text-text.ensures ∙ c.if-not-text.false) c.given_element.ensures c.in_given.ensures c.in_err-in_given.was (search rules)

pub extend-requires : goal.extend-requires
extend-requires c = (c.requires.0, c.requires.1, sym c.is_text-text.ensures ∙ c.if-not-text.false)

pub returns : goal.returns
returns c = rule_done _ _ _ _ _ _ _ _ _ c.ranges.identifier.fits (bytes_all c.args.name.now c.shared_slice_known-1.given) (bytes_all c.args.s.now c.shared_slice_known-2-1.given) (sym c.is_text-text.ensures ∙ c.if-not-text.false) c.given_element.ensures c.in_given.ensures c.in_ok-in_given.was c.extend.ensures

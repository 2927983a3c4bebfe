use native.Mathlib.Omega.{arith}
use Rattle.word_view.specs.Word.{rule_word, word_view}
use Rattle.asked.specs.Laws.Asked.{by_product, asked_none, asked_refused, asked_absent, asked_is}
use Rattle.format.specs.Laws.Format.{bytes_all}
use Rattle.view.specs.Laws.View.{no_inside}
use mathlib.Core.Path.{refl}
use borrow.Author.Rules.{rules}
use Rattle.word_view.proofs.find_word.Goals as goal

pub returns-in_default : goal.returns-in_default
unfolding word_view
returns-in_default c = (search (rules, asked_none), tt)

pub returns-in_err-version : goal.returns-in_err-version
unfolding word_view
returns-in_err-version c = (search (rules, asked_refused (rule_word c.args.k c.args.e c.args.w) c.args.edition c.args.k c.args.s.now c.in_err-version.ensures.0 refl), no_inside _ _ c.from_residual.ensures.0)

pub returns-then-n-k : goal.returns-then-n-k
unfolding word_view
returns-then-n-k c = (asked_absent _ _ _ _ (bytes_all c.args.s.now c.shared_slice_known-1.given) c.in_ok-version.ensures.0 refl (omega arith), tt)

pub returns : goal.returns
unfolding word_view
returns c = (asked_is _ _ _ _ (bytes_all c.args.s.now c.shared_slice_known-1.given) c.in_ok-version.ensures.0 refl (omega arith) (by_product _ _ _ _ _ _ _ c.edition_of.ensures c.in-Some.is c.word_of.ensures.0), c.word_of.ensures.1)

use Rattle.format.specs.Laws.Format.{bytes_all}
use Rattle.rule_deck.specs.Laws.Sent.{other_sent}
use borrow.Author.Rules.{rules}
use Rattle.rule_deck.proofs.rule_deck_to_2.Goals as goal

pub returns : goal.returns
returns c =
    let a = c.args in
    let b = bytes_all a.deck.now c.shared_slice_known-1.given in
    (search (other_sent a.edition 1 2 a.deck.now a.buf.now b), search rules)

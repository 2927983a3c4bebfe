use Rattle.format.specs.Laws.Format.{bytes_all}
use Rattle.bounds.specs.Laws.Places.{name_small}
use Rattle.rule_deck.specs.Laws.Sent.{inside_as, view_sent}
use Rattle.rule_deck.proofs.rule_deck_name.Goals as goal

pub returns : goal.returns
returns c = view_sent c.find_name-v.ensures.0 c.place_of.ensures (name_small c.args.edition c.args.k c.args.deck.now (bytes_all c.args.deck.now c.shared_slice_known-1.given) (inside_as _ c.find_name-v.ensures.0 c.find_name-v.ensures.1)) c.pack.ensures

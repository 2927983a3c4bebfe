use borrow.Author.Rules.{rules}
use Rattle.room.specs.Laws.Room.{room_rules, room_large, room_short, room_is}
use Rattle.room.proofs.room_for.Goals as goal

pub returns-then-rules-gt256 : goal.returns-then-rules-gt256
returns-then-rules-gt256 c = search (rules, room_rules)

pub returns-then-size-gt60000 : goal.returns-then-size-gt60000
returns-then-size-gt60000 c = search (rules, room_large)

pub returns-then-cap-size : goal.returns-then-cap-size
returns-then-cap-size c = search (rules, room_short)

pub returns : goal.returns
returns c = search (rules, room_is)

-- Starting an empty deck: document 01, "Edits and building".
use Rattle.std.specs.Prelude.{ℕ, List, []}
use Rattle.format.specs.Answers.{Outcome}
use Rattle.deck.specs.Written.{written}
use Rattle.buffer.specs.Laid.{put_in}
use Rattle.room.specs.Room.{room_for}

-- "answers 7; it refuses only with 20": a deck of no rules, 7 bytes long
abbrev pub start_says : ℕ → Outcome
start_says = room_for 0 7

-- "writes its first 7 bytes, touches no other": the deck of no rules in version 1, where there is room for it
unfoldable pub start_leaves : List ℕ → List ℕ
start_leaves d = put_in d 0 (written 1 [])

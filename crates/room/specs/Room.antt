-- How long a deck may be: document 01, "Edits and building".
use Rattle.std.specs.Prelude.{ℕ, leb, Ok, Err}
use Rattle.format.specs.declared.Fault.TheVariants as Fault
use Rattle.format.specs.Answers.{Outcome}
use Rattle.format.specs.declared.Refusal.TheVariants.{At}
use Rattle.format.specs.Format.{pick}

-- "18, 19, 20": over 256 rules, over 60,000 bytes, longer than the buffer; else its length
unfoldable pub room_for : ℕ → ℕ → ℕ → Outcome
room_for rules size cap =
    pick (leb rules 256)
    (pick (leb size 60000)
    (pick (leb size cap) (Ok size) (Err (At Fault.Room 0)))
    (Err (At Fault.Large 0))) (Err (At Fault.Rules 0))

-- Laws of ../Sent.antt: a promise of the library, packed; no place of one is above 60,000.
use Rattle.std.specs.Prelude.{ℕ, ◌≤◌, ◌%◌, ◌^◌, ◌≡◌, List, length}
use Rattle.std.proofs.Common.{arith, ap, ◌∙◌}
use Rattle.format.specs.Answers.{Outcome}
use Rattle.view.specs.Answers.{View}
use Rattle.format.specs.Fault.{place_of, packed, Said}
use Rattle.format.specs.Format.{Bytes}
use Rattle.packed.specs.Laws.Packed.{packed_whole}
use Rattle.room.specs.Laws.Room.{room_judged}
use Rattle.plan.specs.Edit.{Edit, says, Edits}
use Rattle.plan.specs.Handed.{Handed}
use Rattle.convert.specs.Convert.{other_plan}
use Rattle.start.specs.Start.{start_says}
use Rattle.view.specs.Laws.View.{Inside}
use Rattle.view.specs.View.{view_says}
use Rattle.bounds.specs.Laws.Places.{plan_small}
use Rattle.bounds.specs.Laws.Convert.{convert_small}
use Rattle.lent.specs.Lent.{Lends}
use Rattle.lent.specs.Laws.Lent.{lent_place}
use Rattle.rule_deck.specs.Sent.{Hands, Sends}

pub sent : (edition n : ℕ) (e : Edit) (d : List ℕ) {o : Outcome} {d' : List ℕ} {r : ℕ} → Bytes d → Handed e → Edits edition n e d o d' → r ≡ packed o % 2 ^ 64 → Sends edition n e d r d'
sent edition n e d b h f g = (h, (packed_whole g f.0 (plan_small edition n d e b h), f.1))

pub other_sent : (edition v u : ℕ) (s d : List ℕ) → Bytes s → (o : Outcome) (r : ℕ) → o ≡ says (other_plan edition v u (length d) s) → r ≡ packed o % 2 ^ 64 → r ≡ packed (says (other_plan edition v u (length d) s))
other_sent edition v u s d b o r f g = packed_whole g f (convert_small edition v u (length d) s b)

pub start_small : (cap : ℕ) → place_of (start_says cap) ≤ 60000
start_small cap = room_judged 0 7 cap (λ o. place_of o ≤ 60000) (λ w. omega arith) (λ l. omega arith) (λ l. omega arith) (λ l. omega arith)

-- a view that was found, and its number and place
pub inside_as : {v w : View} (n : ℕ) → v ≡ w → Inside v n → Inside w n
inside_as n e i = rw e at i

pub view_sent : {v w : View} {o : Outcome} {r : ℕ} → v ≡ w → o ≡ view_says v → place_of (view_says w) ≤ 60000 → r ≡ packed o % 2 ^ 64 → r ≡ packed (view_says w)
view_sent e h l g = packed_whole g (h ∙ ap view_says e) l

-- a result in a lent table
pub result_sent : (width : ℕ) (t : List ℕ) (x : Said) {o : Outcome} {t' : List ℕ} {r : ℕ} → Lends width t x o t' → place_of x.0 ≤ 60000 → r ≡ packed o % 2 ^ 64 → Hands width t x r t'
result_sent width t x f h g = (packed_whole g f.0 (lent_place width (length t) x h), f.1)

-- Laws of ../Room.antt: how the code judges it, and what is known then.
use Rattle.std.specs.Prelude.{ℕ, ◌≤◌, ◌<◌, ◌≡◌, Bool, Ok, Err}
use Rattle.std.proofs.Common.{arith, sym, ◌∙◌}
use Rattle.std.proofs.Math.Path.{refl}
use Rattle.std.proofs.Math.Bool.{true, false}
use Rattle.std.proofs.Math.Dec.{leb}
use borrow.Author.Tests.{le-leb, lt-leb, leb-true, leb-false}
use Rattle.format.specs.declared.Fault.{Fault}
use Rattle.format.specs.Answers.{Outcome}
use Rattle.format.specs.declared.Refusal.TheVariants.{At}
use Rattle.format.specs.Format.{pick}
use Rattle.room.specs.Room.{room_for}

module _ (rules size cap : ℕ) where
  -- ---- as the code judges it
  pub room_rules : 256 < rules → Err (At Fault.Rules 0) ≡ room_for rules size cap
  unfolding room_for pick
  room_rules l = rw (lt-leb rules 256 l)

  pub room_large : rules ≤ 256 → 60000 < size → Err (At Fault.Large 0) ≡ room_for rules size cap
  unfolding room_for pick
  room_large l m = rw (le-leb rules 256 l, lt-leb size 60000 m)

  pub room_short : rules ≤ 256 → size ≤ 60000 → cap < size → Err (At Fault.Room 0) ≡ room_for rules size cap
  unfolding room_for pick
  room_short l m n = rw (le-leb rules 256 l, le-leb size 60000 m, lt-leb size cap n)

  pub room_is : rules ≤ 256 → size ≤ 60000 → size ≤ cap → Ok size ≡ room_for rules size cap
  unfolding room_for pick
  room_is l m n = rw (le-leb rules 256 l, le-leb size 60000 m, le-leb size cap n)

  -- ---- what is known then: all three bounds where there is room, else which one is passed
  pub record Roomy : Type 0 where
    pub few : rules ≤ 256
    pub short : size ≤ 60000
    pub inside : size ≤ cap

  pub room_judged : (P : Outcome → Type 0) → (Roomy → P (Ok size)) → (256 < rules → P (Err (At Fault.Rules 0))) → (60000 < size → P (Err (At Fault.Large 0))) → (cap < size → P (Err (At Fault.Room 0)))
      → P (room_for rules size cap)
  unfolding room_for pick
  room_judged P done many large full = go (leb rules 256) (leb size 60000) (leb size cap) refl refl refl
    where
      go : (a b c : Bool) → leb rules 256 ≡ a → leb size 60000 ≡ b → leb size cap ≡ c
          → P (pick a (pick b (pick c (Ok size) (Err (At Fault.Room 0))) (Err (At Fault.Large 0))) (Err (At Fault.Rules 0)))
      go true true true e f g = done (record { few = leb-true rules 256 e; short = leb-true size 60000 f; inside = leb-true size cap g })
      go true true false e f g = full (leb-false size cap g)
      go true false c e f g = large (leb-false size 60000 f)
      go false b c e f g = many (leb-false rules 256 e)

  -- o is what was judged
  pub roomy : {o : Outcome} {v : ℕ} → o ≡ room_for rules size cap → o ≡ Ok v → Roomy
  roomy {o} {v} e h = room_judged (λ r. r ≡ Ok v → Roomy) (λ w z. w) (λ l. no) (λ l. no) (λ l. no) (sym e ∙ h)
    where
      no : {c : Fault} → Err (At c 0) ≡ Ok v → Roomy
      no z = absurd (let u : ◌≡◌ {A = ℕ} 0 1 = cc in omega arith)

-- A conversion gives the numbers that are listed for it, and no others, at no place above 60,000; back to version 1 never 19.
use Rattle.std.specs.Prelude.{ℕ, ◌≤◌, ◌<◌, ◌≡◌, refl, Bool, true, false, List, [], ◌∷◌, leb, eqb, Ok, Err, Some, None}
use Rattle.std.proofs.Common.{arith, ◌∙◌}
use Rattle.std.proofs.Math.Path.{ap}
use Rattle.std.proofs.Math.ListN.{length}
use Rattle.format.specs.declared.Fault.{Fault}
use Rattle.kind.specs.Answers.{Edition}
use Rattle.format.specs.Answers.{Outcome}
use Rattle.format.specs.declared.Refusal.TheVariants.{At}
use Rattle.format.specs.Fault.{place_of}
use Rattle.format.specs.Format.{Answer, got, refused, pick, Bytes}
use Rattle.format.specs.ReadWrite.{within}
use Rattle.room.specs.Laws.Room.{room_judged}
use Rattle.kind.specs.declared.Product.{Product}
use Rattle.kind.specs.Kinds.{edition_of}
use Rattle.rule.specs.Rule.{Rule}
use Rattle.deck.specs.Deck.{Deck, version, read_as}
use Rattle.deck.specs.Written.{deck_of, written}
use Rattle.deck.specs.Laws.Deck.{deck_small, read_writes_back}
use Rattle.deck.specs.Laws.Written.{written_as}
use Rattle.plan.specs.Edit.{if_done, says}
use Rattle.convert.specs.Laws.Back.{first_shortest}
use Rattle.convert.specs.Convert.{only_in, read_only, in_other, plan_other, other_plan}
use Rattle.bounds.specs.Listed.{Lists, exactly, allowed}
use Rattle.bounds.specs.Calls.{deck_numbers, convert_numbers}
use Rattle.bounds.specs.Laws.Listed.{Within, within_lists, within_small}
use Rattle.bounds.specs.Laws.Faulty.{Faulty, deck_faulty, edition_listed, faulty_listed}
use Rattle.bounds.specs.Laws.Refused.{as_refused}

-- P says it of each answer that there can be: not of 18, since a deck that was read has at most 256 rules
module _ (P : Outcome → Type 0) (u : ℕ) (edition-no : P (Err (At Fault.Edition 0))) (faulty : (c : Fault) (q : ℕ) → Faulty c q → P (Err (At c q))) (done : (n : ℕ) → n ≤ 60000 → P (Ok n)) (large : (v : ℕ) (rs : List Rule) → length (written v rs) ≤ 60000 → 60000 < length (written u rs) → P (Err (At Fault.Large 0))) (full : P (Err (At Fault.Room 0))) where
  other_judged : (edition v cap : ℕ) (s : List ℕ) → Bytes s → P (says (other_plan edition v u cap s))
  unfolding other_plan read_only says pick within
  other_judged edition v cap s b = by (edition_of edition)
    where
      read : (p : Product) (a : Answer Deck) → read_as p s ≡ a → P (says (in_other u cap a))
      read p (got k n) e =
          let w = read_writes_back p s k n b e in
          let is : s ≡ written k.version k.rules = w.is ∙ written_as k.version k.rules p in
          let few = deck_small p k w.fit in
          room_judged (length k.rules) (length (written u k.rules)) cap (λ o. P (says (if_done o (deck_of u k.rules)))) (λ r. done _ r.short) (λ l. absurd (omega arith)) (λ l. large k.version k.rules (omega (arith, ap length is, w.short)) l) (λ l. full)
      read p (refused c q) e = faulty c q (as_refused Faulty (deck_faulty p s) e)

      version_no : P (Err (At Fault.Version 3))
      version_no = faulty Fault.Version 3 (refl, (omega arith, refl))

      same : (p : Product) (t : Bool) → P (says (in_other u cap (pick t (read_as p s) (refused Fault.Version 3))))
      same p true = read p (read_as p s) refl
      same p false = version_no

      only : (p : Product) (h : Answer ℕ) → P (says (in_other u cap (only_in v h (read_as p s))))
      only p (got w n) = same p (eqb w v)
      only p (refused c q) = read p (read_as p s) refl

      long : (p : Product) (t : Bool) → P (says (in_other u cap (pick t (only_in v (version.read s) (read_as p s)) (refused Fault.Long 60000))))
      long p true = only p (version.read s)
      long p false = faulty Fault.Long 60000 (refl, (omega arith, refl))

      by : (o : Edition) → P (says (plan_other o v u cap s))
      by (Some p) = long p (leb (length s) 60000)
      by None = edition-no

convert_within : (edition v u cap : ℕ) (s : List ℕ) → Bytes s → Within convert_numbers 60000 (says (other_plan edition v u cap s))
unfolding allowed within
convert_within edition v u cap s b =
    other_judged (Within convert_numbers 60000) u (edition_listed (exactly 19 0 ∷ exactly 20 0 ∷ [])) (faulty_listed (exactly 19 0 ∷ exactly 20 0 ∷ [])) (λ n h. h) (λ v rs h l. (refl, refl)) (refl, refl) edition v cap s b

pub convert_listed : (edition v u cap : ℕ) (s : List ℕ) → Bytes s → Lists convert_numbers (says (other_plan edition v u cap s))
convert_listed edition v u cap s b = within_lists convert_numbers 60000 (says (other_plan edition v u cap s)) (convert_within edition v u cap s b)

pub convert_small : (edition v u cap : ℕ) (s : List ℕ) → Bytes s → place_of (says (other_plan edition v u cap s)) ≤ 60000
convert_small edition v u cap s b = within_small convert_numbers 60000 (says (other_plan edition v u cap s)) (convert_within edition v u cap s b) (omega arith)

-- ---- the deck of the same rules in version 1 is never longer: no 19
pub back_not_large : (edition v cap : ℕ) (s : List ℕ) → Bytes s → Lists (deck_numbers (exactly 20 0 ∷ [])) (says (other_plan edition v 1 cap s))
unfolding allowed within
back_not_large edition v cap s b =
    other_judged (Lists (deck_numbers (exactly 20 0 ∷ []))) 1 (edition_listed (exactly 20 0 ∷ [])) (faulty_listed (exactly 20 0 ∷ [])) (λ n h. tt) (λ w rs h l. absurd (omega (arith, first_shortest w rs))) (refl, refl) edition v cap s b

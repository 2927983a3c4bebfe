-- Laws of ../Name.antt: how the code finds the name of a rule.
use Rattle.std.specs.Prelude.{ℕ, ◌+◌, ◌-◌, ◌<◌, ◌≡◌, List, length, Ok, Err}
use Rattle.std.proofs.Common.{arith}
use Rattle.format.specs.Laws.Answers.{Read}
use Rattle.text.specs.Laws.Answers.{StringRead}
use Rattle.view.specs.Answers.{View}
use Rattle.format.specs.declared.Refusal.{Refusal}
use Rattle.format.specs.Laws.Back.{Where, stands_room}
use Rattle.text.specs.Text.{length_of, string}
use Rattle.text.specs.Laws.Seen.{text_seen, text_back}
use Rattle.rule.specs.Rule.{rule}
use Rattle.rule.specs.Laws.Places.{rule_parts}
use Rattle.steps.specs.Laws.Starts.{Starts}
use Rattle.asked.specs.Laws.Asked.{Tells, finds, finds_never}
use Rattle.view.specs.Laws.View.{units_of, units_of_lem}
use Rattle.name_view.specs.Name.{name_at}

-- r is what was told of the rule's start, t what its name was read as
module _ (version : ℕ) (s : List ℕ) (base k : ℕ) (v : View) {r : Read} where
  pub name_unreached : {why : Refusal} → Starts s version base k r → r ≡ Err why → Tells version s base k name_at v
  name_unreached w i p = finds_never p version s base k name_at v w i

  -- a rule has the 4 bytes of its signature
  pub name_cut : {u at w : ℕ} → Starts s version base k r → r ≡ Ok (at, u) → w ≡ length s - at → w < 4 → Tells version s base k name_at v
  unfolding Where
  name_cut {at = at} w i e l p = finds p version s base k name_at v w i (λ x b. absurd (omega (arith, stands_room (rule p k) s at b.1, (rule_parts p k s at x b.0 b.1).ends)))

  pub name_is : {u at : ℕ} {t : StringRead} → Starts s version base k r → r ≡ Ok (at, u) → t ≡ text_seen length_of string s (at + 4) → v ≡ units_of (length s) t → Tells version s base k name_at v
  unfolding Where
  name_is {at = at} w i e h p = finds p version s base k name_at v w i (λ x b.
      let y = rule_parts p k s at x b.0 b.1 in
      units_of_lem (length s) (at + 4) x.name h (text_back length_of string s (at + 4) y.named.1 e) (omega (arith, stands_room (rule p k) s at b.1, y.ends)))

-- Two outcomes that the promise of a date allows coincide. Assumes nothing.
use Rattle.std.specs.Prelude.{ℕ, ◌≡◌, refl, Bool, true, false, [], ◌∷◌, Ok, Err}
use Rattle.std.proofs.Common.{arith, sym, ap, ◌∙◌}
use Rattle.format.specs.declared.Fault.TheVariants as Fault
use Rattle.moment.specs.Answers.{Moment}
use Rattle.format.specs.declared.Refusal.TheVariants.{At}
use Rattle.format.specs.Fault.{Said}
use Rattle.civil.specs.declared.Civil.{Civil}
use Rattle.civil.specs.Calendar.{Valid, day_of}
use Rattle.civil.specs.Laws.Unique.{unique}
use Rattle.date.specs.Double.{accepted}
use Rattle.moment.specs.Moment.{day_in, second_in, moment_says, SaysBy, Says}

-- what a moment says gives it back
abbrev moment_from : Said → Moment
moment_from (Ok n, []) = Err (At Fault.Date 0)
moment_from (Ok n, (y ∷ [])) = Err (At Fault.Date 0)
moment_from (Ok n, (y ∷ (m ∷ []))) = Err (At Fault.Date 0)
moment_from (Ok n, (y ∷ (m ∷ (d ∷ [])))) = Err (At Fault.Date 0)
moment_from (Ok n, (y ∷ (m ∷ (d ∷ (s ∷ later))))) = Ok (record { year = y; month = m; day = d }, s)
moment_from (Err why, vs) = Err why

moment_from_lem : (r : Moment) → moment_from (moment_says r) ≡ r
moment_from_lem (Ok (c, s)) = refl
moment_from_lem (Err why) = refl

pub said_one : (b : Bool) (bits : ℕ) (x y : Said) → SaysBy b bits x → SaysBy b bits y → x ≡ y
said_one true bits x y f g = f.1.1 ∙ ap (λ (c : Civil). moment_says (Ok (c, second_in bits))) (unique f.0 g.0 f.1.0.0 g.1.0.0 (f.1.0.1 ∙ sym g.1.0.1)) ∙ sym g.1.1
said_one false bits x y f g = f ∙ sym g

pub says_one : (bits : ℕ) (r q : Moment) → Says bits r → Says bits q → r ≡ q
unfolding Says
says_one bits r q f g = sym (moment_from_lem r) ∙ ap moment_from (said_one (accepted bits) bits (moment_says r) (moment_says q) f g) ∙ moment_from_lem q

-- ---- what is shown of a date is its day by the calendar, and its second

abbrev civil_in : Moment → Civil
civil_in (Ok (c, s)) = c
civil_in (Err why) = record { year = 0; month = 0; day = 0 }

abbrev second_of : Moment → ℕ
second_of (Ok (c, s)) = s
second_of (Err why) = 0

pub record Shown (bits : ℕ) (c : Civil) (second : ℕ) : Type 0 where
  pub date : accepted bits ≡ true
  pub valid : Valid c
  pub on_day : day_of c ≡ day_in bits
  pub at : second ≡ second_in bits

pub says_shown : (bits : ℕ) (c : Civil) (s : ℕ) → Says bits (Ok (c, s)) → Shown bits c s
unfolding Says
says_shown bits c s = go (accepted bits) refl
  where
    go : (b : Bool) → accepted bits ≡ b → SaysBy b bits (moment_says (Ok (c, s))) → Shown bits c s
    go true e f =
        let m : ◌≡◌ {A = Moment} (Ok (c, s)) (Ok (f.0, second_in bits)) = ap moment_from f.1.1 in
        let w : c ≡ f.0 = ap civil_in m in
        record { date = e; valid = rw w f.1.0.0; on_day = rw w f.1.0.1; at = ap second_of m }
    go false e f = absurd (let z : ◌≡◌ {A = ℕ} 0 1 = (let w : ◌≡◌ {A = Moment} (Ok (c, s)) (Err (At Fault.Date 0)) = ap moment_from f in cc) in omega arith)

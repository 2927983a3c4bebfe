-- Laws of ../Moment.antt: as the code finds what a date says.
use Rattle.std.specs.Prelude.{ℕ, ◌≡◌, true, false, Ok, Err}
use Rattle.std.proofs.Math.Path.{refl}
use Rattle.format.specs.declared.Fault.TheVariants as Fault
use Rattle.civil.specs.declared.Civil.{Civil}
use Rattle.civil.specs.Calendar.{leap, months_days, years_days, Valid, day_of}
use Rattle.date.specs.Double.{accepted}
use Rattle.format.specs.declared.Refusal.TheVariants.{At}
use Rattle.moment.specs.Moment.{origin, day_in, second_in, Says}

pub origin_is : origin ≡ 657434
unfolding origin day_of years_days months_days leap
origin_is = refl

-- as the code finds it
module _ (bits : ℕ) where
  pub says_at : (c : Civil) (second : ℕ) → accepted bits ≡ true → Valid c × (day_of c ≡ day_in bits) → second ≡ second_in bits → Says bits (Ok (c, second))
  unfolding Says
  says_at c second e d h = rw (e, h) (c, (d, refl))

  pub says_no : accepted bits ≡ false → Says bits (Err (At Fault.Date 0))
  unfolding Says
  says_no e = rw e refl

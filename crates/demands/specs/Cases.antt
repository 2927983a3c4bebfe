-- The cases of document 01 that are marked P, and of document 02, W10, as one computed table: decks, identifiers, dates.
use Rattle.std.specs.Prelude.{ℕ, ◌+◌, ◌-◌, ◌*◌, ◌≡◌, refl, Bool, true, false, not, ◌&&◌, List, [], ◌∷◌, drop, T, eqb, leb, Ok, Err}
use Rattle.std.proofs.Common.{eqb→eq, leb→le}
use Rattle.std.specs.Float.Ieee.Bits.{is_true}
use Rattle.std.specs.Float.Ieee.Fits.{and_l, and_r}
use Rattle.std.proofs.lemmas.Bool.{not-true}
use Rattle.format.specs.declared.Fault.TheVariants as Fault
use Rattle.format.specs.Fault.{code_of, place_of, Said}
use Rattle.civil.specs.declared.Civil.{Civil}
use Rattle.civil.specs.Calendar.{leap, month_days, months_days, years_days, Valid, day_of}
use Rattle.date.specs.Double.{negative, size, day, accepted}
use Rattle.moment.specs.Answers.{Moment}
use Rattle.format.specs.declared.Refusal.TheVariants.{At}
use Rattle.moment.specs.Moment.{origin, day_in, second_in, moment_says, Says}
use Rattle.moment.specs.Laws.Moment.{says_at, says_no}
use Rattle.kind.specs.declared.Role.TheVariants.{Condition}
use Rattle.kind.specs.declared.Kind.{Kind}
use Rattle.kind.specs.declared.Kind.TheVariants.{Simple}
use Rattle.kind.specs.Kinds.{kind_values, kind_of}
use Rattle.deck.specs.Deck.{read_deck, answered}
use Rattle.deck.specs.Laws.Deck.{ComputingDecks}
use Rattle.deck.specs.Sample.{sample}

-- a number by its whole days and its further quarters of a day: whether it is negative, and its quarters
abbrev pub plus : ℕ → ℕ → Bool × ℕ
plus days quarters = (false, days * 4 + quarters)

abbrev pub minus : ℕ → ℕ → Bool × ℕ
minus days quarters = (true, days * 4 + quarters)

-- what is asked: the deck check of an edition, an identifier in an edition, or a date, a number and the bits of its double
pub data Asked : Type 0 where
  deck_of : ℕ → List ℕ → Asked
  identifier_of : ℕ → ℕ → Asked
  date_of : Bool × ℕ → ℕ → Asked

-- what is answered: a number, a place and values
abbrev pub Told : Type 0
Told = ℕ × (ℕ × List ℕ)

abbrev pub told : Said → Told
told x = (code_of x.0, (place_of x.0, x.1))

-- a number and a place alone (0 and the number of rules where the deck is accepted); a kind; year, month, day and second
abbrev pub says : ℕ → ℕ → Told
says n p = (n, (p, []))

abbrev pub is_kind : Kind → Told
is_kind k = (0, (0, kind_values k))

abbrev pub on : ℕ → ℕ → ℕ → ℕ → Told
on y m d second = (0, (0, y ∷ m ∷ d ∷ second ∷ []))

-- the definitions answer so; of a date, its bits are its number, and its promise allows a moment that says so
abbrev pub Answers : Asked → Told → Type 0
Answers (deck_of edition s) a = told (answered (read_deck edition s), []) ≡ a
Answers (identifier_of edition id) a = told (kind_of edition id) ≡ a
Answers (date_of x bits) a = ((negative bits ≡ x.0) × (size bits * 4 ≡ x.1 * day)) × ((m : Moment) × (Says bits m × (told (moment_says m) ≡ a)))

abbrev pub AllAnswer : List (Asked × Told) → Type 0
AllAnswer [] = Unit {0}
AllAnswer (c ∷ cs) = Answers c.0 c.1 × AllAnswer cs

-- document 01's deck of one rule in a version that has offsets, its rule's offset in the first of four bytes
abbrev pub sample_in : ℕ → ℕ → List ℕ
sample_in version offset = 0x52 ∷ 0x44 ∷ 0x4B ∷ version ∷ 0x00 ∷ 0x01 ∷ 0x00 ∷ offset ∷ 0x00 ∷ 0x00 ∷ 0x00 ∷ drop 7 sample

abbrev pub noon : ℕ
noon = 12 * 3600

abbrev pub six : ℕ
six = 6 * 3600

abbrev pub cases : List (Asked × Told)
cases =
    -- empty input 3 at 0
    (deck_of 1 [], says 3 0)
    ∷ (deck_of 2 [], says 3 0)
    -- 52 44 4B 01 00 00 00 accepted
    ∷ (deck_of 1 (0x52 ∷ 0x44 ∷ 0x4B ∷ 0x01 ∷ 0x00 ∷ 0x00 ∷ 0x00 ∷ []), says 0 0)
    ∷ (deck_of 2 (0x52 ∷ 0x44 ∷ 0x4B ∷ 0x01 ∷ 0x00 ∷ 0x00 ∷ 0x00 ∷ []), says 0 0)
    -- the deck above in both editions
    ∷ (deck_of 1 sample, says 10 58)
    ∷ (deck_of 2 sample, says 0 1)
    -- document 02, W10: an empty deck of version 2; the deck above in it, in both editions
    ∷ (deck_of 1 (0x52 ∷ 0x44 ∷ 0x4B ∷ 0x02 ∷ 0x00 ∷ 0x00 ∷ 0x00 ∷ []), says 0 0)
    ∷ (deck_of 2 (0x52 ∷ 0x44 ∷ 0x4B ∷ 0x02 ∷ 0x00 ∷ 0x00 ∷ 0x00 ∷ []), says 0 0)
    ∷ (deck_of 1 (sample_in 2 0x0B), says 10 62)
    ∷ (deck_of 2 (sample_in 2 0x0B), says 0 1)
    -- "29 for an offset that is not its rule's start, at that offset"
    ∷ (deck_of 2 (sample_in 2 0x0C), says 29 7)
    ∷ (deck_of 2 (sample_in 2 0x0A), says 29 7)
    -- an offset cut: 3 at its start
    ∷ (deck_of 2 (0x52 ∷ 0x44 ∷ 0x4B ∷ 0x02 ∷ 0x00 ∷ 0x01 ∷ 0x00 ∷ 0x0B ∷ 0x00 ∷ 0x00 ∷ []), says 3 7)
    -- version 3: 5 at 3
    ∷ (deck_of 2 (sample_in 3 0x0B), says 5 3)
    -- F5 in Desk is a condition
    ∷ (identifier_of 1 0xF5, is_kind (Simple Condition))
    -- 2F5 and 010000F5 answer 9
    ∷ (identifier_of 1 0x2F5, says 9 0)
    ∷ (identifier_of 2 0x2F5, says 9 0)
    ∷ (identifier_of 1 0x010000F5, says 9 0)
    ∷ (identifier_of 2 0x010000F5, says 9 0)
    -- 2.5 is noon on 1 January 1900
    ∷ (date_of (plus 2 2) 0x4004_0000_0000_0000, on 1900 1 1 noon)
    -- -1.25 is 06:00 on 29 December 1899
    ∷ (date_of (minus 1 1) 0xBFF4_0000_0000_0000, on 1899 12 29 six)
    -- -0.25 is 06:00 on 30 December 1899
    ∷ (date_of (minus 0 1) 0xBFD0_0000_0000_0000, on 1899 12 30 six)
    -- -657434.0 is 1 January 100
    ∷ (date_of (minus 657434 0) 0xC124_1034_0000_0000, on 100 1 1 0)
    -- 2958465.5 is noon on 31 December 9999
    ∷ (date_of (plus 2958465 2) 0x4146_9240_C000_0000, on 9999 12 31 noon)
    -- -657435.0 and 2958466.0 refused
    ∷ (date_of (minus 657435 0) 0xC124_1036_0000_0000, says 11 0)
    ∷ (date_of (plus 2958466 0) 0x4146_9241_0000_0000, says 11 0)
    ∷ []

-- ---- a date's case by tests
abbrev every : List Bool → Bool
every [] = true
every (b ∷ bs) = b && every bs

abbrev All : List Bool → Type 0
All [] = Unit {0}
All (b ∷ bs) = T b × All bs

all : (bs : List Bool) → T (every bs) → All bs
all [] t = tt
all (b ∷ bs) t = (and_l b (every bs) t, all bs (and_r b (every bs) t))

module _ (x : Bool × ℕ) (bits : ℕ) where
  abbrev on_tests : ℕ → ℕ → ℕ → ℕ → List Bool
  on_tests y m d second =
      eqb (size bits * 4) (x.1 * day)
      ∷ accepted bits
      ∷ eqb (day_of (record { year = y; month = m; day = d })) (day_in bits)
      ∷ eqb second (second_in bits)
      ∷ leb 100 y
      ∷ leb 1 m
      ∷ leb m 12
      ∷ leb 1 d
      ∷ leb d (month_days y (m - 1))
      ∷ []

  abbrev no_tests : List Bool
  no_tests = eqb (size bits * 4) (x.1 * day) ∷ not (accepted bits) ∷ []

  is_on_lem : (y m d second : ℕ) → negative bits ≡ x.0 → All (on_tests y m d second) → Answers (date_of x bits) (on y m d second)
  is_on_lem y m d second e (z, (a, (n, (t, (y100, (m1, (m12, (d1, (dn, u))))))))) =
      let c : Civil = record { year = y; month = m; day = d } in
      let v : Valid c = record { year = leb→le 100 y y100; month_low = leb→le 1 m m1; month_high = leb→le m 12 m12; day_low = leb→le 1 d d1; day_high = leb→le d (month_days y (m - 1)) dn } in (
        (e, eqb→eq (size bits * 4) (x.1 * day) z),
        (Ok (c, second), (says_at bits c second (is_true (accepted bits) a) (v, eqb→eq (day_of c) (day_in bits) n) (eqb→eq second (second_in bits) t), refl)),
      )

  date_on : (y m d second : ℕ) → negative bits ≡ x.0 → T (every (on_tests y m d second)) → Answers (date_of x bits) (on y m d second)
  date_on y m d second e t = is_on_lem y m d second e (all (on_tests y m d second) t)

  date_no : negative bits ≡ x.0 → T (every no_tests) → Answers (date_of x bits) (says 11 0)
  date_no e t =
      let b = all no_tests t in
      ((e, eqb→eq (size bits * 4) (x.1 * day) b.0), (Err (At Fault.Date 0), (says_no bits (not-true (accepted bits) (is_true (not (accepted bits)) b.1.0)), refl)))

pub cases_hold : AllAnswer cases
unfolding ComputingDecks sample day leap months_days years_days day_of origin day_in second_in
cases_hold =
    (refl, (refl, (refl, (refl, (refl, (refl, (refl, (refl, (refl, (refl, (refl, (refl, (refl, (refl, (refl, (refl, (refl, (refl, (refl, (date_on (plus 2 2) _ 1900 1 1 noon refl tt, (date_on (minus 1 1) _ 1899 12 29 six refl tt, (date_on (minus 0 1) _ 1899 12 30 six refl tt, (date_on (minus 657434 0) _ 100 1 1 0 refl tt, (date_on (plus 2958465 2) _ 9999 12 31 noon refl tt, (date_no (minus 657435 0) _ refl tt, (date_no (plus 2958466 0) _ refl tt, tt))))))))))))))))))))))))))

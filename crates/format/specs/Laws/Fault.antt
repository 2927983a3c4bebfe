-- Laws of ../Fault.antt: one number both ways; and a refusal handed on as another.
use Rattle.std.specs.Prelude.{ℕ, ◌+◌, ◌-◌, ◌/◌, ◌%◌, ◌^◌, ◌<◌, ◌≡◌, refl, List, [], ◌∷◌, eqb, ltb, get_or, Result, Ok, Err, IfErr, ⊤}
use Rattle.std.proofs.Common.{arith, sym, ap, ap₂, ◌∙◌, lit<, ne_eqb, lt-ltb, le-ltb}
use Rattle.format.specs.declared.Fault.{Fault}
use Rattle.format.specs.declared.Fault.TheVariants.{Edition, Long, Cut, Mark, Version, Count, Form, Field, Unknown, Foreign, Date, Size, Over, Table, Stated, Absent, Text, Rules, Large, Room, Full, Last, Offset}
use Rattle.format.specs.Answers.{Outcome}
use Rattle.format.specs.declared.Refusal.{Refusal}
use Rattle.format.specs.declared.Refusal.TheVariants.{At, Given}
use Rattle.format.specs.Format.{pick}
use Rattle.format.specs.Fault.{number_of, in_given, code_of, place_of, packed}

-- ---- a refusal handed on as another

pub given_ok : {A : Type 0} (r : Result A Refusal) {u : Result A Refusal} {x : A} → u ≡ in_given r → u ≡ Ok x → r ≡ Ok x
given_ok (Ok y) e h = sym e ∙ h
given_ok (Err (At c p)) e h = cc
given_ok (Err (Given c p)) e h = cc

-- a refusal of what is read, and not of "the second deck or given element data"
abbrev pub Own : Refusal → Type 0
Own (At c p) = ⊤
Own (Given c p) = ⊥

-- so it stays where it is handed on
pub own_handed : {A B : Type 0} (r : Result A Refusal) (w : Result B Refusal) {why : Refusal} → IfErr w Own → w ≡ Err why → r ≡ Err why → IfErr r Own
own_handed r w o e h = rw h (rw e at o)

-- a refusal of a part that starts at a place, by its place in the whole: of 64 bits
abbrev pub further : ℕ → Refusal → Refusal
further by (At c p) = At c ((by + p) % 2 ^ 64)
further by (Given c p) = Given c p

-- ---- one number, both ways

-- the fault of a number, and the outcome of a code and a place
abbrev pub faults : List Fault
faults = Edition ∷ Long ∷ Cut ∷ Mark ∷ Version ∷ Count ∷ Form ∷ Field ∷ Unknown ∷ Foreign ∷ Date ∷ Size ∷ Over ∷ Table ∷ Stated ∷ Absent ∷ Text ∷ Rules ∷ Large ∷ Room ∷ Full ∷ Last ∷ []

abbrev pub fault_of : ℕ → Fault
fault_of n = pick (eqb n 29) Offset (get_or faults (n - 1) Edition)

abbrev pub outcome_of : ℕ → ℕ → Outcome
outcome_of n q = pick (eqb n 0) (Ok q) (pick (ltb n 32) (Err (At (fault_of n) q)) (Err (Given (fault_of (n - 32)) q)))

-- every number of the table is from 1 to 31, and is of one fault
pub record Numbered (c : Fault) : Type 0 where
  pub some : 0 < number_of c
  pub small : number_of c < 32
  pub fault : fault_of (number_of c) ≡ c

pub numbered : (c : Fault) → Numbered c
unfolding pick
numbered Edition = record { some = lit< tt; small = lit< tt; fault = refl }
numbered Long = record { some = lit< tt; small = lit< tt; fault = refl }
numbered Cut = record { some = lit< tt; small = lit< tt; fault = refl }
numbered Mark = record { some = lit< tt; small = lit< tt; fault = refl }
numbered Version = record { some = lit< tt; small = lit< tt; fault = refl }
numbered Count = record { some = lit< tt; small = lit< tt; fault = refl }
numbered Form = record { some = lit< tt; small = lit< tt; fault = refl }
numbered Field = record { some = lit< tt; small = lit< tt; fault = refl }
numbered Unknown = record { some = lit< tt; small = lit< tt; fault = refl }
numbered Foreign = record { some = lit< tt; small = lit< tt; fault = refl }
numbered Date = record { some = lit< tt; small = lit< tt; fault = refl }
numbered Size = record { some = lit< tt; small = lit< tt; fault = refl }
numbered Over = record { some = lit< tt; small = lit< tt; fault = refl }
numbered Table = record { some = lit< tt; small = lit< tt; fault = refl }
numbered Stated = record { some = lit< tt; small = lit< tt; fault = refl }
numbered Absent = record { some = lit< tt; small = lit< tt; fault = refl }
numbered Text = record { some = lit< tt; small = lit< tt; fault = refl }
numbered Rules = record { some = lit< tt; small = lit< tt; fault = refl }
numbered Large = record { some = lit< tt; small = lit< tt; fault = refl }
numbered Room = record { some = lit< tt; small = lit< tt; fault = refl }
numbered Full = record { some = lit< tt; small = lit< tt; fault = refl }
numbered Last = record { some = lit< tt; small = lit< tt; fault = refl }
numbered Offset = record { some = lit< tt; small = lit< tt; fault = refl }

pub number_small : (c : Fault) → number_of c < 32
number_small c = (numbered c).small

pub code_small : (o : Outcome) → code_of o < 64
code_small (Ok n) = omega arith
code_small (Err (At c q)) = omega (arith, (numbered c).small)
code_small (Err (Given c q)) = omega (arith, (numbered c).small)

-- the code is the low 8 bits, the place the rest
pub packed_code : (o : Outcome) → packed o % 256 ≡ code_of o
packed_code o = omega (arith, code_small o)

pub packed_place : (o : Outcome) → packed o / 256 ≡ place_of o
packed_place o = omega (arith, code_small o)

-- an outcome is its code and its place
pub outcome_is : (o : Outcome) → outcome_of (code_of o) (place_of o) ≡ o
unfolding pick
outcome_is (Ok n) = refl
outcome_is (Err (At c q)) = let w = numbered c in rw (ne_eqb (number_of c) 0 (λ e. omega (arith, w.some)), lt-ltb (number_of c) 32 w.small, w.fault)
outcome_is (Err (Given c q)) =
    let w = numbered c in
    let e : number_of c + 32 - 32 ≡ number_of c = omega arith in
    rw (ne_eqb (number_of c + 32) 0 (λ e. omega arith), le-ltb (number_of c + 32) 32 (omega arith), e, w.fault)

-- two answers that differ are different numbers
pub packed_parts : (o q : Outcome) → packed o ≡ packed q → (code_of o ≡ code_of q) × (place_of o ≡ place_of q)
packed_parts o q e = (sym (packed_code o) ∙ ap (λ (n : ℕ). n % 256) e ∙ packed_code q, sym (packed_place o) ∙ ap (λ (n : ℕ). n / 256) e ∙ packed_place q)

pub packed_one : (o q : Outcome) → packed o ≡ packed q → o ≡ q
packed_one o q e = let w = packed_parts o q e in sym (outcome_is o) ∙ ap₂ outcome_of w.0 w.1 ∙ outcome_is q

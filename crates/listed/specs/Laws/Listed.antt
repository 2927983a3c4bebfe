-- Laws of ../Listed.antt: as the code finds a deck's version, a row's numbers and a rule's state; the lines of a version and a row that are known.
use Rattle.std.specs.Prelude.{ℕ, ◌+◌, ◌-◌, ◌*◌, ◌/◌, ◌≤◌, ◌≡◌, refl, Bool, false, List, ◌∷◌, length, drop, Ok, Err}
use Rattle.std.proofs.Common.{arith, ◌∙◌}
use Rattle.std.proofs.Math.Path.{sym, ap}
use Rattle.std.proofs.Math.Dec.{eqb}
use Rattle.std.proofs.Math.ListN.{get_or-eq_default}
use Rattle.format.specs.Laws.Answers.{Read}
use Rattle.format.specs.declared.Refusal.{Refusal}
use Rattle.format.specs.Format.{got}
use Rattle.format.specs.ReadWrite.{bit}
use Rattle.format.specs.Laws.ReadWrite.{eqb_bit}
use Rattle.format.specs.Combinators.{number}
use Rattle.format.specs.Laws.Seen.{seen, itself, told_got, told_why}
use Rattle.line.specs.Line.{deck_line, rule_line, element_line, Lined}
use Rattle.listed.specs.Listed.{entry, version_in, deck_listed, is_on, rule_listed, element_listed}

-- ---- as the code finds them
pub entry_none : (row : List ℕ) (j : ℕ) → length row ≤ j → 0 ≡ entry row j
entry_none row j h = sym (get_or-eq_default row 0 h)

module _ (s : List ℕ) (at : ℕ) {r : Read} (e : r ≡ seen itself (number 2) s at) where
  pub version_is : {v m : ℕ} → r ≡ Ok (m, v) → v ≡ version_in ((number 2).read (drop at s))
  unfolding seen
  version_is h = let g = told_got at itself ((number 2).read (drop at s)) e h in g.tells ∙ sym (ap version_in g.is)

  pub version_none : {why : Refusal} → r ≡ Err why → 0 ≡ version_in ((number 2).read (drop at s))
  unfolding seen
  version_none h = sym (ap version_in (told_why at itself ((number 2).read (drop at s)) e h).is)

module _ (s : List ℕ) (at : ℕ) {r : Read} (e : r ≡ seen itself (number 4) s at) where
  pub on_is : {v m : ℕ} → r ≡ Ok (m, v) → eqb v 1 ≡ is_on ((number 4).read (drop at s))
  unfolding seen
  on_is h = let g = told_got at itself ((number 4).read (drop at s)) e h in ap (λ (x : ℕ). eqb x 1) g.tells ∙ sym (ap is_on g.is)

  pub on_none : {why : Refusal} → r ≡ Err why → false ≡ is_on ((number 4).read (drop at s))
  unfolding seen
  on_none h = sym (ap is_on (told_why at itself ((number 4).read (drop at s)) e h).is)

module _ {d y : List ℕ} {r : ℕ} where
  pub deck_listed_lem : (s : List ℕ) {v : ℕ} → v ≡ version_in ((number 2).read (drop 3 s)) → Lined d (deck_line v (length s)) r y → Lined d (deck_listed s) r y
  unfolding deck_listed
  deck_listed_lem s e l = rw (← e) l

  pub rule_listed_lem : (s : List ℕ) (k : ℕ) (row : List ℕ) {on : Bool} {a b n units : ℕ} → a ≡ entry row 2 → n ≡ entry row 3 → b ≡ entry row 4 → on ≡ is_on ((number 4).read (drop b s)) → units ≡ (b - a) / 2
      → Lined d (rule_line k on units n) r y → Lined d (rule_listed s k row) r y
  unfolding rule_listed
  rule_listed_lem s k row ea en eb f g l = rw (← ea, ← en, ← eb, ← f, ← g) l

  pub element_listed_lem : (j : ℕ) (row : List ℕ) {a b c n : ℕ} → a ≡ entry row 0 → b ≡ entry row 2 → c ≡ entry row 3 → n ≡ c - b
      → Lined d (element_line j a n) r y → Lined d (element_listed j row) r y
  unfolding element_listed
  element_listed_lem j row e f g h l = rw (← e, ← f, ← g, ← h) l

-- ---- of a version that is known
pub deck_listed_as : (s : List ℕ) (v : ℕ) {n : ℕ} → (number 2).read (drop 3 s) ≡ got v n → deck_listed s ≡ deck_line v (length s)
unfolding deck_listed
deck_listed_as s v h = rw h

-- ---- of a row whose numbers are known: m units end at Enabled, where a state stands
pub rule_listed_as : (s : List ℕ) (k start end units n enabled m : ℕ) (on : Bool) {o : ℕ} (rest : List ℕ) → enabled ≡ units + 2 * m → (number 4).read (drop enabled s) ≡ got (bit on) o
    → rule_listed s k (start ∷ end ∷ units ∷ n ∷ enabled ∷ rest) ≡ rule_line k on m n
unfolding rule_listed
rule_listed_as s k start end units n enabled m on rest e h =
    let z : (enabled - units) / 2 ≡ m = omega arith in
    rw (z, h, eqb_bit on)

pub element_listed_as : (j identifier rule start end : ℕ) (rest : List ℕ) → element_listed j (identifier ∷ rule ∷ start ∷ end ∷ rest) ≡ element_line j identifier (end - start)
unfolding element_listed
element_listed_as j identifier rule start end rest = refl

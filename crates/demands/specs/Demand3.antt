-- Demand 3: from an accepted deck, after any run of edits, the buffer holds the deck that would be written afresh from the edited list of
-- rules. Bytes past the longest deck length so far are never touched. Document 02, W10: the deck is of either version, and keeps it.
use Rattle.std.specs.Prelude.{ℕ, ◌+◌, ◌≤◌, ◌≡◌, refl, List, [], eqb, length, take, Ok, Err, Some}
use Rattle.std.proofs.Common.{arith, ap, ap₂, ◌∙◌, ne_eqb}
use Rattle.format.specs.Answers.{Outcome}
use Rattle.format.specs.declared.Refusal.TheVariants.{At, Given}
use Rattle.format.specs.Fault.{number_of, code_of, place_of, packed}
use Rattle.format.specs.Laws.Fault.{numbered, packed_code, packed_place}
use Rattle.format.specs.Format.{got, Bytes, pick}
use Rattle.kind.specs.declared.Product.{Product}
use Rattle.kind.specs.declared.Product.TheVariants.{Studio}
use Rattle.kind.specs.Kinds.{edition_of}
use Rattle.deck.specs.Deck.{Deck, read_as}
use Rattle.deck.specs.Written.{deck_of}
use Rattle.plan.specs.Edit.{Edit, planned, says, Edits}
use Rattle.start.specs.Start.{start_says, start_leaves}
use Rattle.runs.specs.Run.{Buffer, Call, Promise, Ran, Steps, step, length_from, Called, Rules, run_rules}
use Rattle.runs.specs.Laws.Run.{edit_step, called, kept_version as keeps}
use Rattle.runs.specs.Left.{Left, calls, run_in}
use Rattle.runs.specs.Laws.Left.{at_accepted, at_start_lem, left_by, left_in, kept_in_one}
use Rattle.rule_deck.specs.Sent.{Sends, length_sent}

-- ---- whatever an edit of the library promises is a step of a run: the buffer that it leaves, and the length that it answers or, refused, the old one
pub edits_step : (edition n : ℕ) (e : Edit) (d : List ℕ) (r : Outcome) (d' : List ℕ) → Edits edition n e d r d' → (d', length_from n r) ≡ step (edition, e) (d, n)
edits_step = edit_step

-- so is whatever a call for C promises, "one 64-bit number, code plus 256 times place", and what it was handed is what the theorem asks for
length_sent_lem : (n : ℕ) (o : Outcome) → length_sent n (packed o) ≡ length_from n o
unfolding pick
length_sent_lem n o = rw (packed_code o, packed_place o) (go o)
  where
    go : (o : Outcome) → pick (eqb (code_of o) 0) (place_of o) n ≡ length_from n o
    go (Ok m) = refl
    go (Err (At c q)) = rw (ne_eqb (number_of c) 0 (λ e. omega (arith, (numbered c).some)))
    go (Err (Given c q)) = rw (ne_eqb (number_of c + 32) 0 (λ e. omega arith))

pub sends_step : Steps Sends length_sent
unfolding step
sends_step edition n e d r d' f = (f.0, ap₂ (λ (x : List ℕ) (m : ℕ). (x, m)) f.1.1 (ap (length_sent n) f.1.0 ∙ length_sent_lem n (says (planned edition n d e))))

-- ---- b is the buffer d, with the length of its deck, after a run of such calls
module _ {A : Type 0} {P : Promise A} {next : ℕ → A → ℕ} (is : Steps P next) (d : List ℕ) {b : Buffer} where
  -- each call in an edition of its own; Studio takes what either takes, and reads it back
  pub after_any_run : (p : Product) (n m : ℕ) (k : Deck) (cs : List Call) → Bytes d → n ≤ length d → read_as p (take n d) ≡ got k m
      → Ran P next cs (d, n) b → Left Studio d (run_rules (length d) cs (k, n)) b
  after_any_run p n m k cs bs l r h = left_by is cs (at_accepted p d n m k bs l r) h

  -- an accepted start of an empty deck, of version 1, begins a run
  pub after_a_start : (cs : List Call) → code_of (start_says (length d)) ≡ 0 → Ran P next cs (start_leaves d, place_of (start_says (length d))) b → Left Studio d (run_rules (length d) cs (deck_of 1 [], 7)) b
  after_a_start cs e h = left_by is cs (at_start_lem Studio d e) h

  -- all in the edition that accepted the deck: the deck takes every edit
  module _ (edition : ℕ) (p : Product) (ed : edition_of edition ≡ Some p) (es : List Edit) where
    pub in_one_edition : (n m : ℕ) (k : Deck) → Bytes d → n ≤ length d → read_as p (take n d) ≡ got k m → Ran P next (calls edition es) (d, n) b → Left p d (run_in p (length d) es (k, n)) b
    in_one_edition n m k bs l r h = left_in is edition es ed (at_accepted p d n m k bs l r) h

    pub start_in_one_edition : code_of (start_says (length d)) ≡ 0 → Ran P next (calls edition es) (start_leaves d, place_of (start_says (length d))) b → Left p d (run_in p (length d) es (deck_of 1 [], 7)) b
    start_in_one_edition e h = left_in is edition es ed (at_start_lem p d e) h

-- ---- which is so of the library's edits, and of the calls for C
pub after_any_edits : (d : List ℕ) {b : Buffer} (p : Product) (n m : ℕ) (k : Deck) (cs : List Call) → Bytes d → n ≤ length d → read_as p (take n d) ≡ got k m
    → Ran Called length_from cs (d, n) b → Left Studio d (run_rules (length d) cs (k, n)) b
after_any_edits d = after_any_run called d

pub after_any_sends : (d : List ℕ) {b : Buffer} (p : Product) (n m : ℕ) (k : Deck) (cs : List Call) → Bytes d → n ≤ length d → read_as p (take n d) ≡ got k m
    → Ran Sends length_sent cs (d, n) b → Left Studio d (run_rules (length d) cs (k, n)) b
after_any_sends d = after_any_run sends_step d

-- ---- the version of the deck that there was is that of the deck that is left: "All edits and readers work on both"
pub kept_version : (cap : ℕ) (cs : List Call) (l : Rules) → (run_rules cap cs l).0.version ≡ l.0.version
kept_version = keeps

pub kept_in_one_edition : (p : Product) (cap : ℕ) (es : List Edit) (l : Rules) → (run_in p cap es l).0.version ≡ l.0.version
kept_in_one_edition = kept_in_one

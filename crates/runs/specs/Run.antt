-- A run of edits, of a buffer and of a deck: document 01, "Edits and building".
use Rattle.std.specs.Prelude.{ℕ, max, ◌≡◌, List, [], ◌∷◌, length, Ok, Err, Some, None}
use Rattle.format.specs.declared.Fault.TheVariants as Fault
use Rattle.kind.specs.Answers.{Edition}
use Rattle.format.specs.Answers.{Outcome}
use Rattle.format.specs.Format.{Answer, got, refused}
use Rattle.kind.specs.Kinds.{edition_of}
use Rattle.kind.specs.declared.Product.{Product}
use Rattle.deck.specs.Deck.{Deck, read_as}
use Rattle.deck.specs.Written.{afresh}
use Rattle.buffer.specs.Laid.{laid}
use Rattle.plan.specs.Edit.{Edit, Plan, become, refuse, refuse_given, edited, in_version, in_room, planned, says, leaves, Edits}
use Rattle.plan.specs.Handed.{Handed}

-- a buffer, and the length of the deck in it
abbrev pub Buffer : Type 0
Buffer = List ℕ × ℕ

-- a call: its edition, and the edit that it asks for
abbrev pub Call : Type 0
Call = ℕ × Edit

-- the length to go on with: "On success the place answered is the new length", after a refusal the old one
abbrev pub length_from : ℕ → Outcome → ℕ
length_from n (Ok m) = m
length_from n (Err why) = n

-- what the promise of every edit says of a buffer, and of a run of them
abbrev pub step_by : Plan Deck → Buffer → Buffer
step_by q b = (leaves b.1 b.0 q, length_from b.1 (says q))

unfoldable pub step : Call → Buffer → Buffer
step c b = step_by (planned c.0 b.1 b.0 c.1) b

-- ---- a run as its caller sees it: call by call what was promised, each on the buffer and the length that the one before it left
abbrev pub Promise : Type 0 → Type 1
Promise A = ℕ → ℕ → Edit → List ℕ → A → List ℕ → Type 0

module _ {A : Type 0} (P : Promise A) (next : ℕ → A → ℕ) where
  unfoldable pub Ran : List Call → Buffer → Buffer → Type 0
  Ran [] b b' = b' ≡ b
  Ran (c ∷ cs) b b' = (r : A) × ((d : List ℕ) × (P c.0 b.1 c.1 b.0 r d × Ran cs (d, next b.1 r) b'))

  -- whatever is promised is a step, of an edit that can be handed over
  abbrev pub Steps : Type 0
  Steps = (edition n : ℕ) (e : Edit) (d : List ℕ) (r : A) (d' : List ℕ) → P edition n e d r d' → Handed e × ((d', next n r) ≡ step (edition, e) (d, n))

-- the library's edits
abbrev pub Called : Promise Outcome
Called edition n e d r d' = Handed e × Edits edition n e d r d'

-- ---- the same of a deck, its version and its rules, and the longest deck length so far: no byte is moved
abbrev pub Rules : Type 0
Rules = Deck × ℕ

abbrev pub taken : Plan Deck → Rules → Rules
taken (become k) l = (k, max l.1 (length (afresh k)))
taken (refuse c q) l = l
taken (refuse_given c q) l = l

-- the edition takes the edit where it accepts the deck
abbrev pub if_accepted : Answer Deck → Plan Deck → Plan Deck
if_accepted (got k n) q = q
if_accepted (refused c o) q = refuse c o

-- an edit of its rules; its version stays
abbrev pub plan_in : Product → ℕ → Edit → Deck → Plan Deck
plan_in p cap e k = in_room cap (in_version k.version (edited p e k.rules))

abbrev pub plan_rules : Edition → ℕ → Edit → Deck → Plan Deck
plan_rules (Some p) cap e k = if_accepted (read_as p (afresh k)) (plan_in p cap e k)
plan_rules None cap e k = refuse Fault.Edition 0

unfoldable pub step_rules : ℕ → Call → Rules → Rules
step_rules cap c l = taken (plan_rules (edition_of c.0) cap c.1 l.0) l

unfoldable pub run_rules : ℕ → List Call → Rules → Rules
run_rules cap [] l = l
run_rules cap (c ∷ cs) l = run_rules cap cs (step_rules cap c l)

-- the buffer d with a deck laid in it: the deck written afresh, zeros up to the longest length so far, the rest as found
abbrev pub buffer_with : List ℕ → Rules → Buffer
buffer_with d l = (laid (afresh l.0) l.1 d, length (afresh l.0))

-- How an edit is shown to do its plan: from a sound deck in a buffer, through what is done to the buffer, to the deck of the edited list.
use Rattle.std.specs.Prelude.{ℕ, ◌+◌, ◌-◌, ◌≤◌, ◌<◌, max, ◌≡◌, refl, true, false, take, drop, Result, Ok, Err}
use Rattle.std.proofs.Common.{arith, ◌∙◌, zero-add, length-append, take-append-drop, drop_of_length-le, drop_at, lt-ltb, le-ltb}
use Rattle.std.proofs.Math.Path.{sym, ap, ap₂}
use mathlib.Core.List.{List, [], ◌∷◌, ◌++◌, append_assoc}
use Rattle.std.proofs.Math.ListN.{length}
use Rattle.format.specs.declared.Fault.{Fault}
use Rattle.format.specs.Answers.{Outcome}
use Rattle.format.specs.Laws.Answers.{Read}
use Rattle.format.specs.declared.Refusal.{Refusal}
use Rattle.format.specs.declared.Refusal.TheVariants.{At, Given}
use Rattle.format.specs.Format.{Answer, got, refused, pick}
use Rattle.format.specs.Fault.{in_given}
use Rattle.format.specs.Laws.Seen.{told, none, unlike}
use Rattle.format.specs.Laws.Written.{Held}
use Rattle.kind.specs.declared.Product.{Product}
use Rattle.kind.specs.declared.Product.TheVariants.{Studio}
use Rattle.element.specs.Element.{Element}
use Rattle.rule.specs.Rule.{Rule, rule}
use Rattle.rule.specs.Places.{enabled_at}
use Rattle.rule.specs.Laws.Parts.{front, back, rule_is}
use Rattle.deck.specs.Written.{deck_of, written, start_of}
use Rattle.deck.specs.Laws.Written.{written_is, lead, lead_kept, before, before_is, rules, rules_cons}
use Rattle.buffer.specs.Laid.{laid}
use Rattle.room.specs.Room.{room_for}
use Rattle.room.specs.Laws.Room.{room_is, roomy}
use Rattle.buffer.specs.Laws.Holds.{Holds}
use Rattle.spot.specs.declared.Site.{Site}
use Rattle.steps.specs.Laws.Steps.{Here, here, name_read, name_end, name_end_lem, name_never}
use Rattle.given.specs.Given.{is_text}
use Rattle.plan.specs.Edit.{Edit, Plan, become, refuse, refuse_given, at_rule, at_last, if_text, unless_full, at_given, if_done, says, leaves}
use Rattle.plan.specs.Laws.Found.{Makes, Does}

-- ---- the deck that is found

module _ (n : ℕ) (d : List ℕ) {p : Product} {v : ℕ} {rs : List Rule} where
  -- a rule of the deck stands in the buffer where it stands in the deck
  pub here_in : {k : ℕ} (h : Here p v (take n d) rs k) → Held (rule p k) d (start_of v rs k) h.r
  here_in {k} h =
      let L = rules (k + 1) h.later ++ drop n d in
      let P = before v rs k in
      let w : d ≡ P ++ ((rule p k).write h.r ++ L) = sym (take-append-drop n d) ∙ ap (λ (z : List ℕ). z ++ drop n d) h.is ∙ rw (rule_is p k h.r) (simp append_assoc) in
      (L, record { fit = h.fits; is = ap (drop (start_of v rs k)) w ∙ drop_at P _ (start_of v rs k) h.starts })

  pub name_ends : {k : ℕ} (h : Here p v (take n d) rs k) → name_end d (start_of v rs k) ≡ enabled_at (start_of v rs k) h.r
  name_ends {k} h = name_end_lem d (start_of v rs k) p k h.r (here_in h)

  -- its name can be read: t is what it was read as
  pub name_there : {k : ℕ} {t : Read} {why : Refusal} {B : Type 0} (h : Here p v (take n d) rs k) → t ≡ name_read d (start_of v rs k) → t ≡ Err why → B
  name_there {k} h f g = name_never d (start_of v rs k) f g p k h.r (here_in h)

-- so an edit of rule k is not refused there
pub makes_unnamed : (edition k : ℕ) (f : Site) (e : Edit) (d : List ℕ) (r : Outcome) (d' : List ℕ) {t : Read} {why : Refusal} → k < f.rules → t ≡ name_read d f.start → t ≡ Err why → Makes edition (λ rs. k) f e d r d'
unfolding Makes
makes_unnamed edition k f e d r d' l g h p v rs x o = name_there f.bytes d (here p v (take f.bytes d) rs k o.sound (omega (arith, o.many))) (g ∙ ap (name_read d) o.starts) h

-- ---- the deck of the edited list: rule k becomes x
pub replaced_long : (rs later : List Rule) (k : ℕ) (r x : Rule) → drop k rs ≡ r ∷ later → length (take k rs ++ (x ∷ later)) ≡ length rs
replaced_long rs later k r x e =
    omega (arith, length-append (take k rs) (x ∷ later), length-append (take k rs) (drop k rs), ap length e, ap length (take-append-drop k rs))

-- behind what stood before its rules
pub rules_here : (v : ℕ) (rs later : List Rule) (k : ℕ) (x : Rule) → k < length rs → lead v rs ++ rules 0 (take k rs ++ (x ∷ later)) ≡ before v rs k ++ (front x ++ (back k x.elements ++ rules (k + 1) later))
rules_here v rs later k x l = rw rules_cons at (before_is v rs k (x ∷ later) (omega arith))

-- x being as long, or the last
pub written_here : (v : ℕ) (rs later : List Rule) (k : ℕ) (r x : Rule) → drop k rs ≡ r ∷ later → k < length rs → (0 < length later → length ((rule Studio k).write x) ≡ length ((rule Studio k).write r))
    → written v (take k rs ++ (x ∷ later)) ≡ before v rs k ++ (front x ++ (back k x.elements ++ rules (k + 1) later))
written_here v rs later k r x e l h =
    let xs = take k rs ++ (x ∷ later) in
    written_is v xs ∙ ap (λ (t : List ℕ). t ++ rules 0 xs) (lead_kept v rs k later r x e (replaced_long rs later k r x e) h) ∙ rules_here v rs later k x l

-- ---- what was judged
pub at_rule_lem : (rs : List Rule) (k : ℕ) {r : Rule} {later : List Rule} (f : Rule → List Rule → Plan (List Rule)) → drop k rs ≡ r ∷ later → at_rule (drop k rs) f ≡ f r later
unfolding at_rule
at_rule_lem rs k f e = rw e

pub no_rule : (rs : List Rule) (k : ℕ) (f : Rule → List Rule → Plan (List Rule)) → length rs ≤ k → at_rule (drop k rs) f ≡ refuse Fault.Absent 0
unfolding at_rule
no_rule rs k f l = let e : drop k rs ≡ [] = drop_of_length-le rs {i = k} l in rw e

pub at_last_lem : (rs : List Rule) (k : ℕ) {r : Rule} {later : List Rule} (f : Rule → Plan (List Rule)) → drop k rs ≡ r ∷ later → at_last (drop k rs) f ≡ f r
unfolding at_last
at_last_lem rs k f e = rw e

pub no_last : (rs : List Rule) (f : Rule → Plan (List Rule)) → length rs ≡ 0 → at_last (drop (length rs - 1) rs) f ≡ refuse Fault.Last 0
unfolding at_last
no_last rs f l = let e : drop (length rs - 1) rs ≡ [] = drop_of_length-le rs {i = length rs - 1} (omega arith) in rw e

pub if_text_lem : (s : List ℕ) (q : Plan (List Rule)) → is_text s ≡ true → if_text s q ≡ q
unfolding if_text pick
if_text_lem s q e = rw e

pub no_text : (s : List ℕ) (q : Plan (List Rule)) → is_text s ≡ false → if_text s q ≡ refuse Fault.Text 0
unfolding if_text pick
no_text s q e = rw e

pub not_full : (c : ℕ) (q : Plan (List Rule)) → c < 64 → unless_full c q ≡ q
unfolding unless_full pick
not_full c q l = rw (lt-ltb c 64 l)

pub full : (c : ℕ) (q : Plan (List Rule)) → 64 ≤ c → unless_full c q ≡ refuse Fault.Full 0
unfolding unless_full pick
full c q l = rw (le-ltb c 64 l)

pub at_given_lem : {a : Answer Element} (f : Element → Plan (List Rule)) {x : Element} {l : ℕ} → a ≡ got x l → at_given a f ≡ f x
unfolding at_given
at_given_lem f e = rw e

pub no_given : {a : Answer Element} (f : Element → Plan (List Rule)) {c : Fault} {q : ℕ} → a ≡ refused c q → at_given a f ≡ refuse_given c q
unfolding at_given
no_given f e = rw e

-- of a second deck or of given element data: u is r, as theirs
pub given_err : {A : Type 0} (r : Result A Refusal) {u : Result A Refusal} {why : Refusal} → u ≡ in_given r → u ≡ Err why → (w : Refusal) × (r ≡ Err w)
given_err (Ok y) e h = absurd (let z : ◌≡◌ {A = ℕ} 0 1 = cc in omega arith)
given_err (Err w) e h = (w, refl)

pub record Faulted {A : Type 0} (a : Answer A) (why : Refusal) : Type 0 where
  pub c : Fault
  pub q : ℕ
  pub is : a ≡ refused c q
  pub ends : why ≡ Given c q

pub given_no : {A : Type 0} (a : Answer A) {t u : Read} {why : Refusal} → t ≡ told 0 none a → u ≡ in_given t → u ≡ Err why → Faulted a why
unfolding told
given_no (got x n) e f h = unlike (f ∙ ap in_given e) h
given_no (refused c q) {why = why} e f h =
    let z : ◌≡◌ {A = Read} (Err why) (Err (Given c (0 + q))) = sym h ∙ f ∙ ap in_given e in
    let y : why ≡ Given c (0 + q) = cc in
    record { c = c; q = q; is = refl; ends = y ∙ ap (Given c) (zero-add q) }

-- ---- what a plan comes to
module _ (v n : ℕ) (d : List ℕ) {q : Plan (List Rule)} where
  -- refused before the edit
  pub made_no : {c : Fault} {o : ℕ} → q ≡ refuse c o → Does v n q d (Err (At c o)) d
  unfolding says leaves
  made_no e = rw e (refl, refl)

  pub made_given : {c : Fault} {o : ℕ} → q ≡ refuse_given c o → Does v n q d (Err (Given c o)) d
  unfolding says leaves
  made_given e = rw e (refl, refl)

  -- the edited list
  module _ {rs : List Rule} where
    -- 18, 19, 20: o is what was judged of it
    pub made_out : {o r : Outcome} {why : Refusal} {m len : ℕ} → q ≡ become rs → o ≡ room_for m len (length d) → o ≡ Err why → r ≡ Err why → m ≡ length rs → len ≡ length (written v rs) → Does v n q d r d
    unfolding says leaves
    made_out {why = why} e f h i em el = rw (e, ← em, ← el, ← f, h, i) (go why)
      where
        go : (why : Refusal) → (Err why ≡ says (if_done (Err why) (deck_of v rs))) × (d ≡ leaves n d (if_done (Err why) (deck_of v rs)))
        go (At c p) = (refl, refl)
        go (Given c p) = (refl, refl)

    -- done: the buffer y holds the deck of the edited list, len bytes long
    pub made_is : {y Y : List ℕ} {hi len : ℕ} → Holds y Y hi d → q ≡ become rs → Y ≡ written v rs → length Y ≡ len → hi ≡ max n len → length rs ≤ 256 → len ≤ 60000 → Does v n q d (Ok len) y
    unfolding says leaves
    made_is {y} {Y} {hi} {len} h e w s i l m =
        let z : length (written v rs) ≡ len = sym (ap length w) ∙ s in
        let u = h.room in
        let g : length (written v rs) ≤ length d = omega (arith, h.short) in
        rw (e, ← room_is (length rs) (length (written v rs)) (length d) l (omega arith) g)
        (ap Ok (sym z), h.is ∙ ap₂ (λ (a : List ℕ) (b : ℕ). laid a b d) w (i ∙ ap (max n) (sym z)))

    -- done where there was found to be room
    pub made_in : {o : Outcome} {y Y : List ℕ} {hi w m len : ℕ} → o ≡ room_for m len (length d) → o ≡ Ok w → Holds y Y hi d → q ≡ become rs → Y ≡ written v rs → length Y ≡ len → hi ≡ max n len → m ≡ length rs → Does v n q d o y
    made_in {o} {m = m} {len = len} r h y e w s i em =
        let j = roomy m len (length d) r h in
        let z : o ≡ Ok len = r ∙ sym (room_is m len (length d) j.few j.short j.inside) in
        rw z (made_is y e w s i (omega (arith, j.few)) j.short)

-- A rule renamed: the String of its name gives way to another.
use Rattle.std.specs.Prelude.{ℕ, ◌+◌, ◌-◌, ◌≤◌, ◌<◌, max, ◌≡◌, true, false, List, ◌∷◌, ◌++◌, length, take, Ok, Err}
use Rattle.std.proofs.Common.{arith, sym, ap, ◌∙◌, append_assoc, length-append, length-take-le}
use Rattle.format.specs.declared.Fault.TheVariants as Fault
use Rattle.format.specs.Answers.{Outcome}
use Rattle.spot.specs.Laws.Answers.{Spot}
use Rattle.format.specs.declared.Refusal.{Refusal}
use Rattle.format.specs.declared.Refusal.TheVariants.{At}
use Rattle.format.specs.Format.{Bytes}
use Rattle.format.specs.ReadWrite.{spelt}
use Rattle.format.specs.Laws.ReadWrite.{length_spelt}
use Rattle.text.specs.Text.{string}
use Rattle.kind.specs.declared.Product.{Product}
use Rattle.rule.specs.Rule.{Rule}
use Rattle.rule.specs.Places.{enabled_at}
use Rattle.rule.specs.Laws.Parts.{front, front_long, kept, back}
use Rattle.deck.specs.Deck.{base_of}
use Rattle.deck.specs.Written.{deck_of, written, start_of}
use Rattle.deck.specs.Laws.Written.{lead, before, behind_long, rules, written_long}
use Rattle.buffer.specs.Laid.{put_in}
use Rattle.buffer.specs.Laws.Laid.{opened}
use Rattle.buffer.specs.Laws.Holds.{Holds, holds_start, holds_open, holds_fill}
use Rattle.spot.specs.declared.Site.{Site}
use Rattle.steps.specs.Laws.Steps.{Here, here, name_end}
use Rattle.given.specs.Given.{is_text, text_of}
use Rattle.plan.specs.Edit.{become, rename, edited, renamed}
use Rattle.plan.specs.Laws.Found.{Makes, Does, Sits, sits_within, found, ground, Ground}
use Rattle.room.specs.Room.{room_for}
use Rattle.room.specs.Laws.Room.{roomy}
use Rattle.plan.specs.Laws.Makes.{name_ends, replaced_long, rules_here, at_rule_lem, no_rule, no_text, made_no, made_out}
use Rattle.plan.specs.Handed.{Handed}
use Rattle.plan.specs.Laws.Fits.{fits_deck}
use Rattle.plan.specs.Laws.Kept.{edited_fits}
use Rattle.plan.specs.Laws.Finish.{Finishes, made_finish}
use Rattle.plan.specs.Laws.Forms.{renamed_shortest}
use Rattle.parts.specs.Laws.Text.{text_bytes, text_size, text_size_lem, text_is}

-- the bounds of the name, which ends at e, of the rule that was found
pub record Named (f : Site) (e : ℕ) (d : List ℕ) : Type 0 where
  pub order : f.start + 4 ≤ e
  pub inside : e ≤ f.bytes
  pub room : f.bytes ≤ length d
  pub short : f.bytes ≤ 60000

-- the name of a rule of a sound deck ends before Data Size
module _ (n : ℕ) (d : List ℕ) (p : Product) (v : ℕ) (rs : List Rule) (k : ℕ) (h : Here p v (take n d) rs k) where
  name_inside : n ≤ length d → enabled_at (start_of v rs k) h.r + 20 ≤ n
  name_inside w =
      let B = before v rs k in
      let L = back k h.r.elements ++ rules (k + 1) h.later in
      omega (arith, ap length h.is, length-append B (front h.r ++ L), length-append (front h.r) L, front_long h.r, h.starts, length-take-le n d w)

pub found_named : (edition n k : ℕ) (d : List ℕ) {c : Spot} {f : Site} {e : ℕ} → Bytes d → c ≡ found (λ rs. k) edition n d → c ≡ Ok f → k < f.rules → e ≡ name_end d f.start → Named f e d
found_named edition n k d {c} {f} {e} bs g h l z = go (ground (λ rs. k) edition n d bs g h)
  where
    go : Ground (λ rs. k) edition n d f → Named f e d
    go y =
        let o = y.sits in
        let h = here y.product y.version (take f.bytes d) y.rs k o.sound (omega (arith, o.many)) in
        let i = name_inside f.bytes d y.product y.version y.rs k h o.within in
        let j : e ≡ enabled_at (start_of y.version y.rs k) h.r = rw o.starts at z ∙ name_ends f.bytes d h in
        let b = sits_within f d o in
        record { order = omega (arith, o.starts, j); inside = omega (arith, i, j); room = b.room; short = b.short }

-- the String gives way, and its place is filled
renamed_holds : (d : List ℕ) (n : ℕ) (s : List ℕ) (p : Product) (v : ℕ) (rs : List Rule) (k : ℕ) {a e len : ℕ} {z y : List ℕ} (h : Here p v (take n d) rs k) → n ≤ length d → Bytes s → is_text s ≡ true
    → a ≡ start_of v rs k → e ≡ enabled_at a h.r → len ≡ text_size s → n - (e - (a + 4)) + len ≤ length d → z ≡ opened d n (a + 4) e len → y ≡ put_in z (a + 4) (text_bytes s)
    → Holds y (before v rs k ++ (front (renamed (text_of s) h.r) ++ (back k h.r.elements ++ rules (k + 1) h.later))) (max n (n - (e - (a + 4)) + len)) d
unfolding front kept
renamed_holds d n s p v rs k {a} {e} {len} h w bs t ea ee el fits z y =
    let r = h.r in
    let B = before v rs k in
    let P = B ++ spelt 4 r.signature in
    let Q = string.write r.name in
    let R = kept r ++ (back k r.elements ++ rules (k + 1) h.later) in
    let i : take n d ≡ P ++ (Q ++ R) = h.is ∙ simp append_assoc in
    let l : length P ≡ a + 4 = omega (arith, length-append B (spelt 4 r.signature), length_spelt 4 r.signature, h.starts, ea) in
    let f = holds_fill P R (text_bytes s) (holds_open P Q R (holds_start d n w) i (length-take-le n d w) l (omega (arith, ee)) fits z) l (el ∙ text_size_lem s t) y in
    let q : P ++ (text_bytes s ++ R) ≡ B ++ (front (renamed (text_of s) r) ++ (back k r.elements ++ rules (k + 1) h.later)) = rw (text_is s bs t) (simp append_assoc) in
    rw q at f

renamed_long : (d : List ℕ) (n : ℕ) (s : List ℕ) (p : Product) (v : ℕ) (rs : List Rule) (k : ℕ) {a e len : ℕ} (h : Here p v (take n d) rs k) → n ≤ length d → Bytes s → is_text s ≡ true
    → a ≡ start_of v rs k → e ≡ enabled_at a h.r → len ≡ text_size s
    → length (before v rs k ++ (front (renamed (text_of s) h.r) ++ (back k h.r.elements ++ rules (k + 1) h.later))) ≡ n - (e - (a + 4)) + len
renamed_long d n s p v rs k h w bs t ea ee el =
    let B = before v rs k in
    let L = back k h.r.elements ++ rules (k + 1) h.later in
    let x = renamed (text_of s) h.r in
    omega (arith, length-append B (front x ++ L), length-append (front x) L, front_long x, front_long h.r, ap length h.is, length-append B (front h.r ++ L), length-append (front h.r) L, length-take-le n d w, ee, el, text_size_lem s t, ap length (text_is s bs t))

-- ---- what the code does: rule k is renamed s
module _ (edition k : ℕ) (f : Site) (s d : List ℕ) where
  pub rename_absent : f.rules ≤ k → Makes edition (λ rs. k) f (rename k s) d (Err (At Fault.Absent 0)) d
  unfolding Makes edited
  rename_absent l p v rs x o = made_no v f.bytes d (no_rule rs k _ (omega (arith, o.many)))

  pub rename_text : k < f.rules → is_text s ≡ false → Makes edition (λ rs. k) f (rename k s) d (Err (At Fault.Text 0)) d
  unfolding Makes edited
  rename_text l t p v rs x o = go (here p v (take f.bytes d) rs k o.sound (omega (arith, o.many)))
    where
      go : Here p v (take f.bytes d) rs k → Does v f.bytes (edited p (rename k s) rs) d (Err (At Fault.Text 0)) d
      go h = made_no v f.bytes d (at_rule_lem rs k _ h.from ∙ no_text s _ t)

  -- of a rule of a sound deck
  module _ (p : Product) (v : ℕ) (rs : List Rule) (o : Sits (λ rs. k) f d p v rs) (h : Here p v (take f.bytes d) rs k) where
    -- the edited list
    abbrev edits : List Rule
    edits = take k rs ++ (renamed (text_of s) h.r ∷ h.later)

    becomes : is_text s ≡ true → edited p (rename k s) rs ≡ become edits
    becomes t = renamed_shortest p rs k h.from s t

    many : f.rules ≡ length edits
    many = o.many ∙ sym (replaced_long rs h.later k h.r (renamed (text_of s) h.r) h.from)

    is_here : k < length rs → lead v rs ++ rules 0 edits ≡ before v rs k ++ (front (renamed (text_of s) h.r) ++ (back k h.r.elements ++ rules (k + 1) h.later))
    is_here l = rules_here v rs h.later k (renamed (text_of s) h.r) l

    ends_there : {e : ℕ} → e ≡ name_end d f.start → e ≡ enabled_at f.start h.r
    ends_there g = rw o.starts (rw o.starts at g ∙ name_ends f.bytes d h)

    is_long : {e len : ℕ} → Bytes s → is_text s ≡ true → e ≡ name_end d f.start → len ≡ text_size s
        → length (before v rs k ++ (front (renamed (text_of s) h.r) ++ (back k h.r.elements ++ rules (k + 1) h.later))) ≡ f.bytes - (e - (f.start + 4)) + len
    is_long bs t ee el = renamed_long d f.bytes s p v rs k h o.within bs t o.starts (ends_there ee) el

    -- the length of the rules with what stands before them, and of their deck
    is_n : {e len n : ℕ} → k < length rs → Bytes s → is_text s ≡ true → e ≡ name_end d f.start → len ≡ text_size s → n ≡ f.bytes - (e - (f.start + 4)) + len → n ≡ length (lead v rs ++ rules 0 edits)
    is_n l bs t ee el en = en ∙ sym (ap length (is_here l) ∙ is_long bs t ee el)

    is_deck : length (lead v rs ++ rules 0 edits) ≡ length (written v edits)
    is_deck = behind_long v rs edits ∙ ap (λ (c : ℕ). base_of v c + length (rules 0 edits)) (sym o.many ∙ many) ∙ sym (written_long v edits)

  -- its name ends at e; q is what 18, 19 and 20 were judged as
  module _ {e len n : ℕ} {q : Outcome} where
    pub rename_out : {r : Outcome} {why : Refusal} → k < f.rules → Bytes s → is_text s ≡ true → e ≡ name_end d f.start → len ≡ text_size s → n ≡ f.bytes - (e - (f.start + 4)) + len → q ≡ room_for f.rules n (length d) → q ≡ Err why → r ≡ Err why → Makes edition (λ rs. k) f (rename k s) d r d
    unfolding Makes
    rename_out {r = r} l bs t ee el en j x y p v rs i o = go (here p v (take f.bytes d) rs k o.sound (omega (arith, o.many)))
      where
        go : Here p v (take f.bytes d) rs k → Does v f.bytes (edited p (rename k s) rs) d r d
        go h = made_out v f.bytes d (becomes p v rs o h t) j x y (many p v rs o h) (is_n p v rs o h (omega (arith, o.many)) bs t ee el en ∙ is_deck p v rs o h)

    pub rename_done : {z y : List ℕ} (u : List ℕ) (r : ℕ) {w : ℕ} → k < f.rules → Bytes s → is_text s ≡ true → e ≡ name_end d f.start → len ≡ text_size s → n ≡ f.bytes - (e - (f.start + 4)) + len → q ≡ room_for f.rules n (length d) → q ≡ Ok w
        → z ≡ opened d f.bytes (f.start + 4) e len → y ≡ put_in z (f.start + 4) (text_bytes s) → Finishes f f.rules n y r u → Makes edition (λ rs. k) f (rename k s) d q u
    unfolding Makes Handed
    rename_done {z} {y} u r l bs t ee el en j x ez ey fin p v rs i o = go (here p v (take f.bytes d) rs k o.sound (omega (arith, o.many)))
      where
        handed : Bytes s → Handed (rename k s)
        handed b = b

        go : Here p v (take f.bytes d) rs k → Does v f.bytes (edited p (rename k s) rs) d q u
        go h =
            let b = becomes p v rs o h t in
            let ln = is_n p v rs o h (omega (arith, o.many)) bs t ee el en in
            let y' = renamed_holds d f.bytes s p v rs k h o.within bs t o.starts (ends_there p v rs o h ee) el (omega (arith, (roomy f.rules n (length d) j x).inside)) ez ey in
            made_finish f f.rules n n d p v rs o r (edited_fits p rs (fits_deck p (deck_of v rs) o.sound.fit) (rename k s) _ (handed bs) b) j x fin (rw (← en, ← is_here p v rs o h (omega (arith, o.many))) at y') ln (omega arith) b (many p v rs o h) (ln ∙ is_deck p v rs o h)

-- A rule added at the end: its bytes behind the deck, and the number of rules written over.
use Prim.Native.Nat.{ℕ, ◌+◌, ◌^◌, ◌≤◌, ◌<◌, max}
use native.Mathlib.Omega.{arith}
use Rattle.std.specs.Prelude.{◌≡◌, true, false, Ok, Err}
use Rattle.std.proofs.Math.Path.{refl, ap}
use Rattle.std.proofs.Common.{sym, ◌∙◌, length-take-le}
use mathlib.Core.List.{List, [], ◌∷◌, ◌++◌, append_assoc, append-nil}
use Rattle.std.proofs.Math.ListN.{length, take, length-append}
use Rattle.std.proofs.Math.Seq.{take_all}
use Rattle.format.specs.declared.Fault.{Fault}
use Rattle.format.specs.Answers.{Outcome}
use Rattle.format.specs.Laws.Answers.{Read}
use Rattle.format.specs.declared.Refusal.{Refusal}
use Rattle.format.specs.declared.Refusal.TheVariants.{At}
use Rattle.format.specs.Fault.{in_given}
use Rattle.format.specs.Laws.Fault.{given_ok}
use Rattle.format.specs.Format.{Bytes}
use Rattle.format.specs.ReadWrite.{spelt, bit, each_write}
use Rattle.format.specs.Laws.ReadWrite.{length_spelt, length_before}
use Rattle.format.specs.Laws.Seen.{told, none, told_got}
use Rattle.text.specs.Text.{string}
use Rattle.kind.specs.declared.Product.{Product}
use Rattle.kind.specs.declared.Product.TheVariants.{Studio}
use Rattle.element.specs.Element.{Element}
use Rattle.rule.specs.declared.Fields.{Fields}
use Rattle.rule.specs.Rule.{Rule, placed}
use Rattle.rule.specs.Laws.Parts.{kept, front, back, head_bytes, inner, size_of}
use Rattle.deck.specs.Deck.{wide}
use Rattle.deck.specs.Written.{deck_of, written}
use Rattle.deck.specs.Laws.Written.{lead, before, before_is, written_is, written_one_more, rules, rules_cons}
use Rattle.buffer.specs.Laid.{put_in}
use Rattle.buffer.specs.Laws.Laid.{put_both}
use Rattle.buffer.specs.Laws.Holds.{Holds, holds_behind}
use Rattle.locate.specs.Laws.Located.{last_of}
use Rattle.spot.specs.declared.Site.{Site}
use Rattle.given.specs.Given.{is_text, text_of, given}
use Rattle.given.specs.Laws.Element.{first_written}
use Rattle.plan.specs.Edit.{become, add_rule, edited, new_rule}
use Rattle.plan.specs.Laws.Found.{MakesAs, Does, Sits}
use Rattle.plan.specs.Handed.{HandedFields}
use Rattle.plan.specs.Laws.Fits.{Every, every_append, Fits, fits_deck}
use Rattle.plan.specs.Laws.Given.{text_fits, given_fits}
use Rattle.plan.specs.Laws.Kept.{new_fits}
use Rattle.plan.specs.Laws.Finish.{Finishes, made_finish}
use Rattle.plan.specs.Laws.Last.{rules_none}
use Rattle.room.specs.Room.{room_for}
use Rattle.room.specs.Laws.Room.{roomy}
use Rattle.plan.specs.Laws.Makes.{if_text_lem, no_text, at_given_lem, no_given, given_no, made_no, made_given, made_out}
use Rattle.parts.specs.Laws.Text.{text_bytes, text_size, text_size_lem, text_is}

-- ---- the bytes of a new rule

-- Enabled and Unknown2 to Unknown5
unfoldable pub kept_bytes : Fields → List ℕ
kept_bytes f = spelt 4 (bit f.on) ++ (spelt 4 f.unknown2 ++ (spelt 4 f.unknown3 ++ (spelt 4 f.unknown4 ++ spelt 4 f.unknown5)))

-- signature, name, the kept fields
unfoldable pub front_bytes : List ℕ → Fields → List ℕ
front_bytes name f = spelt 4 f.signature ++ (text_bytes name ++ kept_bytes f)

-- Data Size, the number of elements, the head, the only element
unfoldable pub back_bytes : ℕ → ℕ → List ℕ → List ℕ
back_bytes i id s = spelt 4 (6 + length (head_bytes i) + length s) ++ (spelt 2 1 ++ (head_bytes i ++ (spelt 4 id ++ s)))

kept_size : (f : Fields) → length (kept_bytes f) ≡ 20
unfolding kept_bytes
kept_size f = simp (length-append, length_spelt)

front_size : (name : List ℕ) (f : Fields) → length (front_bytes name f) ≡ 24 + length (text_bytes name)
unfolding front_bytes
front_size name f = omega (arith, length_before 4 f.signature (text_bytes name ++ kept_bytes f), length-append (text_bytes name) (kept_bytes f), kept_size f)

back_size : (i id : ℕ) (s : List ℕ) → length (back_bytes i id s) ≡ 10 + length (head_bytes i) + length s
unfolding back_bytes
back_size i id s =
    omega (arith, length_before 4 (6 + length (head_bytes i) + length s) (spelt 2 1 ++ (head_bytes i ++ (spelt 4 id ++ s))), length_before 2 1 (head_bytes i ++ (spelt 4 id ++ s)), length-append (head_bytes i) (spelt 4 id ++ s), length_before 4 id s)

-- they are the parts of the rule as it is written
front_is : (name : List ℕ) (f : Fields) (x : Element) → text_bytes name ≡ string.write (text_of name) → front (new_rule (text_of name) f x) ≡ front_bytes name f
unfolding front kept front_bytes kept_bytes
front_is name f x e = rw (← e)

back_is : (i id : ℕ) (s : List ℕ) (x : Element) → (placed Studio 0).write x ≡ spelt 4 id ++ s → back i (x ∷ []) ≡ back_bytes i id s
unfolding back size_of inner each_write back_bytes
back_is i id s x e =
    let l : 2 + (length (head_bytes i) + length (spelt 4 id ++ s)) ≡ 6 + length (head_bytes i) + length s = omega (arith, length_before 4 id s) in
    rw (append-nil, e, l)

-- ---- as the code puts them

module _ (d : List ℕ) (at : ℕ) where
  pub kept_put : (f : Fields) {y₁ y₂ y₃ y₄ y₅ : List ℕ} → y₁ ≡ put_in d at (spelt 4 (bit f.on)) → y₂ ≡ put_in y₁ (at + 4) (spelt 4 f.unknown2) → y₃ ≡ put_in y₂ (at + 8) (spelt 4 f.unknown3) → y₄ ≡ put_in y₃ (at + 12) (spelt 4 f.unknown4) → y₅ ≡ put_in y₄ (at + 16) (spelt 4 f.unknown5)
      → at + 20 ≤ length d → y₅ ≡ put_in d at (kept_bytes f)
  unfolding kept_bytes
  kept_put f e₁ e₂ e₃ e₄ e₅ h =
      let a = spelt 4 (bit f.on) in
      let b = spelt 4 f.unknown2 in
      let c = spelt 4 f.unknown3 in
      let g = spelt 4 f.unknown4 in
      let i = spelt 4 f.unknown5 in
      let la = length_spelt 4 (bit f.on) in
      let lb = length_spelt 4 f.unknown2 in
      let lc = length_spelt 4 f.unknown3 in
      let lg = length_spelt 4 f.unknown4 in
      let li = length_spelt 4 f.unknown5 in
      let l₂ = length-append a b in
      let l₃ = length-append (a ++ b) c in
      let l₄ = length-append ((a ++ b) ++ c) g in
      let w₂ = put_both d at a b e₁ e₂ (omega arith) (omega arith) in
      let w₃ = put_both d at (a ++ b) c w₂ e₃ (omega arith) (omega arith) in
      let w₄ = put_both d at ((a ++ b) ++ c) g w₃ e₄ (omega arith) (omega arith) in
      put_both d at (((a ++ b) ++ c) ++ g) i w₄ e₅ (omega arith) (omega arith) ∙ ap (put_in d at) (simp append_assoc)

  pub front_put : (name : List ℕ) (f : Fields) {size : ℕ} {y₁ y₂ y₃ : List ℕ} → y₁ ≡ put_in d at (spelt 4 f.signature) → y₂ ≡ put_in y₁ (at + 4) (text_bytes name) → size ≡ text_size name → y₃ ≡ put_in y₂ (at + 4 + size) (kept_bytes f)
      → is_text name ≡ true → at + 24 + length (text_bytes name) ≤ length d → y₃ ≡ put_in d at (front_bytes name f)
  unfolding front_bytes
  front_put name f e₁ e₂ z e₃ t h =
      let a = spelt 4 f.signature in
      let la = length_spelt 4 f.signature in
      let lb = text_size_lem name t in
      let lc = kept_size f in
      let l₂ = length-append a (text_bytes name) in
      let w₂ = put_both d at a (text_bytes name) e₁ e₂ (omega arith) (omega arith) in
      put_both d at (a ++ text_bytes name) (kept_bytes f) w₂ e₃ (omega arith) (omega arith) ∙ ap (put_in d at) (append_assoc a (text_bytes name) (kept_bytes f))

  pub back_put : (i id : ℕ) (s : List ℕ) {head : ℕ} {y₁ y₂ y₃ y₄ : List ℕ} → head ≡ length (head_bytes i) → y₁ ≡ put_in d at (spelt 4 (6 + head + length s)) → y₂ ≡ put_in y₁ (at + 4) (spelt 2 1) → y₃ ≡ put_in y₂ (at + 6) (head_bytes i) → y₄ ≡ put_in y₃ (at + 6 + head) (spelt 4 id ++ s)
      → at + 10 + length (head_bytes i) + length s ≤ length d → y₄ ≡ put_in d at (back_bytes i id s)
  unfolding back_bytes
  back_put i id s {head} z e₁ e₂ e₃ e₄ h =
      let N = 6 + length (head_bytes i) + length s in
      let a = spelt 4 N in
      let b = spelt 2 1 in
      let c = head_bytes i in
      let g = spelt 4 id ++ s in
      let la = length_spelt 4 N in
      let lb = length_spelt 2 1 in
      let li = length_spelt 4 id in
      let lg = length-append (spelt 4 id) s in
      let l₂ = length-append a b in
      let l₃ = length-append (a ++ b) c in
      let w₁ = rw z at e₁ in
      let w₂ = put_both d at a b w₁ e₂ (omega arith) (omega arith) in
      let w₃ = put_both d at (a ++ b) c w₂ e₃ (omega arith) (omega arith) in
      put_both d at ((a ++ b) ++ c) g w₃ e₄ (omega arith) (omega arith) ∙ ap (put_in d at) (simp append_assoc)

-- ---- the deck with the rule

-- the bytes of the whole rule
unfoldable pub new_bytes : ℕ → List ℕ → Fields → ℕ → List ℕ → List ℕ
new_bytes m name f id s = front_bytes name f ++ back_bytes m id s

rule_size : (m : ℕ) (name : List ℕ) (f : Fields) (id : ℕ) (s : List ℕ) → length (new_bytes m name f id s) ≡ 34 + length (text_bytes name) + length (head_bytes m) + length s
unfolding new_bytes
rule_size m name f id s = omega (arith, length-append (front_bytes name f) (back_bytes m id s), front_size name f, back_size m id s)

-- whatever rules the deck that was found has: the rule with this name, these fields and the element x, whose bytes these are, is added
unfoldable pub Extends : Site → List ℕ → Fields → ℕ → List ℕ → List ℕ → Outcome → List ℕ → Type 0
Extends g name f id s d r d' =
    (p : Product) (v : ℕ) (rs : List Rule) (x : Element) → Sits last_of g d p v rs → (HandedFields f → Fits p (new_rule (text_of name) f x)) → (placed Studio 0).write x ≡ spelt 4 id ++ s → text_bytes name ≡ string.write (text_of name) → Does v g.bytes (become (rs ++ (new_rule (text_of name) f x ∷ []))) d r d'

module _ (g : Site) (name : List ℕ) (f : Fields) (id : ℕ) (s d : List ℕ) where
  -- of the deck that is found
  module _ {p : Product} (v : ℕ) (rs : List Rule) (x : Element) (o : Sits last_of g d p v rs) where
    -- the edited list
    abbrev edits : List Rule
    edits = rs ++ (new_rule (text_of name) f x ∷ [])

    one_more : length edits ≡ length rs + 1
    one_more = length-append rs (new_rule (text_of name) f x ∷ [])

    many : g.rules + 1 ≡ length edits
    many = ap (λ (m : ℕ). m + 1) o.many ∙ sym one_more

    added_is : (placed Studio 0).write x ≡ spelt 4 id ++ s → text_bytes name ≡ string.write (text_of name) → lead v rs ++ rules 0 edits ≡ take g.bytes d ++ new_bytes g.rules name f id s
    unfolding before new_bytes
    added_is b t =
        let a : take (length rs) rs ≡ rs = take_all (length rs) rs (omega arith) in
        let i = before_is v rs (length rs) (new_rule (text_of name) f x ∷ []) (omega arith) in
        (rw a at i) ∙ rw (rules_cons, rules_none, append-nil, front_is name f x t, o.many, back_is (length rs) id s x b, o.sound.is, written_is v rs) refl

    added_long : (placed Studio 0).write x ≡ spelt 4 id ++ s → text_bytes name ≡ string.write (text_of name) → length (lead v rs ++ rules 0 edits) ≡ g.bytes + 34 + length (text_bytes name) + length (head_bytes g.rules) + length s
    added_long b t = ap length (added_is b t) ∙ omega (arith, length-append (take g.bytes d) (new_bytes g.rules name f id s), rule_size g.rules name f id s, length-take-le g.bytes d o.within)

    added_fits : Fits p (new_rule (text_of name) f x) → Every (Fits p) edits
    unfolding Every
    added_fits w = every_append (Fits p) rs (new_rule (text_of name) f x ∷ []) (fits_deck p (deck_of v rs) o.sound.fit) (w, tt)

  added_holds : {at : ℕ} {y₁ y₂ : List ℕ} → at ≡ g.bytes + 24 + length (text_bytes name) → g.bytes + 34 + length (text_bytes name) + length (head_bytes g.rules) + length s ≤ length d → y₁ ≡ put_in d g.bytes (front_bytes name f) → y₂ ≡ put_in y₁ at (back_bytes g.rules id s)
      → Holds y₂ (take g.bytes d ++ new_bytes g.rules name f id s) (g.bytes + length (new_bytes g.rules name f id s)) d
  unfolding new_bytes
  added_holds {at} {y₁} {y₂} ea l e₁ e₂ =
      let F = front_bytes name f in
      let K = back_bytes g.rules id s in
      let lr = rule_size g.rules name f id s in
      let lf = front_size name f in
      let lk = back_size g.rules id s in
      let e₂' : y₂ ≡ put_in d g.bytes (F ++ K) = put_both d g.bytes F K e₁ e₂ (omega arith) (omega arith) in
      holds_behind d g.bytes (F ++ K) (omega arith) e₂'

  -- size is what a String of the name takes, head the head of the rule, w an offset; q is what 18, 19 and 20 were judged as
  module _ {size head w : ℕ} {q : Outcome} where
    pub extend_out : {r : Outcome} {why : Refusal} → is_text name ≡ true → size ≡ text_size name → head ≡ length (head_bytes g.rules) → w ≡ wide g.version → q ≡ room_for (g.rules + 1) (g.bytes + 24 + size + 10 + head + length s + w) (length d) → q ≡ Err why → r ≡ Err why → Extends g name f id s d r d
    unfolding Extends
    extend_out it z hz ew j h er p v rs x o fx b t =
        let lt = text_size_lem name it in
        let al = added_long v rs x o b t in
        let y : w ≡ wide v = ew ∙ ap wide o.version in
        let e : g.bytes + 24 + size + 10 + head + length s + w ≡ length (written v (edits v rs x o)) = omega (arith, al, written_one_more v rs (edits v rs x o) (one_more v rs x o), lt, y, z, hz) in
        made_out v g.bytes d refl j h er (many v rs x o) e

    pub extend_done : {y₁ y₂ : List ℕ} (y₃ : List ℕ) (r : ℕ) {u : ℕ} → HandedFields f → is_text name ≡ true → size ≡ text_size name → head ≡ length (head_bytes g.rules) → w ≡ wide g.version → q ≡ room_for (g.rules + 1) (g.bytes + 24 + size + 10 + head + length s + w) (length d) → q ≡ Ok u
        → y₁ ≡ put_in d g.bytes (front_bytes name f) → y₂ ≡ put_in y₁ (g.bytes + 24 + size) (back_bytes g.rules id s) → Finishes g (g.rules + 1) (g.bytes + 24 + size + 10 + head + length s) y₂ r y₃ → Extends g name f id s d q y₃
    unfolding Extends
    extend_done y₃ r hf it z hz ew j h e₁ e₂ fin p v rs x o fx b t =
        let n = g.bytes + 24 + size + 10 + head + length s in
        let lt = text_size_lem name it in
        let al = added_long v rs x o b t in
        let lr = rule_size g.rules name f id s in
        let l = (roomy (g.rules + 1) (n + w) (length d) j h).inside in
        let y : w ≡ wide v = ew ∙ ap wide o.version in
        let hi : g.bytes + length (new_bytes g.rules name f id s) ≡ max g.bytes n = omega arith in
        let en : n ≡ length (lead v rs ++ rules 0 (edits v rs x o)) = omega arith in
        let e : n + w ≡ length (written v (edits v rs x o)) = omega (arith, en, written_one_more v rs (edits v rs x o) (one_more v rs x o), y) in
        made_finish g (g.rules + 1) n (n + w) d p v rs o r (added_fits v rs x o (fx hf)) j h fin (rw (hi, ← added_is v rs x o b t) at (added_holds (omega arith) (omega arith) e₁ e₂)) en (omega arith) refl (many v rs x o) e

-- ---- what is judged before

module _ (p : Product) (g : Site) (name : List ℕ) (f : Fields) (id : ℕ) (s d : List ℕ) where
  pub rule_text : is_text name ≡ false → MakesAs p last_of g (add_rule name f id s) d (Err (At Fault.Text 0)) d
  unfolding MakesAs edited
  rule_text e v rs o = made_no v g.bytes d (no_text name _ e)

  module _ {t : Read} where
    pub rule_given : {i : Read} {r : Outcome} {why : Refusal} → is_text name ≡ true → t ≡ told 0 none (given p id s) → i ≡ in_given t → i ≡ Err why → r ≡ Err why → MakesAs p last_of g (add_rule name f id s) d r d
    unfolding MakesAs edited
    rule_given e a ei h er v rs o =
        let u = given_no (given p id s) a ei h in
        let y = made_given v g.bytes d (if_text_lem name _ e ∙ no_given _ u.is) in
        (er ∙ ap Err u.ends ∙ y.0, y.1)

    pub rule_done : (r : Outcome) (d' : List ℕ) {i : Read} {w l : ℕ} → id < 256 ^ 4 → Bytes name → Bytes s → is_text name ≡ true → t ≡ told 0 none (given p id s) → i ≡ in_given t → i ≡ Ok (l, w) → Extends g name f id s d r d' → MakesAs p last_of g (add_rule name f id s) d r d'
    unfolding MakesAs edited Extends
    rule_done r d' hi bn bs e a ei h x v rs o =
        let u = told_got 0 none (given p id s) a (given_ok t ei h) in
        rw (if_text_lem name _ e, at_given_lem _ u.is) (x p v rs u.x o (λ hf. new_fits p (text_of name) f u.x hf (text_fits name bn e) (given_fits p id s u.x u.n hi bs u.is)) (first_written p Studio id s u.x u.n bs u.is) (text_is name bn e))

-- A rule removed: it gives way to nothing; the rule that becomes the first gets the long head, and 16 more in its Data Size.
use Prim.Native.Nat.{ℕ, zero, suc, ◌+◌, ◌-◌, ◌≤◌, ◌<◌, ◌^◌, max}
use native.Mathlib.Omega.{arith}
use Rattle.std.specs.Prelude.{◌≡◌, List, [], ◌∷◌, ◌++◌, drop, Ok, Err}
use Rattle.std.proofs.Math.Path.{refl, sym, ap}
use Rattle.std.proofs.Common.{◌∙◌, append_assoc, length-append, length-drop}
use Rattle.std.proofs.Math.ListN.{length, take}
use Rattle.std.proofs.Math.Seq.{length-take-le}
use Rattle.format.specs.declared.Fault.{Fault}
use Rattle.format.specs.Answers.{Outcome}
use Rattle.format.specs.Laws.Answers.{Read}
use Rattle.spot.specs.Laws.Answers.{Spot}
use Rattle.format.specs.declared.Refusal.{Refusal}
use Rattle.format.specs.declared.Refusal.TheVariants.{At}
use Rattle.format.specs.Format.{Bytes}
use Rattle.format.specs.ReadWrite.{spelt, each_write}
use Rattle.format.specs.Laws.ReadWrite.{length_spelt}
use Rattle.format.specs.Combinators.{number}
use Rattle.format.specs.Laws.Seen.{seen, itself, unlike}
use Rattle.format.specs.Laws.Back.{seen_fits}
use Rattle.format.specs.Laws.Written.{Held}
use Rattle.format.specs.Row.{start_in}
use Rattle.kind.specs.declared.Product.{Product}
use Rattle.element.specs.Element.{Element}
use Rattle.rule.specs.Rule.{Rule, rule}
use Rattle.rule.specs.Places.{enabled_at}
use Rattle.rule.specs.Laws.Parts.{front, front_long, back, back_long, size_of, head_bytes, inner}
use Rattle.deck.specs.Deck.{base_of}
use Rattle.deck.specs.Written.{deck_of, written, start_of}
use Rattle.deck.specs.Laws.Written.{lead, lead_long, written_less, before, before_is, rules, rules_cons, rules_later, start_first}
use Rattle.buffer.specs.Laid.{put_in}
use Rattle.buffer.specs.Laws.Laid.{opened, moved, down}
use Rattle.buffer.specs.Laws.Holds.{Holds, Gap, holds_start, holds_put, holds_down, holds_open, holds_fill}
use Rattle.spot.specs.declared.Site.{Site}
use Rattle.steps.specs.Laws.Steps.{Here, here, name_read, name_end, name_end_lem, size_read, size_is}
use Rattle.plan.specs.Edit.{remove, edited, become}
use Rattle.plan.specs.Laws.Found.{Makes, Does, Sits, sits_within, found, ground}
use Rattle.plan.specs.Laws.Handed.{hand_remove}
use Rattle.plan.specs.Laws.Fits.{fits_deck}
use Rattle.plan.specs.Laws.Kept.{edited_fits}
use Rattle.plan.specs.Laws.Finish.{Finishes, made_finished}
use Rattle.plan.specs.Laws.Makes.{here_in, name_ends, name_there, at_rule_lem, no_rule, made_no}
use Rattle.head.specs.Laws.Head.{head_long, head_short}

-- ---- a rule that is not the first, or is the only one

-- a gap of no bytes
shut : (P R : List ℕ) {y d : List ℕ} {hi : ℕ} → Gap y (λ G. P ++ (G ++ R)) 0 hi d → Holds y (P ++ R) hi d
shut P R {y} {d} {hi} g = go g.bytes g.long g.holds
  where
    go : (G : List ℕ) → length G ≡ 0 → Holds y (P ++ (G ++ R)) hi d → Holds y (P ++ R) hi d
    go [] l h = h
    go (x ∷ G) l h = absurd (omega arith)

-- the rules behind it are written alike one place before
behind_same : (k : ℕ) (later : List Rule) → (k ≡ 0 → length later ≡ 0) → rules (k + 1) later ≡ rules k later
unfolding rules each_write
behind_same k [] h = refl
behind_same zero (r ∷ later) h = absurd (omega (arith, h refl))
behind_same (suc k) (r ∷ later) h = rules_later (suc k + 1) (suc k) (r ∷ later) (omega arith) (omega arith)

-- one rule less
less : (rs later : List Rule) (k : ℕ) (r : Rule) → drop k rs ≡ r ∷ later → k < length rs → (length later ≡ length rs - (k + 1)) × (length (take k rs ++ later) ≡ length rs - 1)
less rs later k r e l =
    let t : length (take k rs) ≡ k = length-take-le k rs (omega arith) in
    let g : length later ≡ length rs - (k + 1) = omega (arith, ap length e, length-drop k rs) in
    (g, omega (arith, length-append (take k rs) later))

-- the rule gives way to nothing
module _ (d : List ℕ) (n : ℕ) (p : Product) (v : ℕ) (rs : List Rule) (k : ℕ) (h : Here p v (take n d) rs k) where
  removed_holds : {a b : ℕ} {z : List ℕ} → n ≤ length d → a ≡ start_of v rs k → b ≡ start_of v rs (k + 1) → z ≡ opened d n a b 0 → Holds z (before v rs k ++ rules (k + 1) h.later) (max n (n - (b - a) + 0)) d
  removed_holds {a} {b} w ea eb ez =
      let r = h.r in
      let B = before v rs k in
      let Q = front r ++ back k r.elements in
      let R = rules (k + 1) h.later in
      let i : take n d ≡ B ++ (Q ++ R) = h.is ∙ simp append_assoc in
      let q : a + length Q ≡ b = omega (arith, length-append (front r) (back k r.elements), h.ends) in
      shut B R (holds_open B Q R (holds_start d n w) i (length-take-le n d w) (h.starts ∙ sym ea) q (omega arith) ez)

  removed_long : n ≤ length d → length (before v rs k ++ rules (k + 1) h.later) ≡ n - (start_of v rs (k + 1) - start_of v rs k)
  removed_long w =
      let B = before v rs k in
      let R = rules (k + 1) h.later in
      let u : length (take n d) ≡ length B + (length (front h.r) + (length (back k h.r.elements) + length R)) = ap length h.is ∙ simp length-append in
      omega (arith, u, length-append B R, length-take-le n d w, h.ends, h.starts)

  -- the rules that are left
  removed_is : k < length rs → (k ≡ 0 → length rs ≡ 1) → lead v rs ++ rules 0 (take k rs ++ h.later) ≡ before v rs k ++ rules (k + 1) h.later
  removed_is l only =
      let c = less rs h.later k h.r h.from l in
      before_is v rs k h.later (omega arith) ∙ ap (λ (t : List ℕ). before v rs k ++ t) (sym (behind_same k h.later (λ z. omega (arith, c.0, only z))))

module _ (edition k : ℕ) (f : Site) (d : List ℕ) where
  pub remove_absent : f.rules ≤ k → Makes edition (λ rs. k) f (remove k) d (Err (At Fault.Absent 0)) d
  unfolding Makes edited
  remove_absent l p v rs x o = made_no v f.bytes d (no_rule rs k _ (omega (arith, o.many)))

  pub remove_other : {z : List ℕ} (r : ℕ) (y : List ℕ) → k < f.rules → (k ≡ 0 → f.rules ≡ 1) → z ≡ opened d f.bytes f.start f.end 0 → Finishes f (f.rules - 1) (f.bytes - (f.end - f.start)) z r y → Makes edition (λ rs. k) f (remove k) d (Ok r) y
  unfolding Makes edited
  remove_other {z} r y l only ez fin p v rs x o = go (here p v (take f.bytes d) rs k o.sound (omega (arith, o.many)))
    where
      go : Here p v (take f.bytes d) rs k → Does v f.bytes (edited p (remove k) rs) d (Ok r) y
      go h =
          let n = f.bytes - (f.end - f.start) in
          let xs = take k rs ++ h.later in
          let c = less rs h.later k h.r h.from (omega (arith, o.many)) in
          let b = sits_within f d o in
          let i = removed_is d f.bytes p v rs k h (omega (arith, o.many)) (λ e. sym o.many ∙ only e) in
          let en : n ≡ length (lead v rs ++ rules 0 xs) = rw (o.starts, o.ends) (sym (ap length i ∙ removed_long d f.bytes p v rs k h o.within)) in
          let hi : max f.bytes (n + 0) ≡ max f.bytes n = omega arith in
          let s = written_less v rs xs (omega (arith, c.1)) in
          (made_finished f (f.rules - 1) n (length (written v xs)) d p v rs o r (edited_fits p rs (fits_deck p (deck_of v rs) o.sound.fit) (remove k) xs (hand_remove k) (at_rule_lem rs k _ h.from)) (record { few = omega (arith, b.few); short = omega (arith, s, en, b.short); inside = omega (arith, s, en, b.room) }) fin
          (rw (hi, ← i) at (removed_holds d f.bytes p v rs k h o.within o.starts o.ends ez)) en (omega arith) (at_rule_lem rs k _ h.from) (omega (arith, o.many, c.1)) refl).1

-- ---- the first rule of several

-- the bounds of the rule behind it, whose name ends at e
pub record Second (f : Site) (e : ℕ) (d : List ℕ) : Type 0 where
  pub many : 1 < f.rules
  pub wide : f.base + 16 ≤ f.end
  pub order : f.end + 4 ≤ e
  pub inside : e + 28 ≤ f.bytes
  pub room : f.bytes ≤ length d
  pub short : f.bytes ≤ 60000

-- the rule from b on, whose head stands at h, moves to base and gets the long head, and a Data Size to match
unfoldable pub led : List ℕ → ℕ → ℕ → ℕ → ℕ → ℕ → List ℕ
led d n base b h size =
    put_in (put_in (opened (moved (down (b - base)) base h d) n (h - (b - base)) (h + 2) 18) (h - (b - base)) (head_bytes 0)) (h - (b - base) - 6) (spelt 4 (size + 16))

-- M moved over X, and H behind it with what is left given way to a longer H'
opened_holds : (P X M H T : List ℕ) {d z y : List ℕ} {n base by hh : ℕ} → Gap y (λ G. P ++ (M ++ (G ++ (H ++ T)))) by n d → length P ≡ base → length H ≡ 2 → 16 ≤ by → base + by + length M ≡ hh → base + by + length M + 2 + length T ≡ n
    → z ≡ opened y n (hh - by) (hh + 2) 18 → Gap z (λ G. (P ++ M) ++ (G ++ T)) 18 (max n (n - (hh + 2 - (hh - by)) + 18)) d
opened_holds P X M H T {d} {z} {y} {n} {base} {by} {hh} g p q wide ends all ez = go g.bytes g.long g.holds
  where
    go : (G : List ℕ) → length G ≡ by → Holds y (P ++ (M ++ (G ++ (H ++ T)))) n d → Gap z (λ G. (P ++ M) ++ (G ++ T)) 18 (max n (n - (hh + 2 - (hh - by)) + 18)) d
    go G l h =
        let L : length (P ++ (M ++ (G ++ (H ++ T)))) ≡ n = omega (arith, length-append P (M ++ (G ++ (H ++ T))), length-append M (G ++ (H ++ T)), length-append G (H ++ T), length-append H T) in
        holds_open (P ++ M) (G ++ H) T h (simp append_assoc) L (omega (arith, length-append P M)) (omega (arith, length-append P M, length-append G H)) (omega (arith, h.room)) ez

led_holds : (size : ℕ) (P X F S C H T : List ℕ) {d y : List ℕ} {n base b hh : ℕ} → n ≤ length d → take n d ≡ P ++ (X ++ ((F ++ (S ++ C)) ++ (H ++ T)))
    → length P ≡ base → length S ≡ 4 → length C ≡ 2 → length H ≡ 2 → base + length X ≡ b → base + 16 ≤ b → b + length F + 6 ≡ hh → y ≡ led d n base b hh size
    → Holds y (P ++ (F ++ (spelt 4 (size + 16) ++ (C ++ (head_bytes 0 ++ T))))) (max n (n - (hh + 2 - (hh - (b - base))) + 18)) d
unfolding led
led_holds size P X F S C H T {d} {y} {n} {base} {b} {hh} w i p ls lc lh lx wide ends ey =
    let M = F ++ (S ++ C) in
    let lm : length M ≡ length F + 6 = omega (arith, length-append F (S ++ C), length-append S C) in
    let all : base + (b - base) + length M + 2 + length T ≡ n = omega (arith, length-take-le n d w, ap length i, length-append P (X ++ (M ++ (H ++ T))), length-append X (M ++ (H ++ T)), length-append M (H ++ T), length-append H T) in
    let g = holds_down P X M (H ++ T) {by = b - base} {e = hh} (holds_start d n w) i p (omega arith) (omega arith) refl in
    let f = holds_fill (P ++ M) T (head_bytes 0) {at = hh - (b - base)} (opened_holds P X M H T {hh = hh} g p lh (omega arith) (omega arith) all refl) (omega (arith, length-append P M)) (sym head_long) refl in
    let q : P ++ (F ++ (spelt 4 (size + 16) ++ (C ++ (head_bytes 0 ++ T)))) ≡ (P ++ F) ++ (spelt 4 (size + 16) ++ (C ++ (head_bytes 0 ++ T))) = simp append_assoc in
    rw q (holds_put (P ++ F) S (C ++ (head_bytes 0 ++ T)) (spelt 4 (size + 16)) {at = hh - (b - base) - 6} f (simp append_assoc) (omega (arith, length-append P F)) (ls ∙ sym (length_spelt 4 (size + 16))) ey)

-- Data Size at the first place
size_first : (xs : List Element) → size_of 1 xs + 16 ≡ size_of 0 xs
unfolding size_of
size_first xs = omega (arith, head_long, head_short 1 (omega arith))

-- the rules that it leaves
abbrev led_rules : Rule → List Rule → List ℕ
led_rules r later = front r ++ (spelt 4 (size_of 1 r.elements + 16) ++ (spelt 2 (length r.elements) ++ (head_bytes 0 ++ (inner r.elements ++ rules (1 + 1) later))))

led_written : (r : Rule) (later : List Rule) → rules 0 (r ∷ later) ≡ led_rules r later
unfolding back
led_written r later = rw size_first (rules_cons 0 r later ∙ rw (rules_later (0 + 1) (1 + 1) later (omega arith) (omega arith)) (simp append_assoc))

-- how long that is
led_sum : (n by h : ℕ) → by ≤ h → h + 2 ≤ n → n - (h + 2 - (h - by)) + 18 ≡ n - by + 16
led_sum n by h l m = let e : h + 2 - (h - by) ≡ by + 2 = omega arith in rw e (omega arith)

first_less : (n base b : ℕ) → base + 16 ≤ b → b ≤ n → n - (b - base) + 16 ≤ n
first_less n base b l m = omega arith

within : {a b c e : ℕ} → a ≤ b → c ≡ b → c ≤ e → a ≤ e
within l m n = omega arith

under : {n a : ℕ} (b : ℕ) → n ≤ a → n ≤ max a b
under b l = omega arith

-- the rule behind the first
second : (rs later later' : List Rule) (r r' : Rule) → drop 0 rs ≡ r ∷ later → drop 1 rs ≡ r' ∷ later' → later ≡ r' ∷ later'
second [] later later' r r' e f = absurd (let z : ◌≡◌ {A = ℕ} 0 1 = cc in omega arith)
second (x ∷ rs) later later' r r' e f = let z : rs ≡ later = cc in sym z ∙ f

-- a number that was read of four bytes
pub size_bound : (s : List ℕ) (at : ℕ) {z : Read} {v q : ℕ} → Bytes s → z ≡ seen itself (number 4) s at → z ≡ Ok (q, v) → v < 256 ^ 4
unfolding number
size_bound s at bs e h = let o = seen_fits itself (number 4) s at bs e h in rw o.1.1 o.1.0

-- of the deck that is found
module _ (d : List ℕ) (n : ℕ) (p : Product) (v : ℕ) (rs : List Rule) (h : Here p v (take n d) rs 1) where
  first_holds : {base b e size : ℕ} {y : List ℕ} → n ≤ length d → base ≡ base_of v (length rs) → b ≡ start_of v rs 1 → base + 16 ≤ b → e ≡ enabled_at b h.r → size ≡ size_of 1 h.r.elements
      → y ≡ led d n base b (e + 26) size → Holds y (lead v rs ++ led_rules h.r h.later) (max n (n - (e + 26 + 2 - (e + 26 - (b - base))) + 18)) d
  unfolding before back start_of start_in rules
  first_holds {base} {b} {e} {size} w eo eb wide ee es ey =
      let r = h.r in
      rw (← es) (led_holds size (lead v rs) (rules 0 (take 1 rs)) (front r) (spelt 4 (size_of 1 r.elements)) (spelt 2 (length r.elements)) (head_bytes 1) (inner r.elements ++ rules (1 + 1) h.later)
      w (h.is ∙ simp append_assoc) (lead_long v rs ∙ sym eo) (length_spelt 4 (size_of 1 r.elements)) (length_spelt 2 (length r.elements)) (head_short 1 (omega arith)) (omega arith) wide (omega (arith, front_long r)) ey)

  first_long : n ≤ length d → length (lead v rs ++ led_rules h.r h.later) ≡ n - (start_of v rs 1 - base_of v (length rs)) + 16
  unfolding size_of start_of start_in rules
  first_long w =
      let F = front h.r in
      let I = inner h.r.elements in
      let L = rules (1 + 1) h.later in
      let u : length (lead v rs ++ led_rules h.r h.later) ≡ base_of v (length rs) + (length F + (4 + (2 + (18 + (length I + length L))))) = simp (length-append, length_spelt, lead_long, head_long) in
      let t : length (take n d) ≡ start_of v rs 1 + (length F + (length (back 1 h.r.elements) + length L)) = ap length h.is ∙ simp (length-append, h.starts) in
      omega (arith, u, t, length-take-le n d w, back_long 1 h.r.elements, head_short 1 (omega arith))

-- as the code does it
pub led_is : (d : List ℕ) (n base b h size : ℕ) {at : ℕ} {y₁ y₂ y₃ y₄ : List ℕ} → at ≡ h - (b - base) → y₁ ≡ moved (down (b - base)) base h d → y₂ ≡ opened y₁ n at (h + 2) 18 → y₃ ≡ put_in y₂ at (head_bytes 0) → y₄ ≡ put_in y₃ (at - 6) (spelt 4 (size + 16)) → y₄ ≡ led d n base b h size
unfolding led
led_is d n base b h size e f g i j = rw (j, i, g, f, e)

-- where the rule behind the first stands
next_bounds : (n : ℕ) (d : List ℕ) (p : Product) (v : ℕ) (rs : List Rule) → Here p v (take n d) rs 0 → (h : Here p v (take n d) rs 1) → n ≤ length d → (base_of v (length rs) + 16 ≤ start_of v rs 1) × (enabled_at (start_of v rs 1) h.r + 28 ≤ n)
unfolding size_of
next_bounds n d p v rs g h w =
    let B = before v rs 1 in
    let x = back 1 h.r.elements in
    let L = rules (1 + 1) h.later in (
      omega (arith, g.ends, start_first v rs, front_long g.r),
      omega (arith, ap length h.is, length-take-le n d w, length-append B (front h.r ++ (x ++ L)), length-append (front h.r) (x ++ L), length-append x L, front_long h.r, back_long 1 h.r.elements, head_short 1 (omega arith), h.starts),
    )

module _ (edition k : ℕ) (f : Site) (e : ℕ) (d : List ℕ) where
  -- the rule behind the first of a sound deck
  module _ (p : Product) (v : ℕ) (rs : List Rule) (o : Sits (λ rs. k) f d p v rs) where
    behind_first : 1 < f.rules → Here p v (take f.bytes d) rs 1
    behind_first l = here p v (take f.bytes d) rs 1 o.sound (omega (arith, o.many))

    starts_there : k ≡ 0 → f.end ≡ start_of v rs 1
    starts_there ek = rw ek at o.ends

    held_there : k ≡ 0 → (h : Here p v (take f.bytes d) rs 1) → Held (rule p 1) d f.end h.r
    held_there ek h = rw (starts_there ek) (here_in f.bytes d h)

    second_bounds : k ≡ 0 → 1 < f.rules → e ≡ name_end d f.end → Second f e d
    second_bounds ek l z =
        let h = behind_first l in
        let i = next_bounds f.bytes d p v rs (here p v (take f.bytes d) rs 0 o.sound (omega (arith, o.many))) h o.within in
        let eb = starts_there ek in
        let j : e ≡ enabled_at (start_of v rs 1) h.r = rw eb at z ∙ name_ends f.bytes d h in
        let b = sits_within f d o in
        record { many = l; wide = omega (arith, i.0, eb, o.base); order = omega (arith, j, eb); inside = omega (arith, i.1, j); room = b.room; short = b.short }

  pub found_next : (n : ℕ) {c : Spot} → Bytes d → c ≡ found (λ rs. k) edition n d → c ≡ Ok f → k ≡ 0 → 1 < f.rules → e ≡ name_end d f.end → Second f e d
  found_next n bs g h ek l z = let y = ground (λ rs. k) edition n d bs g h in second_bounds y.product y.version y.rs y.sits ek l z

  -- the name of the rule behind it can be read, and its Data Size
  pub remove_unnamed : (r : Outcome) (d' : List ℕ) {t : Read} {why : Refusal} → k ≡ 0 → 1 < f.rules → t ≡ name_read d f.end → t ≡ Err why → Makes edition (λ rs. k) f (remove k) d r d'
  unfolding Makes
  remove_unnamed r d' ek l g i p v rs x o = name_there f.bytes d (behind_first p v rs o l) (g ∙ ap (name_read d) (starts_there p v rs o ek)) i

  pub remove_unread : (r : Outcome) (d' : List ℕ) {z : Read} {why : Refusal} → k ≡ 0 → 1 < f.rules → e ≡ name_end d f.end → z ≡ seen itself (number 4) d (e + 20) → z ≡ Err why → Makes edition (λ rs. k) f (remove k) d r d'
  unfolding Makes
  remove_unread r d' ek l ee ez y p v rs x o =
      let h = behind_first p v rs o l in
      unlike (size_read d f.end p 1 h.r (held_there p v rs o ek h) ee ez) y

  pub remove_first : {z : Read} {size q : ℕ} {x : List ℕ} (r : ℕ) (y : List ℕ) → k ≡ 0 → 1 < f.rules → e ≡ name_end d f.end → z ≡ seen itself (number 4) d (e + 20) → z ≡ Ok (q, size) → x ≡ led d f.bytes f.base f.end (e + 26) size
      → Finishes f (f.rules - 1) (f.bytes - (f.end - f.base) + 16) x r y → Makes edition (λ rs. k) f (remove k) d (Ok r) y
  unfolding Makes edited
  remove_first {z} {size} {q} {x} r y ek many ee ez eg ex fin p v rs u o = rw ek (go (here p v (take f.bytes d) rs 0 o.sound (omega (arith, o.many))) (behind_first p v rs o many))
    where
      go : Here p v (take f.bytes d) rs 0 → Here p v (take f.bytes d) rs 1 → Does v f.bytes (edited p (remove 0) rs) d (Ok r) y
      go g h =
          let t = second_bounds p v rs o ek many ee in
          let n = f.bytes - (f.end - f.base) + 16 in
          let l = second rs g.later h.later g.r h.r g.from h.from in
          let c = (less rs g.later 0 g.r g.from (omega (arith, o.many))).0 in
          let k : f.end ≡ start_of v rs 1 = starts_there p v rs o ek in
          let j : e ≡ enabled_at f.end h.r = ee ∙ name_end_lem d f.end p 1 h.r (held_there p v rs o ek h) in
          let w = (size_is d f.end p 1 h.r (held_there p v rs o ek h) ee ez eg).0 in
          let xs = h.r ∷ h.later in
          let i = led_written h.r h.later in
          let en : n ≡ length (lead v rs ++ rules 0 xs) = rw (k, o.base, i) (sym (first_long d f.bytes p v rs h o.within)) in
          let hi = ap (max f.bytes) (led_sum f.bytes (f.end - f.base) (e + 26) (omega (arith, t.order)) (omega (arith, t.inside))) in
          let s = written_less v rs xs (omega (arith, c, ap length l)) in
          let b = sits_within f d o in
          let m = first_less f.bytes f.base f.end t.wide (omega (arith, t.inside, t.order)) in
          let z = within s en m in
          (made_finished f (f.rules - 1) n (length (written v xs)) d p v rs o r (edited_fits p rs (fits_deck p (deck_of v rs) o.sound.fit) (remove 0) xs (hand_remove 0) (at_rule_lem rs 0 _ g.from ∙ ap become l)) (record { few = omega (arith, b.few); short = within z refl t.short; inside = within z refl t.room }) fin
          (rw (hi, ← i) at (first_holds d f.bytes p v rs h o.within o.base k t.wide j w ex)) en (under (length (written v xs)) m) (at_rule_lem rs 0 _ g.from ∙ ap become l) (omega (arith, o.many, c, ap length l)) refl).1

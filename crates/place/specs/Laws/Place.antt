-- A gap for a rule, opened at a place of a deck.
use Prim.Native.Nat.{ℕ, zero, suc, ◌+◌, ◌-◌, ◌≤◌, ◌<◌, max}
use native.Mathlib.Omega.{arith}
use Rattle.std.proofs.Math.Decide.{dec_lt}
use Rattle.std.specs.Prelude.{◌≡◌, Bool, eqb, drop, Err}
use Rattle.std.proofs.Math.Path.{refl, sym, ap}
use Rattle.std.proofs.Common.{◌∙◌, length-append, length-drop, take-append-drop, length-take-le}
use Rattle.std.proofs.Math.Bool.{true, false}
use mathlib.Core.List.{List, [], ◌∷◌, ◌++◌, append_assoc}
use Rattle.std.proofs.Math.ListN.{length, take}
use borrow.Author.Tests.{eq-eqb, ne_eqb}
use Rattle.format.specs.Format.{pick}
use Rattle.format.specs.ReadWrite.{spelt, each_write}
use Rattle.format.specs.Laws.ReadWrite.{length_spelt}
use Rattle.format.specs.Laws.Answers.{Read}
use Rattle.format.specs.declared.Refusal.{Refusal}
use Rattle.text.specs.Text.{string}
use Rattle.kind.specs.declared.Product.{Product}
use Rattle.rule.specs.Rule.{Rule}
use Rattle.rule.specs.Laws.Parts.{front, front_long, back, back_long, head_bytes, inner, size_of}
use Rattle.deck.specs.Deck.{base_of}
use Rattle.deck.specs.Laws.Written.{before, before_long, rules, rules_cons, rules_later, written_at, start_first}
use Rattle.deck.specs.Written.{start_of}
use Rattle.buffer.specs.Laid.{put_in}
use Rattle.buffer.specs.Laws.Laid.{opened, moved, up}
use Rattle.buffer.specs.Laws.Holds.{Holds, Gap, holds_start, holds_put, holds_open, holds_up}
use Rattle.spot.specs.declared.Site.{Site}
use Rattle.steps.specs.Laws.Steps.{Here, here, name_read, name_end}
use Rattle.plan.specs.Laws.Found.{Sits, sits_within}
use Rattle.plan.specs.Laws.Makes.{name_ends, name_there}
use Rattle.head.specs.Laws.Head.{head_long, head_short}

-- how many bytes the rules from place k of m lose where a rule comes before them: "The rule at place 0 always has the long head .. others have the short one"
unfoldable pub lost : ℕ → ℕ → ℕ
lost k m = pick (eqb k 0) (pick (eqb m 0) 0 16) 0

module _ (k m : ℕ) where
  pub lost_later : (k ≡ 0 → ⊥) → 0 ≡ lost k m
  unfolding lost pick
  lost_later h = rw (ne_eqb k 0 h)

  pub lost_none : k ≡ 0 → m ≡ 0 → 0 ≡ lost k m
  unfolding lost pick
  lost_none h i = rw (eq-eqb k 0 h, eq-eqb m 0 i)

  pub lost_first : k ≡ 0 → (m ≡ 0 → ⊥) → 16 ≡ lost k m
  unfolding lost pick
  lost_first h i = rw (eq-eqb k 0 h, ne_eqb m 0 i)

  pub lost_small : lost k m ≤ 16
  unfolding lost pick
  lost_small = go (eqb k 0) (eqb m 0)
    where
      go : (x y : Bool) → pick x (pick y 0 16) 0 ≤ 16
      go true true = omega arith
      go true false = omega arith
      go false y = omega arith

  pub lost_is : (lost k m ≡ 0 → ⊥) → (k ≡ 0) × (0 < m)
  lost_is h =
      elim (dec_lt 0 k) [
        | yes u ↦ absurd (h (sym (lost_later (λ e. omega arith))))
        | no u ↦ elim (dec_lt 0 m) [
          | yes v ↦ (omega arith, v)
          | no v ↦ absurd (h (sym (lost_none (omega arith) (omega arith))))
        ]
      ]

-- whatever rules the deck that was found has, of which k is asked for:
-- there is a gap of len bytes, at most 200,000, at place k, and the rules behind it stand as behind a rule
unfoldable pub Opens : Site → ℕ → ℕ → List ℕ → List ℕ → Type 0
Opens f k len d z = (p : Product) (v : ℕ) (rs : List Rule) → Sits (λ rs. k) f d p v rs → k ≤ f.rules → 16 ≤ len → len ≤ 200000 → f.bytes + (len - lost k f.rules) ≤ length d
    → Gap z (λ G. before v rs k ++ (G ++ rules (k + 1) (drop k rs))) len (f.bytes + (len - lost k f.rules)) d

-- the rules behind a place, as behind a rule
first_lose : (r : Rule) (later : List Rule) → length (rules 0 (r ∷ later)) ≡ 16 + length (rules 1 (r ∷ later))
unfolding size_of
first_lose r later =
    let b₀ = back 0 r.elements in
    let b₁ = back 1 r.elements in
    omega (
      arith,
      ap length (rules_cons 0 r later),
      ap length (rules_cons 1 r later),
      ap length (rules_later 1 2 later (omega arith) (omega arith)),
      length-append (front r) (b₀ ++ rules 1 later),
      length-append b₀ (rules 1 later),
      length-append (front r) (b₁ ++ rules 2 later),
      length-append b₁ (rules 2 later),
      back_long 0 r.elements,
      back_long 1 r.elements,
      head_long,
      head_short 1 (omega arith),
    )

pub rules_lose : (k : ℕ) (rs : List Rule) → length (rules k (drop k rs)) ≡ lost k (length rs) + length (rules (k + 1) (drop k rs))
unfolding rules each_write
rules_lose zero [] = rw (← lost_none 0 0 refl refl)
rules_lose zero (r ∷ later) = rw (← lost_first 0 (length (r ∷ later)) refl (λ e. omega arith)) (first_lose r later)
rules_lose (suc k) rs = rw (← lost_later (suc k) (length rs) (λ e. omega arith)) (ap length (rules_later (suc k) (suc k + 1) (drop (suc k) rs) (omega arith) (omega arith)) ∙ omega arith)

rules_kept : (k : ℕ) (rs : List Rule) → lost k (length rs) ≡ 0 → rules k (drop k rs) ≡ rules (k + 1) (drop k rs)
unfolding rules each_write
rules_kept zero [] e = refl
rules_kept zero (r ∷ later) e = absurd (omega (arith, lost_first 0 (length (r ∷ later)) refl (λ z. omega arith)))
rules_kept (suc k) rs e = rules_later (suc k) (suc k + 1) (drop (suc k) rs) (omega arith) (omega arith)

module _ (f : Site) (k len : ℕ) (d z : List ℕ) where
  -- nothing else is done where no rule behind it changes
  pub opens_plain : lost k f.rules ≡ 0 → z ≡ opened d f.bytes f.start f.start len → Opens f k len d z
  unfolding Opens
  opens_plain e g p v rs o l h x r =
      let P = before v rs k in
      let n = f.bytes in
      let i : take n d ≡ P ++ rules (k + 1) (drop k rs) = rw (rules_kept k rs (rw o.many at e)) at (o.sound.is ∙ written_at v rs k (omega (arith, o.many))) in
      let hi : max n (n - (f.start - f.start) + len) ≡ n + (len - lost k f.rules) = omega arith in
      rw hi at (holds_open P [] (rules (k + 1) (drop k rs)) (holds_start d n o.within) i (length-take-le n d o.within) (before_long v rs k ∙ sym o.starts) (omega arith) (omega arith) g)

  pub opens_first : (lost k f.rules ≡ 0 → ⊥) → Opens f 0 len d z → Opens f k len d z
  unfolding Opens
  opens_first e g p v rs o l h x r = go (lost_is k f.rules e).0 o r
    where
      go : k ≡ 0 → Sits (λ rs. k) f d p v rs → f.bytes + (len - lost k f.rules) ≤ length d → Gap z (λ G. before v rs k ++ (G ++ rules (k + 1) (drop k rs))) len (f.bytes + (len - lost k f.rules)) d
      go u o r = rw u (g p v rs (rw u at o) (omega arith) h x (rw u at r))

-- of no sound deck, or for a longer gap
pub opens_never : (f : Site) (k len : ℕ) (d : List ℕ) → (f.end ≤ f.bytes → f.bytes ≤ 60000 → len ≤ 200000 → ⊥) → Opens f k len d d
unfolding Opens
opens_never f k len d h p v rs o l g x r = let b = sits_within f d o in absurd (h b.inside b.short x)

-- the first rule up to its head moves up, and gets another head and another Data Size
four : (B M X Y I : List ℕ) → (B ++ M) ++ ((X ++ Y) ++ I) ≡ B ++ (M ++ (X ++ (Y ++ I)))
four B M X Y I = simp append_assoc

module _ (B F S C I d : List ℕ) (n base s len : ℕ) where
  shift_open : (H : List ℕ) {z : List ℕ} {a b : ℕ} → n ≤ length d → take n d ≡ B ++ (F ++ (S ++ (C ++ (H ++ I)))) → z ≡ opened d n a b (len + 2) → length B ≡ base → base + length F ≡ s → length S ≡ 4 → length C ≡ 2 → length H ≡ 18
      → a ≡ s + 6 → b ≡ s + 24 → 16 ≤ len → n + (len - 16) ≤ length d → Gap z (λ G. (B ++ (F ++ (S ++ C))) ++ (G ++ I)) (len + 2) (n + (len - 16)) d
  shift_open H {z} {a} {b} w i e lb lf ls lc lh ea eb l r =
      let P = B ++ (F ++ (S ++ C)) in
      let lp : length P ≡ a = simp length-append (omega arith) in
      let j : take n d ≡ P ++ (H ++ I) = i ∙ simp append_assoc in
      let t = length-take-le n d w in
      let ld : n ≡ length P + (length H + length I) = sym t ∙ ap length j ∙ simp length-append in
      let hi : max n (n - (b - a) + (len + 2)) ≡ n + (len - 16) = omega arith in
      rw hi at (holds_open P H I (holds_start d n w) j t lp (omega arith) (omega arith) e)

  shift_up : (M X Y : List ℕ) {y z : List ℕ} {hi e : ℕ} → Holds y ((B ++ M) ++ ((X ++ Y) ++ I)) hi d → z ≡ moved (up len) base e y → length B ≡ base → length X ≡ len → base + length M + len ≡ e
      → Gap z (λ G. B ++ (G ++ (M ++ (Y ++ I)))) len hi d
  shift_up M X Y h g lb lx le = holds_up B M X (Y ++ I) h (four B M X Y I) lb lx le g

  shift_put : (G Y S₁ H₁ : List ℕ) {y z₃ z₄ : List ℕ} {hi a₃ a₄ : ℕ} → Holds y (B ++ (G ++ ((F ++ (S ++ C)) ++ (Y ++ I)))) hi d → z₃ ≡ put_in y a₃ S₁ → z₄ ≡ put_in z₃ a₄ H₁
      → length B ≡ base → base + length F ≡ s → length S ≡ 4 → length C ≡ 2 → length G ≡ len → length Y ≡ 2 → length S₁ ≡ 4 → length H₁ ≡ 2 → a₃ ≡ s + len → a₄ ≡ s + 6 + len
      → Holds z₄ (B ++ (G ++ (F ++ (S₁ ++ (C ++ (H₁ ++ I)))))) hi d
  shift_put G Y S₁ H₁ {y} {z₃} {z₄} {hi} {a₃} {a₄} h e₃ e₄ lb lf ls lc lg ly ls₁ lh₁ f₃ f₄ =
      let P = B ++ (G ++ F) in
      let Q = B ++ (G ++ (F ++ (S₁ ++ C))) in
      let lp : length P ≡ a₃ = simp length-append (omega arith) in
      let lq : length Q ≡ a₄ = simp length-append (omega arith) in
      let i : B ++ (G ++ ((F ++ (S ++ C)) ++ (Y ++ I))) ≡ P ++ (S ++ (C ++ (Y ++ I))) = simp append_assoc in
      let j : P ++ (S₁ ++ (C ++ (Y ++ I))) ≡ Q ++ (Y ++ I) = simp append_assoc in
      let k : Q ++ (H₁ ++ I) ≡ B ++ (G ++ (F ++ (S₁ ++ (C ++ (H₁ ++ I))))) = simp append_assoc in
      rw k at (holds_put Q Y I H₁ (holds_put P S (C ++ (Y ++ I)) S₁ h i lp (ls ∙ sym ls₁) e₃) j lq (ly ∙ sym lh₁) e₄)

  shifted : (H S₁ H₁ : List ℕ) {z₁ z₂ z₃ z₄ : List ℕ} {a₁ b₁ e₂ a₃ a₄ : ℕ} → n ≤ length d → take n d ≡ B ++ (F ++ (S ++ (C ++ (H ++ I))))
      → z₁ ≡ opened d n a₁ b₁ (len + 2) → z₂ ≡ moved (up len) base e₂ z₁ → z₃ ≡ put_in z₂ a₃ S₁ → z₄ ≡ put_in z₃ a₄ H₁
      → length B ≡ base → base + length F ≡ s → length S ≡ 4 → length C ≡ 2 → length H ≡ 18 → length S₁ ≡ 4 → length H₁ ≡ 2
      → a₁ ≡ s + 6 → b₁ ≡ s + 24 → e₂ ≡ s + 6 + len → a₃ ≡ s + len → a₄ ≡ s + 6 + len → 16 ≤ len → n + (len - 16) ≤ length d
      → Gap z₄ (λ G. B ++ (G ++ (F ++ (S₁ ++ (C ++ (H₁ ++ I)))))) len (n + (len - 16)) d
  shifted H S₁ H₁ {z₁} {z₂} {z₃} {z₄} {a₁} {b₁} {e₂} {a₃} {a₄} w i e₁ m₂ e₃ e₄ lb lf ls lc lh ls₁ lh₁ f₁ g₁ f₂ f₃ f₄ l r = opens (shift_open H w i e₁ lb lf ls lc lh f₁ g₁ l r)
    where
      M : List ℕ
      M = F ++ (S ++ C)

      ups : (Y : List ℕ) → length Y ≡ 2 → Gap z₂ (λ G. B ++ (G ++ (M ++ (Y ++ I)))) len (n + (len - 16)) d → Gap z₄ (λ G. B ++ (G ++ (F ++ (S₁ ++ (C ++ (H₁ ++ I)))))) len (n + (len - 16)) d
      ups Y ly g = record { bytes = g.bytes; long = g.long; holds = shift_put g.bytes Y S₁ H₁ g.holds e₃ e₄ lb lf ls lc g.long ly ls₁ lh₁ f₃ f₄ }

      halves : (T : List ℕ) → length T ≡ len + 2 → Holds z₁ ((B ++ M) ++ (T ++ I)) (n + (len - 16)) d → Gap z₄ (λ G. B ++ (G ++ (F ++ (S₁ ++ (C ++ (H₁ ++ I)))))) len (n + (len - 16)) d
      halves T lt h =
          let m : base + length M + len ≡ e₂ = simp length-append (omega arith) in
          ups (drop len T) (omega (arith, length-drop len T)) (shift_up M (take len T) (drop len T) (rw (take-append-drop len T) h) m₂ lb (length-take-le len T (omega arith)) m)

      opens : Gap z₁ (λ G. (B ++ M) ++ (G ++ I)) (len + 2) (n + (len - 16)) d → Gap z₄ (λ G. B ++ (G ++ (F ++ (S₁ ++ (C ++ (H₁ ++ I)))))) len (n + (len - 16)) d
      opens g = halves g.bytes g.long g.holds

-- the first rule of a deck, by its parts
first_is : (i : ℕ) (r : Rule) (t : List ℕ) → front r ++ (back i r.elements ++ t) ≡ front r ++ (spelt 4 (size_of i r.elements) ++ (spelt 2 (length r.elements) ++ (head_bytes i ++ (inner r.elements ++ t))))
unfolding back
first_is i r t = simp append_assoc

second_is : (r : Rule) (later : List Rule) → rules 1 (r ∷ later) ≡ front r ++ (spelt 4 (size_of 1 r.elements) ++ (spelt 2 (length r.elements) ++ (head_bytes 1 ++ (inner r.elements ++ rules 1 later))))
second_is r later = rules_cons 1 r later ∙ ap (λ (t : List ℕ). front r ++ (back 1 r.elements ++ t)) (rules_later 2 1 later (omega arith) (omega arith)) ∙ first_is 1 r (rules 1 later)

module _ (n base : ℕ) (d : List ℕ) {p : Product} (v : ℕ) (rs : List Rule) (h : Here p v (take n d) rs 0) (e : base ≡ base_of v (length rs)) where
  name_at_lem : name_end d base ≡ base + 4 + length (string.write h.r.name)
  name_at_lem = let b : base ≡ start_of v rs 0 = e ∙ sym (start_first v rs) in rw b (name_ends n d h)

  ends_at : start_of v rs 1 ≡ name_end d base + 44 + length (inner h.r.elements)
  unfolding size_of
  ends_at = h.ends ∙ omega (arith, front_long h.r, back_long 0 h.r.elements, head_long, name_at_lem, start_first v rs)

module _ (f : Site) (len : ℕ) (d : List ℕ) where
  -- the first rule of the deck that is found
  there : (p : Product) (v : ℕ) (rs : List Rule) → Sits (λ rs. 0) f d p v rs → 0 < f.rules → Here p v (take f.bytes d) rs 0
  there p v rs o l = here p v (take f.bytes d) rs 0 o.sound (omega (arith, o.many))

  -- its name can be read
  pub opens_unnamed : {t : Read} {why : Refusal} → t ≡ name_read d f.base → t ≡ Err why → 0 < f.rules → Opens f 0 len d d
  unfolding Opens
  opens_unnamed g i l p v rs o k h x r = name_there f.bytes d (there p v rs o l) (g ∙ ap (name_read d) (o.base ∙ sym (start_first v rs))) i

  module _ (e : ℕ) where
    pub opens_not : e ≡ name_end d f.base → 0 < f.rules → f.end < e + 44 → Opens f 0 len d d
    unfolding Opens
    opens_not g q l p v rs o k h x r = absurd (omega (arith, ends_at f.bytes f.base d v rs (there p v rs o q) o.base, o.ends))

    pub opens_shift : {z₁ z₂ z₃ z₄ : List ℕ} {a₁ b₁ e₂ a₃ a₄ t : ℕ} → e ≡ name_end d f.base → 0 < f.rules → z₁ ≡ opened d f.bytes a₁ b₁ (len + 2) → z₂ ≡ moved (up len) f.base e₂ z₁ → z₃ ≡ put_in z₂ a₃ (spelt 4 t) → z₄ ≡ put_in z₃ a₄ (head_bytes 1)
        → a₁ ≡ e + 26 → b₁ ≡ e + 44 → e₂ ≡ e + 26 + len → a₃ ≡ e + 20 + len → a₄ ≡ e + 26 + len → t ≡ f.end - e - 40 → Opens f 0 len d z₄
    unfolding Opens size_of
    opens_shift {z₄ = z₄} {t = t} g q e₁ m₂ e₃ e₄ f₁ g₁ f₂ f₃ f₄ et p v rs o k h u r = go (there p v rs o q)
      where
        go : Here p v (take f.bytes d) rs 0 → Gap z₄ (λ G. before v rs 0 ++ (G ++ rules (0 + 1) (drop 0 rs))) len (f.bytes + (len - lost 0 f.rules)) d
        go y =
            let x = y.r in
            let B = before v rs 0 in
            let i : take f.bytes d ≡ B ++ (front x ++ (spelt 4 (size_of 0 x.elements) ++ (spelt 2 (length x.elements) ++ (head_bytes 0 ++ (inner x.elements ++ rules 1 y.later))))) = rw first_is at y.is in
            let l : 16 ≡ lost 0 f.rules = lost_first 0 f.rules refl (λ u. omega arith) in
            let w : t ≡ size_of 1 x.elements = omega (arith, ends_at f.bytes f.base d v rs y o.base, o.ends, head_short 1 (omega arith)) in
            let j : rules (0 + 1) (drop 0 rs) ≡ front x ++ (spelt 4 t ++ (spelt 2 (length x.elements) ++ (head_bytes 1 ++ (inner x.elements ++ rules 1 y.later)))) = ap (rules (0 + 1)) y.from ∙ rw w (second_is x y.later) in
            rw (← l, j) (shifted B (front x) (spelt 4 (size_of 0 x.elements)) (spelt 2 (length x.elements)) (inner x.elements ++ rules 1 y.later) d f.bytes f.base (e + 20) len (head_bytes 0) (spelt 4 t) (head_bytes 1) o.within i e₁ m₂ e₃ e₄
            (y.starts ∙ start_first v rs ∙ sym o.base) (omega (arith, front_long x, name_at_lem f.bytes f.base d v rs y o.base)) (length_spelt 4 _) (length_spelt 2 _) head_long (length_spelt 4 t) (head_short 1 (omega arith))
            (omega arith) (omega arith) (omega arith) (omega arith) (omega arith) h (omega arith))

-- Laws of ../Fixed.antt: how the code finds the fixed fields of a rule, and what they say.
use Rattle.std.specs.Prelude.{ℕ, ◌+◌, ◌%◌, ◌^◌, ◌<◌, ◌≡◌, Bool, List, Ok, Err}
use Rattle.std.proofs.Common.{mod-eq_of_lt, arith, ap, ◌∙◌}
use Rattle.std.proofs.Math.Path.{refl}
use Rattle.std.proofs.Math.Dec.{eqb}
use Rattle.fixed.specs.Answers.{Fielded}
use Rattle.format.specs.Laws.Answers.{Read}
use Rattle.format.specs.declared.Refusal.{Refusal}
use Rattle.format.specs.Format.{Bytes}
use Rattle.format.specs.ReadWrite.{bit}
use Rattle.format.specs.Laws.ReadWrite.{length_spelt, eqb_bit}
use Rattle.format.specs.Combinators.{number}
use Rattle.format.specs.Laws.Seen.{seen, itself, number_got}
use Rattle.format.specs.Laws.Written.{Held}
use Rattle.format.specs.Laws.Back.{Where, back_got, back_no}
use Rattle.rule.specs.Rule.{Rule}
use Rattle.rule.specs.Laws.Places.{rule_parts}
use Rattle.steps.specs.Laws.Steps.{name_read, name_end_lem, name_got, name_never}
use Rattle.steps.specs.Laws.Starts.{Starts}
use Rattle.asked.specs.Laws.Asked.{Tells, finds, finds_never}
use Rattle.fixed.specs.Fixed.{fixed_of, fixed_at, fixed_fields, fields_say, fields_answer}

pub fields_say_lem : (edition k : ℕ) (s : List ℕ) {v : Fielded} → v ≡ fixed_fields edition k s → (v ≡ fixed_fields edition k s) × (fields_say v ≡ fields_answer edition k s)
fields_say_lem edition k s e = (e, ap fields_say e)

-- ---- as the code finds it

-- whatever rule has that signature and these fields from a place on, v is its fixed fields
unfoldable pub Kept : List ℕ → ℕ → ℕ → Fielded → Type 0
Kept s e a v = (r : Rule) → a ≡ r.signature → Held (number 4) s e (bit r.on) → Held (number 4) s (e + 4) r.unknown2 → Held (number 4) s (e + 8) r.unknown3 → Held (number 4) s (e + 12) r.unknown4 → Held (number 4) s (e + 16) r.unknown5
    → v ≡ Ok (fixed_of r)

-- a number that was read has its four bytes
pub in_four : (s : List ℕ) (at : ℕ) {q v : ℕ} → Bytes s → Ok (q, v) ≡ seen itself (number 4) s at → v < 256 ^ 4
in_four s at b f = (number_got 4 s at b (omega arith) f refl).1

-- the number that stands at a place, as it was read
four : (s : List ℕ) (at : ℕ) {o x v q : ℕ} {z : Read} → z ≡ seen itself (number 4) s at → z ≡ Ok (q, v) → at ≡ o → Held (number 4) s o x → (v ≡ x) × ((q ≡ o + 4) × (v % 0x1_0000_0000 ≡ x))
unfolding number
four s at {o} {x} {v} {q} f g i h =
    let y : Held (number 4) s at x = rw i h in
    let b = back_got itself (number 4) s at y.1 f g in
    let m : x % 0x1_0000_0000 ≡ x = mod-eq_of_lt y.1.fit in
    (b.0, (b.1 ∙ ap (λ (w : ℕ). at + w) (length_spelt 4 x) ∙ ap (λ (w : ℕ). w + 4) i, rw b.0 m))

gone : {B : Type 0} (s : List ℕ) (at : ℕ) {o x : ℕ} {why : Refusal} {z : Read} → z ≡ seen itself (number 4) s at → z ≡ Err why → at ≡ o → Held (number 4) s o x → B
gone s at {x = x} f g i h = let y : Held (number 4) s at x = rw i h in back_no itself (number 4) s at y.1 f g

same : {a a' c c' d d' f f' g g' : ℕ} {b b' : Bool} → a ≡ a' → b ≡ b' → c ≡ c' → d ≡ d' → f ≡ f' → g ≡ g'
    → ◌≡◌ {A = Fielded} (Ok (record { signature = a; on = b; unknown2 = c; unknown3 = d; unknown4 = f; unknown5 = g })) (Ok (record { signature = a'; on = b'; unknown2 = c'; unknown3 = d'; unknown4 = f'; unknown5 = g' }))
same a b c d f g = rw (a, b, c, d, f, g)

-- one after the other
module _ (s : List ℕ) (e a : ℕ) {z₁ : Read} (f₁ : z₁ ≡ seen itself (number 4) s e) where
  pub kept_1 : (v : Fielded) {why : Refusal} → z₁ ≡ Err why → Kept s e a v
  unfolding Kept
  kept_1 v k r i h₁ h₂ h₃ h₄ h₅ = gone s e f₁ k refl h₁

  module _ {v₁ p₁ : ℕ} (g₁ : z₁ ≡ Ok (p₁, v₁)) {z₂ : Read} (f₂ : z₂ ≡ seen itself (number 4) s p₁) where
    pub kept_2 : (v : Fielded) {why : Refusal} → z₂ ≡ Err why → Kept s e a v
    unfolding Kept
    kept_2 v k r i h₁ h₂ h₃ h₄ h₅ = gone s p₁ f₂ k (four s e f₁ g₁ refl h₁).1.0 h₂

    module _ {v₂ p₂ : ℕ} (g₂ : z₂ ≡ Ok (p₂, v₂)) {z₃ : Read} (f₃ : z₃ ≡ seen itself (number 4) s p₂) where
      at₂ : {x y : ℕ} → Held (number 4) s e x → Held (number 4) s (e + 4) y → p₂ ≡ e + 8
      at₂ h₁ h₂ = omega (arith, (four s p₁ f₂ g₂ (four s e f₁ g₁ refl h₁).1.0 h₂).1.0)

      pub kept_3 : (v : Fielded) {why : Refusal} → z₃ ≡ Err why → Kept s e a v
      unfolding Kept
      kept_3 v k r i h₁ h₂ h₃ h₄ h₅ = gone s p₂ f₃ k (at₂ h₁ h₂) h₃

      module _ {v₃ p₃ : ℕ} (g₃ : z₃ ≡ Ok (p₃, v₃)) {z₄ : Read} (f₄ : z₄ ≡ seen itself (number 4) s p₃) where
        at₃ : {x y w : ℕ} → Held (number 4) s e x → Held (number 4) s (e + 4) y → Held (number 4) s (e + 8) w → p₃ ≡ e + 12
        at₃ h₁ h₂ h₃ = omega (arith, (four s p₂ f₃ g₃ (at₂ h₁ h₂) h₃).1.0)

        pub kept_4 : (v : Fielded) {why : Refusal} → z₄ ≡ Err why → Kept s e a v
        unfolding Kept
        kept_4 v k r i h₁ h₂ h₃ h₄ h₅ = gone s p₃ f₄ k (at₃ h₁ h₂ h₃) h₄

        module _ {v₄ p₄ : ℕ} (g₄ : z₄ ≡ Ok (p₄, v₄)) {z₅ : Read} (f₅ : z₅ ≡ seen itself (number 4) s p₄) where
          at₄ : {x y w o : ℕ} → Held (number 4) s e x → Held (number 4) s (e + 4) y → Held (number 4) s (e + 8) w → Held (number 4) s (e + 12) o → p₄ ≡ e + 16
          at₄ h₁ h₂ h₃ h₄ = omega (arith, (four s p₃ f₄ g₄ (at₃ h₁ h₂ h₃) h₄).1.0)

          pub kept_5 : (v : Fielded) {why : Refusal} → z₅ ≡ Err why → Kept s e a v
          unfolding Kept
          kept_5 v k r i h₁ h₂ h₃ h₄ h₅ = gone s p₄ f₅ k (at₄ h₁ h₂ h₃ h₄) h₅

          pub kept_read : {v₅ p₅ : ℕ} → z₅ ≡ Ok (p₅, v₅)
              → Kept s e a (Ok (record { signature = a; on = eqb v₁ 1; unknown2 = v₂; unknown3 = v₃; unknown4 = v₄; unknown5 = v₅ }))
          unfolding Kept
          kept_read g₅ r i h₁ h₂ h₃ h₄ h₅ =
              same i (ap (λ (v : ℕ). eqb v 1) (four s e f₁ g₁ refl h₁).0 ∙ eqb_bit r.on) (four s p₁ f₂ g₂ (four s e f₁ g₁ refl h₁).1.0 h₂).0 (four s p₂ f₃ g₃ (at₂ h₁ h₂) h₃).0 (four s p₃ f₄ g₄ (at₃ h₁ h₂ h₃) h₄).0 (four s p₄ f₅ g₅ (at₄ h₁ h₂ h₃ h₄) h₅).0

          -- and of each number its low four bytes
          pub kept_is : {v₅ p₅ : ℕ} → z₅ ≡ Ok (p₅, v₅) → a < 256 ^ 4
              → Kept s e a (Ok (record { signature = a % 0x1_0000_0000; on = eqb v₁ 1; unknown2 = v₂ % 0x1_0000_0000; unknown3 = v₃ % 0x1_0000_0000; unknown4 = v₄ % 0x1_0000_0000; unknown5 = v₅ % 0x1_0000_0000 }))
          unfolding Kept
          kept_is g₅ j r i h₁ h₂ h₃ h₄ h₅ =
              same (mod-eq_of_lt j ∙ i) (ap (λ (v : ℕ). eqb v 1) (four s e f₁ g₁ refl h₁).0 ∙ eqb_bit r.on) (four s p₁ f₂ g₂ (four s e f₁ g₁ refl h₁).1.0 h₂).1.1 (four s p₂ f₃ g₃ (at₂ h₁ h₂) h₃).1.1 (four s p₃ f₄ g₄ (at₃ h₁ h₂ h₃) h₄).1.1 (four s p₄ f₅ g₅ (at₄ h₁ h₂ h₃ h₄) h₅).1.1

-- r is what was told of the rule's start, g what its signature was read as, t its name
module _ (version : ℕ) (s : List ℕ) (base k : ℕ) (v : Fielded) {r : Read} where
  pub fixed_unreached : {why : Refusal} → Starts s version base k r → r ≡ Err why → Tells version s base k fixed_at v
  fixed_unreached w i p = finds_never p version s base k fixed_at v w i

  module _ {u at : ℕ} where
    pub fixed_unsigned : {g : Read} {why : Refusal} → Starts s version base k r → r ≡ Ok (at, u) → g ≡ seen itself (number 4) s at → g ≡ Err why → Tells version s base k fixed_at v
    unfolding Where
    fixed_unsigned w i f h p = finds p version s base k fixed_at v w i (λ x b. back_no itself (number 4) s at (rule_parts p k s at x b.0 b.1).signed.1 f h)

    pub fixed_unnamed : {t : Read} {why : Refusal} → Starts s version base k r → r ≡ Ok (at, u) → t ≡ name_read s at → t ≡ Err why → Tells version s base k fixed_at v
    unfolding Where
    fixed_unnamed w i f h p = finds p version s base k fixed_at v w i (λ x b. name_never s at f h p k x b)

    pub fixed_is : {g t : Read} {a o n e : ℕ} → Starts s version base k r → r ≡ Ok (at, u) → g ≡ seen itself (number 4) s at → g ≡ Ok (o, a) → t ≡ name_read s at → t ≡ Ok (e, n) → (a < 256 ^ 4 → Kept s e a v) → Tells version s base k fixed_at v
    unfolding Where Kept number
    fixed_is w i f h j l m p = finds p version s base k fixed_at v w i (λ x b.
        let y = rule_parts p k s at x b.0 b.1 in
        let z = name_got s at j l ∙ name_end_lem s at p k x b in
        let i = (back_got itself (number 4) s at y.signed.1 f h).0 in
        let l = y.signed.1.fit in
        m (rw i l) x i (rw z y.switched) (rw z y.two) (rw z y.three) (rw z y.four) (rw z y.five))

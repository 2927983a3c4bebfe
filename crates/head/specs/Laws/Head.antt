-- The head of a rule as it is put down.
use Rattle.std.specs.Prelude.{ℕ, ◌<◌, ◌≤◌, ◌≡◌, refl, Bool, List, [], ◌∷◌, length}
use Rattle.std.proofs.Common.{arith, sym, ap, ◌∙◌, ne_eqb}
use Rattle.format.specs.Format.{pick}
use Rattle.format.specs.ReadWrite.{pair_write, spelt, value}
use Rattle.format.specs.Laws.ReadWrite.{length_spelt}
use Rattle.format.specs.Combinators.{via, judged, seq, ◌then◌, pair, number, fixed, bytes}
use Rattle.buffer.specs.Laid.{put_in}
use Rattle.rule.specs.Rule.{head, first_head, class_head, class_name, separator}
use Rattle.rule.specs.Laws.Parts.{head_bytes}

-- FFFF, 0000, 000C, `CRuleElement`
abbrev pub first_bytes : List ℕ
first_bytes =
    0xFF ∷ 0xFF ∷ 0x00 ∷ 0x00 ∷ 0x0C ∷ 0x00 ∷ 0x43 ∷ 0x52 ∷ 0x75 ∷ 0x6C ∷ 0x65 ∷ 0x45 ∷ 0x6C ∷ 0x65 ∷ 0x6D ∷ 0x65 ∷ 0x6E ∷ 0x74 ∷ []

pub head_first : first_bytes ≡ head_bytes 0
unfolding head_bytes head pick first_head class_head class_name ◌then◌ seq via pair pair_write fixed bytes judged number spelt value
head_first = refl

pub head_other : (i : ℕ) → (i ≡ 0 → ⊥) → spelt 2 0x8001 ≡ head_bytes i
unfolding head_bytes head pick fixed via judged number
head_other i h = sym (ap (λ (b : Bool). (pick b first_head separator).write tt) (ne_eqb i 0 h))

pub head_long : length (head_bytes 0) ≡ 18
head_long = sym (ap length head_first)

pub head_short : (i : ℕ) → 0 < i → length (head_bytes i) ≡ 2
head_short i h = sym (ap length (head_other i (λ e. omega arith))) ∙ length_spelt 2 0x8001

-- as the code measures it
pub head_none : {i : ℕ} → i ≡ 0 → (18 ≡ length (head_bytes i)) × (18 ≤ 18)
head_none e = (sym (ap (λ (j : ℕ). length (head_bytes j)) e ∙ head_long), omega arith)

pub head_some : {i : ℕ} → 0 < i → (2 ≡ length (head_bytes i)) × (2 ≤ 18)
head_some {i} h = (sym (head_short i h), omega arith)

module _ (d : List ℕ) (at i : ℕ) {y : List ℕ} where
  pub put_first : i ≡ 0 → y ≡ put_in d at first_bytes → y ≡ put_in d at (head_bytes i)
  put_first e h = h ∙ ap (put_in d at) (head_first ∙ ap head_bytes (sym e))

  pub put_other : (i ≡ 0 → ⊥) → y ≡ put_in d at (spelt 2 0x8001) → y ≡ put_in d at (head_bytes i)
  put_other e h = h ∙ ap (put_in d at) (head_other i e)

-- A copy of a rule from its parts, put into a buffer.
use Rattle.std.specs.Prelude.{ℕ, ◌+◌, ◌-◌, ◌≤◌, ◌≡◌}
use Rattle.std.proofs.Common.{arith, ◌∙◌}
use Rattle.std.proofs.Math.Path.{sym, ap}
use mathlib.Core.List.{List, ◌++◌, append_assoc}
use Rattle.std.proofs.Math.ListN.{length, take, drop, length-append}
use Rattle.std.proofs.Math.Seq.{length-take-le}
use Rattle.format.specs.ReadWrite.{spelt}
use Rattle.format.specs.Laws.ReadWrite.{length_spelt}
use Rattle.rule.specs.Rule.{Rule}
use Rattle.rule.specs.Laws.Parts.{front, back, back_long, head_bytes, inner, size_of}
use Rattle.buffer.specs.Laid.{put, put_in}
use Rattle.buffer.specs.Laws.Laid.{put_in_lem, put_over, put_length, put_both}

-- what stands before the head of a rule at place j
unfoldable pub ahead : ℕ → Rule → List ℕ
ahead j q = front q ++ (spelt 4 (size_of j q.elements) ++ spelt 2 (length q.elements))

-- z is the buffer y with a rule put at a place, with the head of place i: whatever rule has x before its head, wherever it stands, and the elements l
unfoldable pub Puts : List ℕ → ℕ → List ℕ → List ℕ → ℕ → List ℕ → Type 0
Puts y at x l i z = (j : ℕ) (q : Rule) → x ≡ ahead j q → l ≡ inner q.elements → z ≡ put_in y at (front q ++ back i q.elements)

abbrev pub copy_size : List ℕ → List ℕ → ℕ → ℕ
copy_size x l i = length x + (length (head_bytes i) + length l)

pub ahead_long : (j : ℕ) (q : Rule) → length (ahead j q) ≡ length (front q) + 6
unfolding ahead
ahead_long j q = simp (length-append, length_spelt)

pub copy_long : (j : ℕ) (q : Rule) (i : ℕ) → length (front q ++ back i q.elements) ≡ copy_size (ahead j q) (inner q.elements) i
unfolding size_of
copy_long j q i = omega (arith, length-append (front q) (back i q.elements), back_long i q.elements, ahead_long j q)

module _ (y : List ℕ) (at : ℕ) where
  -- s put over Q, where Q was put with what stands before and behind it
  put_inside : (P Q R s : List ℕ) {y₁ y₂ : List ℕ} {o : ℕ} → y₁ ≡ put_in y at (P ++ (Q ++ R)) → y₂ ≡ put_in y₁ o s → o ≡ at + length P → length Q ≡ length s → at + length (P ++ (Q ++ R)) ≤ length y → y₂ ≡ put_in y at (P ++ (s ++ R))
  unfolding put
  put_inside P Q R s {y₁} {o = o} e₁ e₂ eo q w =
      let A = take at y in
      let B = drop (at + length (P ++ (Q ++ R))) y in
      let a : y₁ ≡ put y at (P ++ (Q ++ R)) = e₁ ∙ put_in_lem y at (P ++ (Q ++ R)) w in
      let b : length y₁ ≡ length y = ap length a ∙ put_length y at (P ++ (Q ++ R)) w in
      let l : length (A ++ P) ≡ o = simp length-append (omega (arith, length-take-le at y (omega arith))) in
      let m : length (P ++ (s ++ R)) ≡ length (P ++ (Q ++ R)) = simp length-append (omega arith) in
      let d : y₁ ≡ (A ++ P) ++ (Q ++ (R ++ B)) = a ∙ simp append_assoc in
      e₂ ∙ put_in_lem y₁ o s (omega (arith, length-append P (Q ++ R), length-append Q R)) ∙ ap (λ (t : List ℕ). put t o s) d ∙ put_over (A ++ P) Q (R ++ B) s l q ∙ (rw m (simp append_assoc)) ∙ sym (put_in_lem y at (P ++ (s ++ R)) (omega arith))

  -- what stands before the head, Data Size, the head, the elements
  pub put_copied : (x l : List ℕ) (i z h : ℕ) {y₁ y₂ y₃ y₄ : List ℕ} {a₁ a₂ a₃ : ℕ} → y₁ ≡ put_in y at x → y₂ ≡ put_in y₁ a₁ (spelt 4 z) → y₃ ≡ put_in y₂ a₂ (head_bytes i) → y₄ ≡ put_in y₃ a₃ l
      → h ≡ length (head_bytes i) → at + copy_size x l i ≤ length y → a₁ ≡ at + length x - 6 → a₂ ≡ at + length x → a₃ ≡ a₂ + h → z ≡ 2 + h + length l → Puts y at x l i y₄
  unfolding Puts ahead back size_of
  put_copied x l i z h e₁ e₂ e₃ e₄ eh w f₁ f₂ f₃ ez j q ex el =
      let H = head_bytes i in
      let S = spelt 4 (size_of j q.elements) in
      let C = spelt 2 (length q.elements) in
      let X = front q ++ (spelt 4 z ++ C) in
      let n = ap length ex ∙ ahead_long j q in
      let m : length X ≡ length x = simp (length-append, length_spelt) (omega arith) in
      let g₂ = put_inside (front q) S C (spelt 4 z) (e₁ ∙ ap (put_in y at) ex) e₂ (omega arith) (length_spelt 4 _ ∙ sym (length_spelt 4 z)) (omega (arith, ap length ex)) in
      let g₃ = put_both y at X H g₂ e₃ (omega arith) (omega arith) in
      let g₄ = put_both y at (X ++ H) l g₃ e₄ (omega (arith, length-append X H)) (omega (arith, length-append X H)) in
      let v : 2 + (length H + length (inner q.elements)) ≡ z = omega (arith, ap length el) in
      rw (v, ← el) (g₄ ∙ ap (put_in y at) (simp append_assoc))

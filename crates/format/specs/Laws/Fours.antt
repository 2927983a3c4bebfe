-- Numbers of 4 bytes, several at once as the code reads them: they are there, or the first of which a byte is lacking is cut.
use Rattle.std.specs.Prelude.{ℕ, zero, suc, ◌+◌, ◌-◌, ◌*◌, ◌/◌, ◌≤◌, ◌<◌, ◌≡◌, List, length, drop, Ok, Err}
use Rattle.std.proofs.Common.{arith, sym, ◌∙◌}
use Rattle.std.proofs.Math.Decide.{dec_lt}
use Rattle.std.proofs.Math.Path.{refl, ap}
use Rattle.std.proofs.Math.ListN.{length-drop}
use Rattle.format.specs.declared.Fault.{Fault}
use Rattle.format.specs.declared.Fault.TheVariants.{Cut}
use Rattle.format.specs.Laws.Answers.{Read}
use Rattle.format.specs.declared.Refusal.{Refusal}
use Rattle.format.specs.declared.Refusal.TheVariants.{At}
use Rattle.format.specs.Format.{refused, shift, mapped, and_then, Format}
use Rattle.format.specs.ReadWrite.{each_read}
use Rattle.format.specs.Combinators.{number, seq, each, sized}
use Rattle.format.specs.Laws.Seen.{told, seen, itself, none, ok_parts, unlike, pair_stop, pair_on, number_is, number_no}
use Rattle.format.specs.Laws.Rows.{number_there, number_cut, row_there}
use Rattle.format.specs.Laws.Sizes.{sized_stop}

four_cut : (i n : ℕ) (t : List ℕ) → length t < 4 * n → each_read (λ j. number 4) i n t ≡ refused Cut (4 * (length t / 4))
unfolding each_read and_then mapped shift
four_cut i zero t h = absurd (omega arith)
four_cut i (suc n) t h =
    elim (dec_lt (length t) 4) [
      | yes l ↦ rw (number_cut 4 t l) (ap (λ (m : ℕ). refused Cut m) (omega arith))
      | no l ↦ rw (number_there 4 t (omega arith), four_cut (i + 1) n (drop 4 t) (omega (arith, length-drop 4 t))) (ap (λ (m : ℕ). refused Cut m) (omega (arith, length-drop 4 t)))
    ]

module _ (s : List ℕ) where
  -- where those from a place on are cut
  abbrev pub cut_from : ℕ → Read
  cut_from p = Err (At Cut (p + 4 * ((length s - p) / 4)))

  module _ (p n : ℕ) where
    pub fours_there : 4 * n ≤ length s - p → Ok (p + 4 * n, 0) ≡ seen none (each (λ i. number 4) 0 n) s p
    unfolding seen each told
    fours_there h = let r = row_there 4 0 n (drop p s) (omega (arith, length-drop p s)) in rw r.is

    pub fours_cut : length s - p < 4 * n → cut_from p ≡ seen none (each (λ i. number 4) 0 n) s p
    unfolding seen each told
    fours_cut h = rw (four_cut 0 n (drop p s) (omega (arith, length-drop p s)), length-drop p s)

    -- r is what they were read as
    module _ {r : Read} (e : r ≡ seen none (each (λ i. number 4) 0 n) s p) where
      pub fours_got : {m v : ℕ} → r ≡ Ok (m, v) → (4 * n ≤ length s - p) × (m ≡ p + 4 * n)
      fours_got {m} h =
          elim (dec_lt (length s - p) (4 * n)) [
            | yes l ↦ unlike h (e ∙ sym (fours_cut l))
            | no l ↦ let w : ◌≡◌ {A = Read} (Ok (p + 4 * n, 0)) r = fours_there (omega arith) ∙ sym e in (omega arith, (ok_parts (sym h ∙ sym w)).0)
          ]

      pub fours_no : {why : Refusal} → r ≡ Err why → (length s - p < 4 * n) × (r ≡ cut_from p)
      fours_no h =
          elim (dec_lt (length s - p) (4 * n)) [
            | yes l ↦ (l, e ∙ sym (fours_cut l))
            | no l ↦ unlike (e ∙ sym (fours_there (omega arith))) h
          ]

  -- before other fields: one that is there is passed over, the first that is not is where they are cut
  module _ {B : Type 0} (g : ℕ × B → ℕ) (b : Format B) (p : ℕ) where
    pub four_on : {out : Read} → 4 ≤ length s - p → ((x : ℕ) → out ≡ seen (λ y. g (x, y)) b s (p + 4)) → out ≡ seen g (seq (number 4) b) s p
    unfolding seq
    four_on h w = pair_on g (number 4) (λ x. b) s p itself (number_is 4 s p refl (omega arith)) refl w

    pub four_no : (n : ℕ) → length s - p < 4 * (n + 1) → (length s - (p + 4) < 4 * n → (x : ℕ) → cut_from (p + 4) ≡ seen (λ y. g (x, y)) b s (p + 4)) → cut_from p ≡ seen g (seq (number 4) b) s p
    unfolding seq
    four_no n h w =
        elim (dec_lt (length s - p) 4) [
          | yes l ↦ ap (λ (q : ℕ). Err (At Cut q)) (omega arith) ∙ pair_stop g (number 4) (λ x. b) s p itself (number_no 4 s p l) refl
          | no l ↦ ap (λ (q : ℕ). Err (At Cut q)) (omega arith) ∙ four_on (omega arith) (w (omega arith))
        ]

  pub size_no : {A : Type 0} (g : A → ℕ) (c : Fault) (a : Format A) (p : ℕ) → length s - p < 4 → cut_from p ≡ seen g (sized c a) s p
  size_no g c a p h = ap (λ (q : ℕ). Err (At Cut q)) (omega arith) ∙ sized_stop g c a s p (number_no 4 s p h) refl

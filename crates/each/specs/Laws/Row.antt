-- What Chain.antt comes to where each reading is of a value of a row.
use Rattle.std.specs.Prelude.{ℕ, zero, suc, ◌+◌, ◌-◌, ◌<◌, ◌≡◌, refl, List, length, Ok, Err}
use Rattle.std.proofs.Common.{arith, ◌∙◌}
use Rattle.format.specs.Laws.Answers.{Read}
use Rattle.format.specs.Format.{Format}
use Rattle.format.specs.Combinators.{each}
use Rattle.format.specs.Laws.Seen.{seen, none, ok_parts, unlike}
use Rattle.format.specs.Laws.Rows.{run_done, run_go, run_stop}
use Rattle.format.specs.Laws.Written.{Held}
use Rattle.format.specs.Laws.Back.{Where, stands_seen}
use Rattle.format.specs.Laws.Skip.{Skipped, skip_start, skip_end, skip_nth, skip_step}
use Rattle.each.specs.Laws.Chain.{Onward, Chain}

-- what is said of where a reading ended, said otherwise
onward : (U V : ℕ → Type 0) (q r : Read) → ((p : ℕ) → U p → V p) → Onward U q r → Onward V q r
unfolding Onward
onward U V (Ok (p, v)) r f u = f p u
onward U V (Err why) r f u = u

module _ {A : Type 0} (P : ℕ → ℕ → Read → Type 0) (a : ℕ → Format A) (s : List ℕ) where
  -- each tells of a value by the format of its place in the row: all, of the row
  module _ (g : A → ℕ) (tells : (at i : ℕ) (r : Read) → P at i r → r ≡ seen g (a i) s at) where
    -- of the row's values from i on, r is what the reading of the first and those behind it come to
    row_on : (k i at : ℕ) (q r : Read) → P at i q → Onward (λ p. r ≡ seen none (each a (i + 1) k) s p) q r → r ≡ seen none (each a i (suc k)) s at
    unfolding Onward
    row_on k i at (Ok (p, v)) r h u =
        let z : i + suc k - i ≡ suc k = omega arith in
        let y : i + suc k - (i + 1) ≡ k = omega arith in
        u ∙ rw (y, z) at (run_go a s (i + suc k) i at g refl (omega arith) (tells at i (Ok (p, v)) h) refl)
    row_on k i at (Err why) r h u =
        let z : i + suc k - i ≡ suc k = omega arith in
        u ∙ rw z at (run_stop a s (i + suc k) i at g refl (omega arith) (tells at i (Err why) h) refl)

    chain_row : (k i at : ℕ) (r : Read) → Chain P at i k r → r ≡ seen none (each a i k) s at
    unfolding Chain
    chain_row zero i at r w =
        let z : i - i ≡ 0 = omega arith in
        w ∙ rw z at (run_done a s i i at refl (omega arith))
    chain_row (suc k) i at r w = row_on k i at w.0 r w.1.0 (onward _ _ w.0 r (λ p u. chain_row k (i + 1) p r u) w.1.1)

    pub chain_seen : (n at : ℕ) (r : Read) → Chain P at 0 n r → r ≡ seen none (each a 0 n) s at
    chain_seen n at r w = chain_row n 0 at r w

  -- of each that stands as a value of the row, it tells where it ends: where the row's value n starts
  module _ (tells : (at i : ℕ) (r : Read) → P at i r → (x : A) → Held (a i) s at x → (v : ℕ) × (r ≡ Ok (at + length ((a i).write x), v))) (from n : ℕ) where
    skip_on : (i at : ℕ) (q r : Read) → i < n → Skipped a s from n i (Ok (at, 0)) → P at i q → Onward (λ p. Skipped a s from n (i + 1) (Ok (p, 0)) → Skipped a s from n n r) q r → Skipped a s from n n r
    unfolding Onward Skipped Where
    skip_on i at (Ok (p, v)) r l f h u = u (skip_step a s from n i at f p l (λ x b. (ok_parts (tells at i (Ok (p, v)) h x b).1).0))
    skip_on i at (Err why) r l f h u = λ xs t row m.
        let o = skip_nth a s from n i at f xs t row m l in
        unlike (tells at i (Err why) h o.x (o.tail, o.stands)).1 refl

    chain_on : (k i at : ℕ) (r : Read) → i + k ≡ n → Skipped a s from n i (Ok (at, 0)) → Chain P at i k r → Skipped a s from n n r
    unfolding Chain
    chain_on zero i at r e f w = rw w (skip_end a s from n i at f (omega arith) (omega arith))
    chain_on (suc k) i at r e f w = skip_on i at w.0 r (omega arith) f w.1.0 (onward _ _ w.0 r (λ p u o. chain_on k (i + 1) p r (omega arith) o u) w.1.1)

    pub chain_ends : (r : Read) → Chain P from 0 n r → Skipped a s from n n r
    chain_ends r w = chain_on n 0 from r (omega arith) (skip_start a s from n) w

  pub chain_skips : (g : A → ℕ) → ((at i : ℕ) (r : Read) → P at i r → r ≡ seen g (a i) s at) → (from n : ℕ) (r : Read) → Chain P from 0 n r → Skipped a s from n n r
  chain_skips g tells from n r w = chain_ends (λ at i q h x b. (g x, tells at i q h ∙ stands_seen g (a i) s at b.1)) from n r w

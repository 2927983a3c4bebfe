-- A reader asked again and again, each time from where it ended before; and a loop that does so.
use Rattle.std.specs.Prelude.{ℕ, zero, suc, ◌+◌, ◌-◌, ◌≤◌, ◌<◌, ◌≡◌, refl, Ok, Err, IfErr}
use Rattle.std.proofs.Common.{arith, sym, ◌∙◌}
use Rattle.format.specs.Laws.Answers.{Read}
use Rattle.format.specs.Laws.Fault.{Own}
use Rattle.format.specs.declared.Refusal.{Refusal}

-- behind a reading that said q, r is what `on` says from where it ended; its refusal is r
unfoldable pub Onward : (ℕ → Type 0) → Read → Read → Type 0
Onward on (Ok (p, v)) r = on p
Onward on (Err why) r = r ≡ Err why

-- r is what k readings come to, from a place and the number i on, of which P tells: of each, at a place, with its number, what it said
unfoldable pub Chain : (ℕ → ℕ → Read → Type 0) → ℕ → ℕ → ℕ → Read → Type 0
Chain P at i zero r = r ≡ Ok (at, 0)
Chain P at i (suc k) r = (q : Read) × (P at i q × Onward (λ p. Chain P p (i + 1) k r) q r)

-- ---- two answers coincide where those of the reader do

one_on : (U V : ℕ → Type 0) (q r t : Read) → ((p : ℕ) → U p → V p → r ≡ t) → Onward U q r → Onward V q t → r ≡ t
unfolding Onward
one_on U V (Ok (p, v)) r t f w u = f p w u
one_on U V (Err why) r t f w u = w ∙ sym u

module _ (P : ℕ → ℕ → Read → Type 0) (one : (at i : ℕ) (q r : Read) → P at i q → P at i r → q ≡ r) where
  pub chain_one : (k i at : ℕ) (r t : Read) → Chain P at i k r → Chain P at i k t → r ≡ t
  unfolding Chain
  chain_one zero i at r t w u = w ∙ sym u
  chain_one (suc k) i at r t w u = one_on _ _ w.0 r t (λ p. chain_one k (i + 1) p r t) w.1.1 (rw (one at i u.0 w.0 u.1.0 w.1.0) at u.1.1)

-- ---- its refusal is its own where that of each reading is

own_on : (U : ℕ → Type 0) (q r : Read) → ((p : ℕ) → U p → IfErr r Own) → IfErr q Own → Onward U q r → IfErr r Own
unfolding Onward
own_on U (Ok (p, v)) r f o u = f p u
own_on U (Err why) r f o u = rw u o

module _ (P : ℕ → ℕ → Read → Type 0) (own : (at i : ℕ) (q : Read) → P at i q → IfErr q Own) where
  pub chain_own : (k i at : ℕ) (r : Read) → Chain P at i k r → IfErr r Own
  unfolding Chain
  chain_own zero i at r w = rw w tt
  chain_own (suc k) i at r w = own_on _ w.0 r (λ p u. chain_own k (i + 1) p r u) (own at i w.0 w.1.0) w.1.1

-- ---- as the code goes

module _ (P : ℕ → ℕ → Read → Type 0) (at n : ℕ) where
  -- of n readings from a place on the i first are done, and the last of them ended at p: what the others come to, all of them do
  unfoldable pub Going : ℕ → ℕ → Type 0
  Going p i = (r : Read) → Chain P p i (n - i) r → Chain P at 0 n r

  pub chain_start : Going at 0
  unfolding Going
  chain_start r w = let z : n - 0 ≡ n = omega arith in rw z at w

  module _ (p i : ℕ) where
    pub chain_go : {q : Read} {v m : ℕ} → Going p i → i < n → P p i q → q ≡ Ok (m, v) → Going m (i + 1)
    unfolding Going Chain Onward
    chain_go {q} g l h e r w = let z : n - i ≡ suc (n - (i + 1)) = omega arith in g r (rw z (q, (h, rw e w)))

    pub chain_stop : {q : Read} {why : Refusal} → Going p i → i < n → P p i q → q ≡ Err why → Chain P at 0 n q
    unfolding Going Chain Onward
    chain_stop {q} g l h e = let z : n - i ≡ suc (n - (i + 1)) = omega arith in g q (rw z (q, (h, rw e refl)))

    pub chain_done : Going p i → n ≤ i → Chain P at 0 n (Ok (p, 0))
    unfolding Going Chain
    chain_done g l = let z : n - i ≡ 0 = omega arith in g (Ok (p, 0)) (rw z refl)

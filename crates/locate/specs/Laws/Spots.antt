-- Where a rule of a sound deck stands, as the code finds it.
use Rattle.std.specs.Prelude.{ℕ, ◌+◌, ◌≤◌, ◌<◌, refl, List, Ok, Err, Some, None}
use Rattle.std.proofs.Common.{arith, ◌∙◌}
use Rattle.std.proofs.Math.Path.{◌≡◌, sym, ap, ap₂}
use Rattle.std.proofs.Math.ListN.{length, length-append}
use Rattle.format.specs.declared.Fault.{Fault}
use Rattle.kind.specs.Answers.{Edition}
use Rattle.format.specs.Answers.{Outcome}
use Rattle.format.specs.Laws.Answers.{Read}
use Rattle.scan.specs.Answers.{Scan}
use Rattle.spot.specs.Laws.Answers.{Spot}
use Rattle.format.specs.declared.Refusal.{Refusal}
use Rattle.format.specs.declared.Refusal.TheVariants.{At}
use Rattle.format.specs.Format.{Answer, got, refused, Bytes}
use Rattle.format.specs.Laws.Back.{Where}
use Rattle.kind.specs.declared.Product.{Product}
use Rattle.kind.specs.Kinds.{edition_of}
use Rattle.rule.specs.Rule.{Rule}
use Rattle.rule.specs.Laws.Parts.{front, back, rule_is}
use Rattle.scan.specs.Laws.Scan.{scan_parts}
use Rattle.deck.specs.Deck.{Deck, base_of, read_as, read_by, read_deck, scanned}
use Rattle.deck.specs.Written.{deck_of, start_of}
use Rattle.deck.specs.Laws.Deck.{read_writes_back}
use Rattle.steps.specs.Laws.Steps.{Sound, sound_read, Here, here, here_at, Follows, follows_got, follows_never, start_past}
use Rattle.steps.specs.Laws.Starts.{Starts, starts_is, starts_never}
use Rattle.locate.specs.Laws.Located.{located}

-- whatever n rules a sound deck has, w is where rule k stands
unfoldable pub Spots : List ℕ → ℕ → ℕ → ℕ → ℕ → Spot → Type 0
Spots s v b n k w = (p : Product) (rs : List Rule) → Sound p v s rs → b ≡ base_of v n → n ≡ length rs → w ≡ located (λ xs. k) (got (deck_of v rs) (length s))

module _ (s : List ℕ) (v b n k : ℕ) where
  pub spots_past : n ≤ k → Spots s v b n k (Ok (record { bytes = length s; version = v; rules = n; base = b; start = length s; end = length s }))
  unfolding Spots
  spots_past l p rs o eb e = rw (start_past p v s rs k o (omega arith), start_past p v s rs (k + 1) o (omega arith), eb, e)

  -- f is what its start was told as, e its end
  module _ {f : Read} where
    pub spots_unreached : (w : Spot) {why : Refusal} → k < n → Starts s v b k f → f ≡ Err why → Spots s v b n k w
    unfolding Spots
    spots_unreached w l g h p rs o eb x = starts_never s v b k g p rs o (rw x at eb) (omega arith) h

    module _ {u a : ℕ} (l : k < n) (g : Starts s v b k f) (h : f ≡ Ok (a, u)) where
      stands : (p : Product) (rs : List Rule) → Sound p v s rs → b ≡ base_of v n → n ≡ length rs → (a ≡ start_of v rs k) × Here p v s rs k
      stands p rs o eb x = (starts_is s v b k g p rs o (rw x at eb) (omega arith) h, here p v s rs k o (omega arith))

      pub spots_unended : (w : Spot) {e : Read} {why : Refusal} → Follows s a e → e ≡ Err why → Spots s v b n k w
      unfolding Spots
      spots_unended w i j p rs o eb x = let z = stands p rs o eb x in follows_never s a i p k j z.1.r (here_at p v s rs k a z.1 z.0)

      pub spots_is : {e : Read} {t d : ℕ} → Follows s a e → e ≡ Ok (d, t) → Spots s v b n k (Ok (record { bytes = length s; version = v; rules = n; base = b; start = a; end = d }))
      unfolding Spots Where
      spots_is {d = d} i j p rs o eb x =
          let z = stands p rs o eb x in
          let r = z.1.r in
          let ed : d ≡ start_of v rs (k + 1) = omega (arith, follows_got s a i p k j r (here_at p v s rs k a z.1 z.0), z.0, z.1.ends, ap length (rule_is p k r), length-append (front r) (back k r.elements)) in
          rw (eb, x, z.0, ed)

-- k is the rule that is asked for
module _ (k : List Rule → ℕ) (edition : ℕ) (s : List ℕ) {c : Scan} where
  pub located_no : {why : Refusal} → c ≡ scanned (read_deck edition s) → c ≡ Err why → (w : Spot) → w ≡ Err why → w ≡ located k (read_deck edition s)
  located_no {why = why} e h w g = g ∙ go (read_deck edition s) (sym h ∙ e)
    where
      go : (a : Answer Deck) → ◌≡◌ {A = Scan} (Err why) (scanned a) → ◌≡◌ {A = Spot} (Err why) (located k a)
      go (got rs m) z = absurd (let y : ◌≡◌ {A = ℕ} 0 1 = cc in omega arith)
      go (refused x y) z = cc

  -- an accepted deck is sound
  pub located_is : (j : ℕ) {w : Spot} {v b n t m : ℕ} → Bytes s → c ≡ scanned (read_deck edition s) → c ≡ Ok (v, b, n, t) → Spots s v b m j w → m ≡ n → ((rs : List Rule) → n ≡ length rs → j ≡ k rs) → w ≡ located k (read_deck edition s)
  unfolding read_deck read_by Spots
  located_is j {w} {v} {b} {n} {t} {m} bs e h f en ek = by (edition_of edition) (sym h ∙ e)
    where
      go : (p : Product) (a : Answer Deck) → read_as p s ≡ a → Ok (v, b, n, t) ≡ scanned a → w ≡ located k a
      go p (got d l) r z =
          let y = read_writes_back p s d l bs r in
          let w = scan_parts z in
          let x : n ≡ length d.rules = w.rules in
          let ev : v ≡ d.version = w.version in
          let eb : b ≡ base_of d.version (length d.rules) = w.base in
          rw (← ek d.rules x, y.ends) (f p d.rules (rw ev (sound_read p s d l bs r)) (eb ∙ ap₂ base_of (sym ev) (sym x ∙ sym en)) (en ∙ x) ∙ rw ev)
      go p (refused x y) r z = absurd (let u : ◌≡◌ {A = ℕ} 0 1 = cc in omega arith)

      by : (o : Edition) → Ok (v, b, n, t) ≡ scanned (read_by o s) → w ≡ located k (read_by o s)
      by (Some p) z = go p (read_as p s) refl z
      by None z = absurd (let u : ◌≡◌ {A = ℕ} 0 1 = cc in omega arith)

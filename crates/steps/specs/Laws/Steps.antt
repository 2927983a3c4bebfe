-- From rule to rule of a sound deck.
use Rattle.std.specs.Prelude.{ℕ, ◌+◌, ◌-◌, ◌≤◌, ◌<◌, ◌≡◌, Bool, drop, Ok, Err, IfErr}
use Rattle.std.proofs.Common.{arith, ◌∙◌, length-append, drop_at}
use Rattle.std.proofs.Math.Decide.{dec_lt}
use Rattle.std.proofs.Math.Path.{refl, sym, ap}
use Rattle.std.proofs.Math.Bool.{true, false}
use mathlib.Core.List.{List, [], ◌∷◌, ◌++◌, append_assoc}
use Rattle.std.proofs.Math.ListN.{length, take}
use Rattle.std.proofs.Math.Dec.{leb}
use borrow.Author.Tests.{le-leb, lt-leb, leb-true}
use Rattle.std.proofs.Math.Seq.{take_all}
use Rattle.format.specs.declared.Fault.{Fault}
use Rattle.format.specs.Laws.Answers.{Read}
use Rattle.format.specs.Laws.Fault.{Own}
use Rattle.format.specs.declared.Refusal.{Refusal}
use Rattle.format.specs.declared.Refusal.TheVariants.{At}
use Rattle.format.specs.Format.{got, Bytes, pick}
use Rattle.format.specs.Laws.ReadWrite.{length_spelt}
use Rattle.format.specs.ReadWrite.{value}
use Rattle.format.specs.Combinators.{number, each}
use Rattle.format.specs.Laws.Seen.{ok_parts, seen, seen_own, itself, unlike, got_at, none, number_is, number_no}
use Rattle.format.specs.Laws.Fours.{fours_no}
use Rattle.format.specs.Laws.Written.{Held, Row}
use Rattle.format.specs.Laws.Back.{Where, stands_seen, stands_room, seen_ends}
use Rattle.format.specs.Row.{start_in}
use Rattle.format.specs.Laws.Skip.{Skipped, Nth, nth, start_more}
use Rattle.each.specs.Laws.Chain.{Chain}
use Rattle.each.specs.Laws.Row.{chain_ends}
use Rattle.text.specs.Text.{string}
use Rattle.kind.specs.declared.Product.{Product}
use Rattle.rule.specs.Rule.{Rule, rule}
use Rattle.rule.specs.Laws.Parts.{front, back, size_of, body_size, rule_is}
use Rattle.rule.specs.Places.{rule_bytes, enabled_at}
use Rattle.rule.specs.Laws.Places.{rule_parts}
use Rattle.deck.specs.Deck.{Deck, deck, base_of, read_as}
use Rattle.deck.specs.Laws.Deck.{read_writes_back}
use Rattle.deck.specs.Written.{deck_of, written, start_of}
use Rattle.deck.specs.Laws.Written.{deck_row, written_as, written_is, written_at, rules, rules_cons, before, before_long, start_as}

-- ---- a sound deck: its rules fit, and it is what they are written as in its version
pub record Sound (p : Product) (v : ℕ) (s : List ℕ) (rs : List Rule) : Type 0 where
  pub fit : (deck p).Fit (deck_of v rs)
  pub is : s ≡ written v rs
  pub short : length s ≤ 60000

-- what was accepted is sound
pub sound_read : (p : Product) (s : List ℕ) (k : Deck) (n : ℕ) → Bytes s → read_as p s ≡ got k n → Sound p k.version s k.rules
sound_read p s k n bs e = let w = read_writes_back p s k n bs e in record { fit = w.fit; is = w.is ∙ written_as k.version k.rules p; short = w.short }

-- rule k of a sound deck, with what stands before it and behind it
pub record Here (p : Product) (v : ℕ) (s : List ℕ) (rs : List Rule) (k : ℕ) : Type 0 where
  pub r : Rule
  pub later : List Rule
  pub from : drop k rs ≡ r ∷ later
  pub fits : (rule p k).Fit r
  pub is : s ≡ before v rs k ++ (front r ++ (back k r.elements ++ rules (k + 1) later))
  pub starts : length (before v rs k) ≡ start_of v rs k
  pub ends : start_of v rs (k + 1) ≡ start_of v rs k + (length (front r) + length (back k r.elements))

-- its rules stand where they start
sound_row : (p : Product) (v : ℕ) (s : List ℕ) (rs : List Rule) → Sound p v s rs → Row (rule p) s 0 (base_of v (length rs)) rs []
sound_row p v s rs o = deck_row p s (deck_of v rs) o.fit (o.is ∙ sym (written_as v rs p))

pub here : (p : Product) (v : ℕ) (s : List ℕ) (rs : List Rule) (k : ℕ) → Sound p v s rs → k < length rs → Here p v s rs k
here p v s rs k o l = go (nth (rule p) s (base_of v (length rs)) k (start_in (rule p) (base_of v (length rs)) rs k) rs [] refl (sound_row p v s rs o) l)
  where
    go : Nth (rule p) s (base_of v (length rs)) k (start_in (rule p) (base_of v (length rs)) rs k) rs → Here p v s rs k
    go y =
        let i = written_at v rs k (omega arith) in
        record {
          r = y.x;
          later = y.ys;
          from = y.whole;
          fits = y.stands.fit;
          is = o.is ∙ (rw (y.whole, rules_cons) at i);
          starts = before_long v rs k;
          ends = omega (arith, start_as v rs k p, start_as v rs (k + 1) p, start_more (rule p) (base_of v (length rs)) k rs y.ys y.x y.whole, ap length (rule_is p k y.x), length-append (front y.x) (back k y.x.elements));
        }

-- rule k of a sound deck stands where it starts
pub here_stands : (p : Product) (v : ℕ) (s : List ℕ) (rs : List Rule) (k : ℕ) (h : Here p v s rs k) → Held (rule p k) s (start_of v rs k) h.r
here_stands p v s rs k h =
    let L = rules (k + 1) h.later in
    let w : front h.r ++ (back k h.r.elements ++ L) ≡ (rule p k).write h.r ++ L = rw (rule_is p k h.r, append_assoc) in
    (L, record { fit = h.fits; is = ap (drop (start_of v rs k)) h.is ∙ drop_at (before v rs k) _ (start_of v rs k) h.starts ∙ w })

pub here_at : (p : Product) (v : ℕ) (s : List ℕ) (rs : List Rule) (k a : ℕ) (h : Here p v s rs k) → a ≡ start_of v rs k → Held (rule p k) s a h.r
here_at p v s rs k a h e = rw e (here_stands p v s rs k h)

-- ---- a rule that stands at a place, as it is stepped over

-- whatever rule stands at a place, r tells where it ends
unfoldable pub Follows : List ℕ → ℕ → Read → Type 0
Follows s at r = (p : Product) (i : ℕ) → Where (rule p i) s at (λ x. Ok (at + rule_bytes p i x, 0)) r

-- the name of the rule that starts at a place: behind the 4 bytes of its signature
unfoldable pub name_read : List ℕ → ℕ → Read
name_read s at = pick (leb 4 (length s - at)) (seen none string s (at + 4)) (Err (At Fault.Cut at))

-- where it ends; where no String can be read there, the place itself
abbrev pub ended : ℕ → Read → ℕ
ended at (Ok (n, v)) = n
ended at (Err why) = at

unfoldable pub name_end : List ℕ → ℕ → ℕ
name_end s at = ended at (name_read s at)

module _ (s : List ℕ) (at : ℕ) where
  pub name_read_lem : (p : Product) (i : ℕ) (x : Rule) → Held (rule p i) s at x → name_read s at ≡ Ok (enabled_at at x, 0)
  unfolding name_read pick
  name_read_lem p i x b =
      let y = rule_parts p i s at x b.0 b.1 in
      let h : 4 ≤ length s - at = omega (arith, stands_room (rule p i) s at b.1, y.ends) in
      rw (le-leb 4 (length s - at) h) (stands_seen none string s (at + 4) y.named.1)

  pub name_end_lem : (p : Product) (i : ℕ) (x : Rule) → Held (rule p i) s at x → name_end s at ≡ enabled_at at x
  unfolding name_end
  name_end_lem p i x b = ap (ended at) (name_read_lem p i x b)

  -- it stands to its end
  all_there : (p : Product) (i : ℕ) (x : Rule) → Held (rule p i) s at x → name_end s at + 24 + size_of i x.elements ≤ length s
  all_there p i x b = omega (arith, name_end_lem p i x b, (rule_parts p i s at x b.0 b.1).ends, body_size p i x.elements, stands_room (rule p i) s at b.1)

  -- g is what the signature was read as
  module _ {g : Read} (e : g ≡ seen itself (number 4) s at) where
    pub name_past : {why : Refusal} → g ≡ Err why → g ≡ name_read s at
    unfolding name_read pick
    name_past h =
        elim (dec_lt (length s - at) 4) [
          | yes l ↦ rw (lt-leb 4 (length s - at) l) (e ∙ sym (number_no 4 s at l))
          | no l ↦ unlike (e ∙ sym (number_is 4 s at refl (omega arith))) h
        ]

    pub name_is : {t : Read} {v m : ℕ} → g ≡ Ok (m, v) → t ≡ seen none string s m → t ≡ name_read s at
    unfolding name_read pick
    name_is {m = m} h f =
        elim (dec_lt (length s - at) 4) [
          | yes l ↦ unlike h (e ∙ sym (number_no 4 s at l))
          | no l ↦
              let w : ◌≡◌ {A = Read} (Ok (at + 4, value (take 4 (drop at s)))) g = number_is 4 s at refl (omega arith) ∙ sym e in
              let z : m ≡ at + 4 = (ok_parts (sym h ∙ sym w)).0 in
              rw (le-leb 4 (length s - at) (omega arith)) (rw z at f)
        ]

  pub name_within : at ≤ length s → name_end s at ≤ length s
  unfolding name_end name_read pick
  name_within l = go (leb 4 (length s - at)) refl (seen none string s (at + 4)) refl
    where
      go : (b : Bool) → leb 4 (length s - at) ≡ b → (t : Read) → seen none string s (at + 4) ≡ t → ended at (pick b t (Err (At Fault.Cut at))) ≤ length s
      go true e (Ok (n, v)) f = omega (arith, leb-true 4 (length s - at) e, seen_ends none string s (at + 4) refl f)
      go true e (Err why) f = l
      go false e t f = l

  -- t is what the name was read as
  module _ {t : Read} (f : t ≡ name_read s at) where
    pub name_own : IfErr t Own
    unfolding name_read pick
    name_own = rw f (go (leb 4 (length s - at)))
      where
        go : (b : Bool) → IfErr (pick b (seen none string s (at + 4)) (Err (At Fault.Cut at))) Own
        go true = seen_own none string s (at + 4) refl
        go false = tt

    pub name_got : {u m : ℕ} → t ≡ Ok (m, u) → m ≡ name_end s at
    unfolding name_end
    name_got h = ap (ended at) (sym h ∙ f)

    pub name_never : {B : Type 0} {why : Refusal} → t ≡ Err why → (p : Product) (i : ℕ) (x : Rule) → Held (rule p i) s at x → B
    name_never h p i x b = unlike (f ∙ name_read_lem p i x b) h

  -- m is where the name ends, z what Data Size was read as
  module _ {m : ℕ} {z : Read} where
    pub size_read : (p : Product) (i : ℕ) (x : Rule) → Held (rule p i) s at x → m ≡ name_end s at → z ≡ seen itself (number 4) s (m + 20) → z ≡ Ok (m + 20 + 4, size_of i x.elements)
    unfolding number
    size_read p i x b e f =
        let w = e ∙ name_end_lem p i x b in
        let y = (rule_parts p i s at x b.0 b.1).sizes in
        rw w (rw w at f ∙ (rw (length_spelt, body_size) at (stands_seen itself (number 4) s _ y.1)))

    pub size_is : {v q : ℕ} (p : Product) (i : ℕ) (x : Rule) → Held (rule p i) s at x → m ≡ name_end s at → z ≡ seen itself (number 4) s (m + 20) → z ≡ Ok (q, v) → (v ≡ size_of i x.elements) × (q ≡ m + 20 + 4)
    size_is p i x b e f k = let g = ok_parts (sym k ∙ size_read p i x b e f) in (g.1, g.0)

  module _ {t : Read} where
    pub follows_unnamed : (r : Read) {why : Refusal} → t ≡ name_read s at → t ≡ Err why → Follows s at r
    unfolding Follows Where
    follows_unnamed r f h p i x b = name_never f h p i x b

    module _ {u m : ℕ} where
      pub follows_short : (r : Read) {w : Read} {why : Refusal} → t ≡ name_read s at → t ≡ Ok (m, u) → w ≡ seen none (each (λ i. number 4) 0 6) s m → w ≡ Err why → Follows s at r
      unfolding Follows Where
      follows_short r f h g k p i x b = absurd (omega (arith, name_got f h, all_there p i x b, (fours_no s m 6 g k).0))

      module _ {z : Read} where
        pub follows_unsized : (r : Read) {why : Refusal} → t ≡ name_read s at → t ≡ Ok (m, u) → z ≡ seen itself (number 4) s (m + 20) → z ≡ Err why → Follows s at r
        unfolding Follows Where
        follows_unsized r f h o k p i x b = unlike (size_read p i x b (name_got f h) o) k

        module _ {v q : ℕ} where
          pub follows_cut : (r : Read) → t ≡ name_read s at → t ≡ Ok (m, u) → z ≡ seen itself (number 4) s (m + 20) → z ≡ Ok (q, v) → length s < q + v → Follows s at r
          unfolding Follows Where
          follows_cut r f h o k l p i x b =
              let e = name_got f h in
              let d = size_is p i x b e o k in
              absurd (omega (arith, all_there p i x b, d.0, d.1, e))

          pub follows_is : t ≡ name_read s at → t ≡ Ok (m, u) → z ≡ seen itself (number 4) s (m + 20) → z ≡ Ok (q, v) → Follows s at (Ok (q + v, 0))
          unfolding Follows Where
          follows_is f h o k p i x b =
              let e = name_got f h in
              let d = size_is p i x b e o k in
              got_at (omega (arith, (rule_parts p i s at x b.0 b.1).ends, body_size p i x.elements, d.0, d.1, e, name_end_lem p i x b))

pub ruleset following = (follows_unnamed, follows_short, follows_unsized, follows_cut, follows_is)

-- r is what was told of its end
module _ (s : List ℕ) (at : ℕ) {r : Read} (f : Follows s at r) (p : Product) (i : ℕ) where
  pub follows_got : {v q : ℕ} → r ≡ Ok (q, v) → Where (rule p i) s at (λ x. at + rule_bytes p i x) q
  unfolding Follows Where
  follows_got h x b = (ok_parts (sym h ∙ f p i x b)).0

  pub follows_never : {B : Type 0} {why : Refusal} → r ≡ Err why → (x : Rule) → Held (rule p i) s at x → B
  unfolding Follows Where
  follows_never h x b = unlike (f p i x b) h

-- ---- from rule to rule

-- whatever rules stand from a place on, k of them or more, r tells where rule i of them starts
unfoldable pub Reached : List ℕ → ℕ → ℕ → ℕ → Read → Type 0
Reached s base k i r = (p : Product) → Skipped (rule p) s base k i r

module _ (s : List ℕ) (base k : ℕ) where
  -- each reading tells where the rule ends from which it starts
  pub reached_by : (P : ℕ → ℕ → Read → Type 0) → ((at i : ℕ) (q : Read) → P at i q → Follows s at q) → (r : Read) → Chain P base 0 k r → Reached s base k k r
  unfolding Reached Follows Where
  reached_by P tells r w p = chain_ends P (rule p) s (λ at i q h x b. (0, tells at i q h p i x b)) base k r w

  -- of a sound deck
  pub reached_is : (i : ℕ) {r : Read} → Reached s base k i r → (p : Product) (v : ℕ) (rs : List Rule) → Sound p v s rs → base ≡ base_of v (length rs) → k ≤ length rs → r ≡ Ok (start_of v rs i, 0)
  unfolding Reached Skipped
  reached_is i w p v rs o e l = w p rs [] (rw e (sound_row p v s rs o)) l ∙ got_at (ap (λ (b : ℕ). start_in (rule p) b rs i) e ∙ start_as v rs i p)

-- ---- past the last rule, and within the deck

module _ (p : Product) (v : ℕ) (s : List ℕ) (rs : List Rule) (k : ℕ) (o : Sound p v s rs) where
  -- past the last rule there is only the end of the deck
  pub start_past : length rs ≤ k → start_of v rs k ≡ length s
  unfolding before
  start_past l =
      let t : take k rs ≡ rs = take_all k rs l in
      sym (before_long v rs k) ∙ rw t (sym (ap length (o.is ∙ written_is v rs)))

module _ (p : Product) (v : ℕ) (s : List ℕ) (rs : List Rule) (k : ℕ) (o : Sound p v s rs) where
  -- a rule stands within its deck
  pub start_within : (start_of v rs k ≤ start_of v rs (k + 1)) × (start_of v rs (k + 1) ≤ length s)
  start_within =
      elim (dec_lt k (length rs)) [
        | yes l ↦ inside (here p v s rs k o l)
        | no l ↦ let a = start_past p v s rs k o (omega arith) in let b = start_past p v s rs (k + 1) o (omega arith) in (omega arith, omega arith)
      ]
    where
      inside : Here p v s rs k → (start_of v rs k ≤ start_of v rs (k + 1)) × (start_of v rs (k + 1) ≤ length s)
      inside h =
          let B = before v rs k in
          let L = rules (k + 1) h.later in
          let b = back k h.r.elements in
          (omega (arith, h.ends), omega (arith, h.ends, h.starts, ap length h.is, length-append B (front h.r ++ (b ++ L)), length-append (front h.r) (b ++ L), length-append b L))

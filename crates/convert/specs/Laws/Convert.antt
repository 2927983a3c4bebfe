-- Laws of ../Convert.antt: how the code converts; there and back; what a reader of one version alone answers to another.
use Rattle.std.specs.Prelude.{ℕ, ◌+◌, ◌-◌, ◌*◌, ◌≤◌, ◌<◌, Bool, eqb, take, drop, Ok, Err, Some, None}
use Rattle.std.proofs.Common.{zero-mul, arith, sym, ◌∙◌, length-drop, length-take-le, take-add, drop_at, take_all}
use Rattle.std.proofs.Math.Path.{◌≡◌, refl, ap}
use Rattle.std.proofs.Math.Bool.{true, false}
use mathlib.Core.List.{List, [], ◌∷◌, ◌++◌, append_assoc, append-nil}
use Rattle.std.proofs.Math.ListN.{length, length-append}
use borrow.Author.Tests.{le-leb, lt-leb}
use Rattle.format.specs.declared.Fault.{Fault}
use Rattle.kind.specs.Answers.{Edition}
use Rattle.format.specs.Answers.{Outcome}
use Rattle.format.specs.Laws.Answers.{Read}
use Rattle.scan.specs.Answers.{Scan}
use Rattle.format.specs.declared.Refusal.{Refusal}
use Rattle.format.specs.declared.Refusal.TheVariants.{At}
use Rattle.format.specs.Format.{Answer, got, refused, pick, Bytes}
use Rattle.format.specs.ReadWrite.{value, spelt}
use Rattle.format.specs.Laws.ReadWrite.{length_spelt}
use Rattle.format.specs.Laws.Seen.{seen, itself, told}
use Rattle.kind.specs.declared.Product.{Product}
use Rattle.kind.specs.Kinds.{edition_of}
use Rattle.rule.specs.Rule.{Rule}
use Rattle.deck.specs.Deck.{Deck, mark, version, wide, base_of, read_as, read_by, read_deck, scanned}
use Rattle.deck.specs.Written.{deck_of, written}
use Rattle.deck.specs.Laws.Deck.{wide_two, wide_none, base_is, deck_small, deck_rules}
use Rattle.deck.specs.Laws.Written.{opening, opening_long, lead, lead_long, rules, written_is, written_long}
use Rattle.buffer.specs.Laid.{put_in}
use Rattle.buffer.specs.Laws.Laid.{put_both}
use Rattle.buffer.specs.Laws.Holds.{Holds, holds_start, holds_put}
use Rattle.room.specs.Room.{room_for}
use Rattle.room.specs.Laws.Room.{roomy}
use Rattle.steps.specs.Laws.Steps.{Sound, sound_read}
use Rattle.offsets.specs.Laws.Offsets.{Offsets, up_to}
use Rattle.plan.specs.Edit.{become, says, leaves}
use Rattle.plan.specs.Laws.Found.{Does}
use Rattle.plan.specs.Laws.Makes.{made_out, made_in}
use Rattle.plan.specs.Laws.Finish.{index_two, no_index}
use Rattle.convert.specs.Convert.{only_in, read_only, in_other, other_plan, Converts}

-- ---- the version judged
abbrev pub taken_in : ℕ → Read → Bool
taken_in v (Ok (m, u)) = eqb u v
taken_in v (Err why) = true

module _ (p : Product) (v : ℕ) (s : List ℕ) {h : Read} (e : h ≡ seen itself version s 0) (l : length s ≤ 60000) where
  only : (b : Bool) → taken_in v h ≡ b → read_only p v s ≡ pick b (read_as p s) (refused Fault.Version 3)
  unfolding read_only pick seen told
  only b t = rw (le-leb (length s) 60000 l) (go (version.read s) (sym (ap (taken_in v) e) ∙ t))
    where
      go : (q : Answer ℕ) → taken_in v (told 0 itself q) ≡ b → only_in v q (read_as p s) ≡ pick b (read_as p s) (refused Fault.Version 3)
      go (got u m) t = rw t
      go (refused c m) t = rw (← t)

  pub only_is : taken_in v h ≡ true → read_only p v s ≡ read_as p s
  unfolding pick
  only_is t = only true t

  pub only_other : taken_in v h ≡ false → read_only p v s ≡ refused Fault.Version 3
  unfolding pick
  only_other t = only false t

-- ---- the rules in another version
-- mark, version and number of rules, as the code puts them
unfoldable pub headed : ℕ → ℕ → List ℕ → List ℕ
headed u n d = put_in (put_in (put_in d 0 (spelt 3 0x4B4452)) 3 (spelt 2 u)) 5 (spelt 2 n)

pub headed_put : (u n : ℕ) (d : List ℕ) {y₁ y₂ y₃ : List ℕ} → y₁ ≡ put_in d 0 (spelt 3 0x4B4452) → y₂ ≡ put_in y₁ 3 (spelt 2 u) → y₃ ≡ put_in y₂ 5 (spelt 2 n) → y₃ ≡ headed u n d
unfolding headed
headed_put u n d e f g = rw (g, f, e)

headed_is : (u n : ℕ) (d : List ℕ) → 7 ≤ length d → headed u n d ≡ put_in d 0 (opening u ++ spelt 2 n)
unfolding headed opening mark value
headed_is u n d l =
    let a = spelt 3 0x4B4452 in
    let b = spelt 2 u in
    let la = length_spelt 3 0x4B4452 in
    let lb = length_spelt 2 u in
    let lc = length_spelt 2 n in
    let w = put_both d 0 a b {o = 3} refl refl (omega arith) (omega arith) in
    put_both d 0 (a ++ b) (spelt 2 n) {o = 5} w refl (omega (arith, length-append a b)) (omega (arith, length-append a b))

pub length_take_drop : (s : List ℕ) (base : ℕ) → length (take (length s - base) (drop base s)) ≤ length s
length_take_drop s base = omega (arith, length-take-le (length s - base) (drop base s) (omega (arith, length-drop base s)))

-- whatever rules the sound deck s has, n of them, which start at base: they are written in version u
unfoldable pub Rewrites : List ℕ → ℕ → ℕ → ℕ → List ℕ → Outcome → List ℕ → Type 0
Rewrites s base n u d r d' = (p : Product) (v : ℕ) (rs : List Rule) → Sound p v s rs → base ≡ base_of v (length rs) → n ≡ length rs → Does u 0 (become rs) d r d'

module _ (s : List ℕ) (base n u : ℕ) where
  -- the rules, as they are lent
  module _ (p : Product) (v : ℕ) (rs : List Rule) (o : Sound p v s rs) (eb : base ≡ base_of v (length rs)) where
    lent : take (length s - base) (drop base s) ≡ rules 0 rs
    lent =
        let d : drop base s ≡ rules 0 rs = ap (drop base) (o.is ∙ written_is v rs) ∙ drop_at (lead v rs) (rules 0 rs) base (lead_long v rs ∙ sym eb) in
        take_all (length s - base) (drop base s) (omega (arith, length-drop base s)) ∙ d

    long : {w : ℕ} → w ≡ wide u → n ≡ length rs → 7 + w * n + length (take (length s - base) (drop base s)) ≡ length (written u rs)
    long e en = rw lent (omega (arith, base_is u n e, ap (base_of u) en, written_long u rs))

  module _ (d : List ℕ) (w : ℕ) where
    pub rewrite_out : {t r : Outcome} {why : Refusal} → w ≡ wide u → t ≡ room_for n (7 + w * n + length (take (length s - base) (drop base s))) (length d) → t ≡ Err why → r ≡ Err why → Rewrites s base n u d r d
    unfolding Rewrites
    rewrite_out ew j h er p v rs o eb en = made_out u 0 d refl j h er en (long p v rs o eb ew en)

    -- header and rules stand there
    module _ (p : Product) (v : ℕ) (rs : List Rule) (o : Sound p v s rs) (eb : base ≡ base_of v (length rs)) (en : n ≡ length rs) (ew : w ≡ wide u) (l : 7 + w * n + length (rules 0 rs) ≤ length d) where
      both : {y₁ y₂ : List ℕ} → y₁ ≡ headed u n d → y₂ ≡ put_in y₁ (7 + w * n) (take (length s - base) (drop base s)) → (G : List ℕ) × ((length G ≡ w * n) × Holds y₂ ((opening u ++ spelt 2 n) ++ (G ++ rules 0 rs)) (7 + w * n + length (rules 0 rs)) d)
      both {y₁} {y₂} e₁ e₂ =
          let R = rules 0 rs in
          let N = 7 + w * n + length R in
          let P = opening u ++ spelt 2 n in
          let A = take 7 d in
          let G = take (w * n) (drop 7 d) in
          let X = take (length R) (drop (7 + w * n) d) in
          let a : take N d ≡ take (7 + w * n) d ++ X = take-add (7 + w * n) (length R) d in
          let b : take (7 + w * n) d ≡ A ++ G = take-add 7 (w * n) d in
          let c : take N d ≡ [] ++ (A ++ (G ++ X)) = a ∙ rw b (append_assoc A G X) in
          let lp : length P ≡ 7 = omega (arith, length-append (opening u) (spelt 2 n), opening_long u, length_spelt 2 n) in
          let lg : length G ≡ w * n = length-take-le (w * n) (drop 7 d) (omega (arith, length-drop 7 d)) in
          let h₁ = holds_put [] A (G ++ X) P {at = 0} (holds_start d N (omega arith)) c refl (length-take-le 7 d (omega arith) ∙ sym lp) (e₁ ∙ headed_is u n d (omega arith)) in
          let h₂ = holds_put (P ++ G) X [] R {at = 7 + w * n} h₁ (rw append-nil (sym (append_assoc P G X))) (omega (arith, length-append P G, lp, lg)) (length-take-le (length R) (drop (7 + w * n) d) (omega (arith, length-drop (7 + w * n) d))) (e₂ ∙ rw (lent p v rs o eb)) in
          (G, (lg, rw (append-nil R, append_assoc P G R) at h₂))

    finish : {t : Outcome} {y : List ℕ} {x : ℕ} (p : Product) (v : ℕ) (rs : List Rule) → Sound p v s rs → base ≡ base_of v (length rs) → n ≡ length rs → w ≡ wide u → t ≡ room_for n (7 + w * n + length (take (length s - base) (drop base s))) (length d) → t ≡ Ok x
        → Holds y (written u rs) (7 + w * n + length (rules 0 rs)) d → Does u 0 (become rs) d t y
    finish p v rs o eb en ew j h k = made_in u 0 d j h k refl refl (sym (long p v rs o eb ew en)) (rw (lent p v rs o eb) (omega arith)) en

    room : {t : Outcome} {x : ℕ} (p : Product) (v : ℕ) (rs : List Rule) → Sound p v s rs → base ≡ base_of v (length rs) → t ≡ room_for n (7 + w * n + length (take (length s - base) (drop base s))) (length d) → t ≡ Ok x → 7 + w * n + length (rules 0 rs) ≤ length d
    room p v rs o eb j h = rw (lent p v rs o eb) at (roomy n (7 + w * n + length (take (length s - base) (drop base s))) (length d) j h).inside

    -- offsets of no bytes
    plain_is : (rs : List Rule) (G : List ℕ) → n ≡ length rs → length G ≡ w * n → w ≡ wide u → (u ≡ 2 → ⊥) → (opening u ++ spelt 2 n) ++ (G ++ rules 0 rs) ≡ written u rs
    unfolding lead
    plain_is rs G en lg ew other =
        let z : 0 ≡ wide u = wide_none other in
        let g : G ≡ [] = nothing G (lg ∙ rw (ew, ← z) (zero-mul n)) in
        rw (g, en) (sym (written_is u rs ∙ rw (no_index u rs z, append-nil)))
      where
        nothing : (x : List ℕ) → length x ≡ 0 → x ≡ []
        nothing [] e = refl
        nothing (x ∷ xs) e = absurd (omega arith)

    pub rewrite_plain : {t : Outcome} {x : ℕ} {y₁ y₂ : List ℕ} → w ≡ wide u → t ≡ room_for n (7 + w * n + length (take (length s - base) (drop base s))) (length d) → t ≡ Ok x → y₁ ≡ headed u n d → y₂ ≡ put_in y₁ (7 + w * n) (take (length s - base) (drop base s)) → (u ≡ 2 → ⊥) → Rewrites s base n u d t y₂
    unfolding Rewrites
    rewrite_plain {y₂ = y₂} ew j h e₁ e₂ other p v rs o eb en =
        let k = both p v rs o eb en ew (room p v rs o eb j h) e₁ e₂ in
        finish p v rs o eb en ew j h (rw (plain_is rs k.0 en k.1.0 ew other) at k.1.1)

    pub rewrite_two : {t : Outcome} {x : ℕ} {y₁ y₂ : List ℕ} (y₃ : List ℕ) → w ≡ wide u → t ≡ room_for n (7 + w * n + length (take (length s - base) (drop base s))) (length d) → t ≡ Ok x → y₁ ≡ headed u n d → y₂ ≡ put_in y₁ (7 + w * n) (take (length s - base) (drop base s)) → u ≡ 2 → Offsets n y₂ y₃ → Rewrites s base n u d t y₃
    unfolding Rewrites Offsets lead
    rewrite_two y₃ ew j h e₁ e₂ two f p v rs o eb en =
        let k = both p v rs o eb en ew (room p v rs o eb j h) e₁ e₂ in
        let P = opening u ++ spelt 2 n in
        let lp : length P ≡ 7 = omega (arith, length-append (opening u) (spelt 2 n), opening_long u, length_spelt 2 n) in
        let lg : length k.0 ≡ 4 * n = k.1.0 ∙ rw (ew, ← wide_two two) refl in
        let few : n ≤ 256 = omega (arith, en, deck_small p (deck_of v rs) o.fit) in
        let y = f p rs P k.0 d (7 + w * n + length (rules 0 rs)) few lp lg en (deck_rules p (deck_of v rs) o.fit) k.1.1 in
        let z : P ++ (up_to n n rs ++ rules 0 rs) ≡ written u rs = rw (index_two u n rs two en) (rw en (sym (written_is u rs ∙ simp append_assoc))) in
        finish p v rs o eb en ew j h (rw z at y)

-- ---- the whole

-- where rules start, and how many
abbrev base_in : Scan → ℕ
base_in (Ok (w, b, n, m)) = b
base_in (Err why) = 0

abbrev number_in : Scan → ℕ
number_in (Ok (w, b, n, m)) = n
number_in (Err why) = 0

module _ (edition v u : ℕ) (s d : List ℕ) where
  pub convert_unknown : {e : Edition} → e ≡ edition_of edition → e ≡ None → Converts edition v u s d (Err (At Fault.Edition 0)) d
  unfolding other_plan says leaves
  convert_unknown e h = rw (← e, h) (refl, refl)

  module _ {e : Edition} {p : Product} (e₁ : e ≡ edition_of edition) (e₂ : e ≡ Some p) where
    pub convert_long : 60000 < length s → Converts edition v u s d (Err (At Fault.Long 60000)) d
    unfolding other_plan read_only pick says leaves
    convert_long l = rw (← e₁, e₂, lt-leb (length s) 60000 l) (refl, refl)

    pub convert_other : {h : Read} → length s ≤ 60000 → h ≡ seen itself version s 0 → taken_in v h ≡ false → Converts edition v u s d (Err (At Fault.Version 3)) d
    unfolding other_plan says leaves
    convert_other l h t = rw (← e₁, e₂, only_other p v s h l t) (refl, refl)

    -- what the pass tells
    module _ {h : Read} {c : Scan} (l : length s ≤ 60000) (eh : h ≡ seen itself version s 0) (t : taken_in v h ≡ true) (ec : c ≡ scanned (read_deck edition s)) where
      read : read_deck edition s ≡ read_as p s
      unfolding read_deck read_by
      read = rw (← e₁, e₂)

      pub convert_no : {why : Refusal} {r : Outcome} → c ≡ Err why → r ≡ Err why → Converts edition v u s d r d
      unfolding other_plan says leaves
      convert_no {why} {r} k er = rw (← e₁, e₂, only_is p v s eh l t) (go (read_as p s) (sym k ∙ ec ∙ ap scanned read))
        where
          go : (a : Answer Deck) → Err why ≡ scanned a → (r ≡ says (in_other u (length d) a)) × (d ≡ leaves 0 d (in_other u (length d) a))
          go (got k m) z = absurd (let y : ◌≡◌ {A = ℕ} 0 1 = cc in omega arith)
          go (refused x y) z = (er ∙ (cc), refl)

      pub convert_is : {w b n m : ℕ} (r : Outcome) (d' : List ℕ) → Bytes s → c ≡ Ok (w, b, n, m) → Rewrites s b n u d r d' → Converts edition v u s d r d'
      unfolding other_plan Rewrites
      convert_is {w} {b} {n} {m} r d' bs k f = rw (← e₁, e₂, only_is p v s eh l t) (go (read_as p s) refl (sym k ∙ ec ∙ ap scanned read))
        where
          go : (a : Answer Deck) → read_as p s ≡ a → ◌≡◌ {A = Scan} (Ok (w, b, n, m)) (scanned a) → (r ≡ says (in_other u (length d) a)) × (d' ≡ leaves 0 d (in_other u (length d) a))
          go (got x i) e z = f p x.version x.rules (sound_read p s x i bs e) (ap base_in z) (ap number_in z)
          go (refused x y) e z = absurd (let q : ◌≡◌ {A = ℕ} 0 1 = cc in omega arith)

-- the bounds of a deck that was accepted
pub convert_ready : (edition : ℕ) (s : List ℕ) {c : Scan} {w b n m : ℕ} → Bytes s → c ≡ scanned (read_deck edition s) → c ≡ Ok (w, b, n, m) → (b ≤ length s) × (length s ≤ 60000) × (n ≤ 256)
unfolding read_deck read_by
convert_ready edition s {w = w} {b = b} {n = n} {m = m} bs e k = by (edition_of edition) (sym k ∙ e)
  where
    go : (p : Product) (a : Answer Deck) → read_as p s ≡ a → ◌≡◌ {A = Scan} (Ok (w, b, n, m)) (scanned a) → (b ≤ length s) × (length s ≤ 60000) × (n ≤ 256)
    go p (got x i) r z =
        let y = sound_read p s x i bs r in
        let eb : b ≡ base_of x.version (length x.rules) = ap base_in z in
        let en : n ≡ length x.rules = ap number_in z in
        (omega (arith, eb, ap length y.is, written_long x.version x.rules), y.short, omega (arith, en, deck_small p x y.fit))
    go p (refused f q) r z = absurd (let u : ◌≡◌ {A = ℕ} 0 1 = cc in omega arith)

    by : (o : Edition) → ◌≡◌ {A = Scan} (Ok (w, b, n, m)) (scanned (read_by o s)) → (b ≤ length s) × (length s ≤ 60000) × (n ≤ 256)
    by (Some p) z = go p (read_as p s) refl z
    by None z = absurd (let u : ◌≡◌ {A = ℕ} 0 1 = cc in omega arith)

-- What is left to do once the rules of the edited list stand in the buffer, behind what stood before those that were found.
use Prim.Native.Nat.{ℕ, ◌+◌, ◌-◌, ◌*◌, ◌^◌, ◌≤◌, ◌<◌, max}
use Rattle.std.proofs.Common.{zero-mul, arith, ◌∙◌, take_all, Ok}
use Rattle.std.specs.Prelude.{◌≡◌, take}
use Rattle.std.proofs.Math.Path.{refl, sym, ap}
use mathlib.Core.List.{List, [], ◌∷◌, ◌++◌, append_assoc, append-nil}
use Rattle.std.proofs.Math.ListN.{length, length-append}
use Rattle.format.specs.Answers.{Outcome}
use Rattle.format.specs.ReadWrite.{spelt, AllFit}
use Rattle.format.specs.Laws.ReadWrite.{length_spelt}
use Rattle.kind.specs.declared.Product.{Product}
use Rattle.rule.specs.Rule.{Rule, rule}
use Rattle.deck.specs.Deck.{wide, base_of}
use Rattle.deck.specs.Written.{written}
use Rattle.deck.specs.Laws.Deck.{wide_two, wide_none, base_is}
use Rattle.deck.specs.Laws.Written.{opening, opening_long, index, offsets_long, lead, rules, written_is, written_long, behind_long}
use Rattle.buffer.specs.Laid.{put_in}
use Rattle.buffer.specs.Laws.Laid.{opened}
use Rattle.buffer.specs.Laws.Holds.{Holds, Gap, holds_length, holds_put, holds_open}
use Rattle.room.specs.Room.{room_for}
use Rattle.room.specs.Laws.Room.{Roomy, roomy, room_is}
use Rattle.spot.specs.declared.Site.{Site}
use Rattle.offsets.specs.Laws.Offsets.{Offsets, up_to}
use Rattle.plan.specs.Edit.{Plan, become}
use Rattle.plan.specs.Laws.Fits.{Every, Fits, all_fit}
use Rattle.plan.specs.Laws.Found.{Does, Sits}
use Rattle.plan.specs.Laws.Makes.{made_is}

-- whatever rules rs were found and xs stand there, m of them, to n: y becomes y', which holds their deck, r bytes long
unfoldable pub Finishes : Site → ℕ → ℕ → List ℕ → ℕ → List ℕ → Type 0
Finishes f m n y r y' = (p : Product) (v : ℕ) (rs xs : List Rule) (d : List ℕ) (hi : ℕ) → f.version ≡ v → f.rules ≡ length rs → f.base ≡ base_of v (length rs) → m ≡ length xs → n ≡ length (lead v rs ++ rules 0 xs) → Every (Fits p) xs
    → Roomy m (length (written v xs)) (length d) → Holds y (lead v rs ++ rules 0 xs) hi d → (r ≡ length (written v xs)) × Holds y' (written v xs) (max hi (length (written v xs))) d

-- ---- offsets of no bytes: the number of rules alone
nothing : (t : List ℕ) → length t ≡ 0 → t ≡ []
nothing [] e = refl
nothing (x ∷ t) e = absurd (omega arith)

pub no_index : (v : ℕ) (rs : List Rule) → 0 ≡ wide v → index v rs ≡ []
no_index v rs e = nothing (index v rs) (offsets_long v rs ∙ rw (← e) (zero-mul (length rs)))

module _ (f : Site) (m n : ℕ) (y : List ℕ) (w : f.version ≡ 2 → ⊥) where
  -- the deck with another number of rules
  counted_deck : (v : ℕ) (rs xs : List Rule) → f.version ≡ v → lead v rs ++ rules 0 xs ≡ opening v ++ (spelt 2 (length rs) ++ rules 0 xs)
  unfolding lead
  counted_deck v rs xs e = rw (no_index v rs (wide_none (rw e at w)), append-nil) (append_assoc (opening v) (spelt 2 (length rs)) (rules 0 xs))

  same_length : (v : ℕ) (rs xs : List Rule) → f.version ≡ v → length (written v xs) ≡ length (lead v rs ++ rules 0 xs)
  same_length v rs xs e =
      let a : length (lead v rs ++ rules 0 xs) ≡ 5 + (2 + length (rules 0 xs)) = ap length (counted_deck v rs xs e) ∙ simp (length-append, length_spelt, opening_long) in
      let b : length (written v xs) ≡ 5 + (2 + length (rules 0 xs)) = ap length (written_is v xs ∙ counted_deck v xs xs e) ∙ simp (length-append, length_spelt, opening_long) in
      b ∙ sym a

  pub finish_kept : m ≡ f.rules → Finishes f m n y n y
  unfolding Finishes
  finish_kept h p v rs xs d hi ev er eb em en g room k =
      let l = same_length v rs xs ev in
      let i : lead v rs ++ rules 0 xs ≡ written v xs = counted_deck v rs xs ev ∙ ap (λ (c : ℕ). opening v ++ (spelt 2 c ++ rules 0 xs)) (sym er ∙ sym h ∙ em) ∙ sym (written_is v xs ∙ counted_deck v xs xs ev) in
      let z : max hi (length (written v xs)) ≡ hi = omega (arith, k.short, l) in
      (en ∙ sym l, rw (z, ← i) k)

  pub finish_is : {y' : List ℕ} → y' ≡ put_in y 5 (spelt 2 m) → Finishes f m n y n y'
  unfolding Finishes
  finish_is e p v rs xs d hi ev er eb em en g room k =
      let R = rules 0 xs in
      let u = holds_put (opening v) (spelt 2 (length rs)) R (spelt 2 m) k (counted_deck v rs xs ev) (opening_long v) (length_spelt 2 (length rs) ∙ sym (length_spelt 2 m)) e in
      let t : opening v ++ (spelt 2 m ++ R) ≡ written v xs = rw em (sym (written_is v xs ∙ counted_deck v xs xs ev)) in
      let l = same_length v rs xs ev in
      let z : max hi (length (written v xs)) ≡ hi = omega (arith, k.short, l) in
      (en ∙ sym l, rw (z, ← t) u)

-- ---- offsets of four bytes: they give way to those of the rules that stand there
base_two : (v n : ℕ) → v ≡ 2 → base_of v n ≡ 7 + 4 * n
base_two v n e = sym (base_is v n (wide_two e))

pub index_two : (v m : ℕ) (xs : List Rule) → v ≡ 2 → m ≡ length xs → up_to m m xs ≡ index v xs
unfolding index
index_two v m xs e em =
    let t : take m xs ≡ xs = take_all m xs (omega arith) in
    rw (t, ← wide_two e, em)

-- rules xs behind what stands before rs: how long that is, and their deck
record Two (v base m n : ℕ) (rs xs : List Rule) : Type 0 where
  pub starts : base ≡ 7 + 4 * length rs
  pub ends : n ≡ base + length (rules 0 xs)
  pub long : length (written v xs) ≡ 7 + 4 * m + length (rules 0 xs)

two : (v base m n : ℕ) (rs xs : List Rule) → v ≡ 2 → base ≡ base_of v (length rs) → m ≡ length xs → n ≡ length (lead v rs ++ rules 0 xs) → Two v base m n rs xs
two v base m n rs xs e eb em en =
    let a = base_two v (length rs) e in
    let b = base_two v (length xs) e in
    record { starts = eb ∙ a; ends = omega (arith, en, behind_long v rs xs, eb); long = omega (arith, written_long v xs, b, em) }

-- whatever was found in version 2
unfoldable pub Reindexes : ℕ → ℕ → ℕ → List ℕ → ℕ → List ℕ → Type 0
Reindexes base m n y r y' = (f : Site) → f.version ≡ 2 → f.base ≡ base → Finishes f m n y r y'

module _ (base m n : ℕ) (y : List ℕ) where
  pub reindex_never : (r : ℕ) (y' : List ℕ) → (m ≤ 256 → 7 ≤ base → base ≤ n → n ≤ length y → n - (base - 7) + 4 * m ≤ length y → ⊥) → Reindexes base m n y r y'
  unfolding Reindexes Finishes
  reindex_never r y' h f ef ez p v rs xs d hi ev er eb em en g room k =
      let t = two v base m n rs xs (sym ev ∙ ef) (sym ez ∙ eb) em en in
      let l = holds_length k in
      absurd (h room.few (omega (arith, t.starts)) (omega (arith, t.ends)) (omega (arith, l, k.short, k.room, en)) (omega (arith, l, t.ends, t.starts, t.long, room.inside)))

  -- the room that opens, filled
  filled : {y₁ y₂ y₃ : List ℕ} (p : Product) (v : ℕ) (rs xs : List Rule) (d : List ℕ) (hi : ℕ) → v ≡ 2 → m ≤ 256 → m ≡ length xs → AllFit (rule p) 0 xs → y₂ ≡ put_in y₁ 5 (spelt 2 m) → Offsets m y₂ y₃
      → Gap y₁ (λ G. (opening v ++ spelt 2 (length rs)) ++ (G ++ rules 0 xs)) (4 * m) hi d → Holds y₃ (written v xs) hi d
  unfolding Offsets lead
  filled p v rs xs d hi e few em f e₂ o g =
      let R = rules 0 xs in
      let G = g.bytes in
      let P = opening v ++ spelt 2 m in
      let i : (opening v ++ spelt 2 (length rs)) ++ (G ++ R) ≡ opening v ++ (spelt 2 (length rs) ++ (G ++ R)) = append_assoc (opening v) (spelt 2 (length rs)) (G ++ R) in
      let j : opening v ++ (spelt 2 m ++ (G ++ R)) ≡ P ++ (G ++ R) = sym (append_assoc (opening v) (spelt 2 m) (G ++ R)) in
      let h = holds_put (opening v) (spelt 2 (length rs)) (G ++ R) (spelt 2 m) g.holds i (opening_long v) (length_spelt 2 (length rs) ∙ sym (length_spelt 2 m)) e₂ in
      let l : length P ≡ 7 = omega (arith, length-append (opening v) (spelt 2 m), opening_long v, length_spelt 2 m) in
      let w : P ++ (up_to m m xs ++ R) ≡ written v xs = rw (index_two v m xs e em) (rw em (sym (written_is v xs ∙ simp append_assoc))) in
      rw w at (o p xs P G d hi few l g.long em f (rw j at h))

  pub reindex_is : {y₁ y₂ : List ℕ} (y₃ : List ℕ) → m ≤ 256 → y₁ ≡ opened y n 7 base (4 * m) → y₂ ≡ put_in y₁ 5 (spelt 2 m) → Offsets m y₂ y₃ → Reindexes base m n y (n - (base - 7) + 4 * m) y₃
  unfolding Reindexes Finishes lead
  reindex_is y₃ few e₁ e₂ o f ef ez p v rs xs d hi ev er eb em en g room k =
      let R = rules 0 xs in
      let P = opening v ++ spelt 2 (length rs) in
      let e : v ≡ 2 = sym ev ∙ ef in
      let t = two v base m n rs xs e (sym ez ∙ eb) em en in
      let i : (opening v ++ (spelt 2 (length rs) ++ index v rs)) ++ R ≡ P ++ (index v rs ++ R) = simp append_assoc in
      let lp : length P ≡ 7 = omega (arith, length-append (opening v) (spelt 2 (length rs)), opening_long v, length_spelt 2 (length rs)) in
      let w4 : 4 * length rs ≡ wide v * length rs = ap (λ (w : ℕ). w * length rs) (wide_two e) in
      let lb : 7 + length (index v rs) ≡ base = omega (arith, offsets_long v rs, t.starts, w4) in
      let z : n - (base - 7) + 4 * m ≡ length (written v xs) = omega (arith, t.ends, t.starts, t.long) in
      let a : length R < 256 ^ 4 = omega (arith, t.long, room.short) in
      let q = holds_open P (index v rs) R k i (sym en) lp lb (omega (arith, z, room.inside)) e₁ in
      (z, rw z at (filled p v rs xs d _ e few em (all_fit p 0 xs g a) e₂ o q))

pub finish_two : (f : Site) (m n : ℕ) (y : List ℕ) (r : ℕ) (y' : List ℕ) → f.version ≡ 2 → Reindexes f.base m n y r y' → Finishes f m n y r y'
unfolding Reindexes
finish_two f m n y r y' e w = w f e refl

-- so an edit is done
module _ {k : List Rule → ℕ} (f : Site) (m n len : ℕ) (d : List ℕ) (p : Product) (v : ℕ) (rs : List Rule) (o : Sits k f d p v rs) {q : Plan (List Rule)} {xs : List Rule} {y y' : List ℕ} (r : ℕ) where
  pub made_finished : Every (Fits p) xs → Roomy m len (length d) → Finishes f m n y r y' → Holds y (lead v rs ++ rules 0 xs) (max f.bytes n) d → n ≡ length (lead v rs ++ rules 0 xs) → n ≤ max f.bytes len → q ≡ become xs → m ≡ length xs → len ≡ length (written v xs)
      → (r ≡ len) × Does v f.bytes q d (Ok r) y'
  unfolding Finishes
  made_finished fit w g h en l e em el =
      let u = g p v rs xs d (max f.bytes n) o.version o.many o.base em en fit (rw el at w) h in
      (u.0 ∙ sym el, made_is v f.bytes d u.1 e refl (sym u.0) (omega (arith, u.0, el)) (omega (arith, w.few)) (omega (arith, w.short, u.0, el)))

  -- t is what 18, 19 and 20 were judged as
  pub made_finish : {t : Outcome} {u : ℕ} → Every (Fits p) xs → t ≡ room_for m len (length d) → t ≡ Ok u → Finishes f m n y r y' → Holds y (lead v rs ++ rules 0 xs) (max f.bytes n) d → n ≡ length (lead v rs ++ rules 0 xs) → n ≤ max f.bytes len → q ≡ become xs → m ≡ length xs → len ≡ length (written v xs)
      → Does v f.bytes q d t y'
  made_finish {t} fit e h g i en l j em el =
      let w = roomy m len (length d) e h in
      let x = made_finished fit w g i en l j em el in
      let z : t ≡ Ok r = e ∙ sym (room_is m len (length d) w.few w.short w.inside) ∙ ap Ok (sym x.0) in
      rw z x.1

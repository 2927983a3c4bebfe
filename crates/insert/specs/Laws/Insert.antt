-- A copy of a rule of a second deck, inserted at a place of a deck.
use Prim.Native.Nat.{ℕ, ◌+◌, ◌-◌, ◌≤◌, ◌<◌, max}
use native.Mathlib.Omega.{arith}
use Rattle.std.proofs.Math.Decide.{dec_lt}
use Rattle.std.proofs.Math.Path.{◌≡◌, refl, sym, ap}
use Rattle.std.proofs.Common.{◌∙◌, length-append, length-drop, take-append-drop, length-take-le, take_at, drop_at, le-leb, Ok, Err, Some, None}
use mathlib.Core.List.{List, [], ◌∷◌, ◌++◌, append_assoc}
use Rattle.std.specs.Prelude.{leb, take}
use Rattle.std.proofs.Math.ListN.{length, drop, drop_of_length-le}
use Rattle.std.proofs.lemmas.Bool.{lt-leb}
use Rattle.format.specs.declared.Fault.{Fault}
use Rattle.kind.specs.Answers.{Edition}
use Rattle.format.specs.Answers.{Outcome}
use Rattle.format.specs.Laws.Answers.{Read}
use Rattle.spot.specs.Laws.Answers.{Spot}
use Rattle.format.specs.declared.Refusal.{Refusal}
use Rattle.format.specs.declared.Refusal.TheVariants.{At, Given}
use Rattle.format.specs.Fault.{in_given}
use Rattle.format.specs.Laws.Fault.{given_ok}
use Rattle.format.specs.Format.{Answer, got, refused, pick, Bytes}
use Rattle.kind.specs.declared.Product.{Product}
use Rattle.kind.specs.Kinds.{edition_of}
use Rattle.rule.specs.Rule.{Rule}
use Rattle.rule.specs.Places.{enabled_at}
use Rattle.rule.specs.Laws.Parts.{front, front_long, back, back_long, head_bytes, inner, size_of}
use Rattle.deck.specs.Deck.{Deck, wide, deck, read_as, read_by, read_deck}
use Rattle.deck.specs.Laws.Written.{lead, before, before_long, before_is, written_one_more, rules, rules_cons, written_at}
use Rattle.deck.specs.Written.{deck_of, start_of, written}
use Rattle.room.specs.Room.{room_for}
use Rattle.buffer.specs.Laws.Holds.{Holds, holds_fill}
use Rattle.spot.specs.declared.Site.{Site}
use Rattle.locate.specs.Laws.Located.{site_of, located}
use Rattle.steps.specs.Laws.Steps.{Sound, sound_read, Here, here, here_stands, name_read, name_end, name_got, name_end_lem, name_never, start_within, start_past}
use Rattle.plan.specs.Edit.{Plan, become, refuse, refuse_given, at_copy, at_second, insert, edited}
use Rattle.plan.specs.Laws.Found.{Makes, Does, Sits, Within, found, ground, found_within}
use Rattle.plan.specs.Laws.Fits.{Every, every_append, every_take, every_drop, Fits, fits_deck, fits_anywhere}
use Rattle.plan.specs.Laws.Finish.{Finishes, made_finish}
use Rattle.plan.specs.Laws.Makes.{given_err, made_no, made_given, made_out}
use Rattle.insert.specs.Laws.Copy.{ahead, ahead_long, copy_size, copy_long, Puts}
use Rattle.place.specs.Laws.Place.{lost, lost_small, lost_later, Opens, rules_lose}

-- the bounds of a deck, of a place of it, and of the parts of a rule: x stands before its head, l are the elements
pub record Sizes (f : Site) (k : ℕ) (d x l : List ℕ) : Type 0 where
  pub within : Within f d
  pub behind : f.start + lost k f.rules ≤ f.bytes
  pub place : k ≤ f.rules
  pub front_small : length x ≤ 60000
  pub front_large : 16 ≤ length x
  pub elements_small : length l ≤ 60000

-- whatever rules the deck that was found has, and whatever rule has these parts at a place j
unfoldable pub Whatever : Site → ℕ → List ℕ → List ℕ → List ℕ → (ℕ → List Rule → Rule → Type 0) → Type 0
Whatever f k x l d T = (p : Product) (v : ℕ) (rs : List Rule) (j : ℕ) (q : Rule) → Sits (λ rs. k) f d p v rs → Fits p q → x ≡ ahead j q → l ≡ inner q.elements → T v rs q

-- "insert at place k a copy of rule j": the edited list
abbrev pub with : ℕ → List Rule → Rule → List Rule
with k rs q = take k rs ++ (q ∷ drop k rs)

-- the buffer holds the rules of the edited list
unfoldable pub Copied : Site → ℕ → List ℕ → List ℕ → List ℕ → List ℕ → Type 0
Copied f k x l d z = Whatever f k x l d λ v rs q. Holds z (lead v rs ++ rules 0 (with k rs q)) (f.bytes + (copy_size x l k - lost k f.rules)) d

unfoldable pub Inserts : Site → ℕ → List ℕ → List ℕ → List ℕ → Outcome → List ℕ → Type 0
Inserts f k x l d r z = Whatever f k x l d λ v rs q. Does v f.bytes (become (with k rs q)) d r z

-- the bounds of rule j of the second deck, where g was found
pub record Copyable (s : List ℕ) (j : ℕ) (g : Site) : Type 0 where
  pub inside : j < g.rules → name_end s g.start + 26 + length (head_bytes j) ≤ g.end
  pub front : j < g.rules → g.start + 4 ≤ name_end s g.start
  pub end : g.end ≤ length s
  pub short : length s ≤ 60000

-- whatever rules both sound decks have, the second in whatever version
unfoldable pub Copies : Site → ℕ → List ℕ → ℕ → Site → List ℕ → Outcome → List ℕ → Type 0
Copies f k s j g d r z = (p : Product) (v : ℕ) (rs : List Rule) (u : ℕ) (qs : List Rule) → Sits (λ rs. k) f d p v rs → Sound p u s qs → g.rules ≡ length qs → g.start ≡ start_of u qs j → g.end ≡ start_of u qs (j + 1)
    → Does v f.bytes (pick (leb k (length rs)) (at_copy (drop j qs) λ x. become (with k rs x)) (refuse Fault.Absent 0)) d r z

-- ---- the rules of the edited list
module _ (v : ℕ) (rs : List Rule) (k : ℕ) (q : Rule) where
  pub with_long : length (with k rs q) ≡ length rs + 1
  with_long = omega (arith, length-append (take k rs) (q ∷ drop k rs), length-append (take k rs) (drop k rs), ap length (take-append-drop k rs))

  pub rules_with : k ≤ length rs → lead v rs ++ rules 0 (with k rs q) ≡ before v rs k ++ ((front q ++ back k q.elements) ++ rules (k + 1) (drop k rs))
  rules_with l = (rw rules_cons at (before_is v rs k (q ∷ drop k rs) l)) ∙ rw append_assoc

  pub with_size_lem : (j n : ℕ) (d : List ℕ) (p : Product) → Sound p v (take n d) rs → n ≤ length d → k ≤ length rs → length (lead v rs ++ rules 0 (with k rs q)) ≡ n + (copy_size (ahead j q) (inner q.elements) k - lost k (length rs))
  with_size_lem j n d p o w l =
      let A = before v rs k in
      let R = rules (k + 1) (drop k rs) in
      let S = rules k (drop k rs) in
      let X = front q ++ back k q.elements in
      omega (
        arith,
        ap length (rules_with l),
        length-append A (X ++ R),
        length-append X R,
        copy_long j q k,
        length-take-le n d w,
        ap length (o.is ∙ written_at v rs k l),
        length-append A S,
        rules_lose k rs,
        ahead_long j q,
        front_long q,
        lost_small k (length rs),
      )

  with_fits : (p : Product) → (deck p).Fit (deck_of v rs) → Fits p q → Every (Fits p) (with k rs q)
  unfolding Every
  with_fits p f g = let w = fits_deck p (deck_of v rs) f in every_append (Fits p) (take k rs) (q ∷ drop k rs) (every_take (Fits p) k rs w) (g, every_drop (Fits p) k rs w)

-- ---- the rule put into its gap
module _ (f : Site) (k : ℕ) (x l d : List ℕ) where
  pub copied_holds : (len : ℕ) (z₁ z₂ : List ℕ) → Opens f k len d z₁ → Puts z₁ f.start x l k z₂ → len ≡ copy_size x l k → len ≤ 200000 → 16 ≤ length x → k ≤ f.rules → f.bytes + (len - lost k f.rules) ≤ length d → Copied f k x l d z₂
  unfolding Copied Whatever Opens Puts
  copied_holds len z₁ z₂ O P el lx lf lk r p v rs j q o fq ef ez =
      let n : len ≡ length (front q ++ back k q.elements) = el ∙ (rw (ef, ez) (sym (copy_long j q k))) in
      let h = holds_fill (before v rs k) (rules (k + 1) (drop k rs)) (front q ++ back k q.elements) (O p v rs o lk (omega arith) lx r) (before_long v rs k ∙ sym o.starts) n (P j q ef ez) in
      rw (rules_with v rs k q (omega (arith, o.many)), ← el) h

  -- the rules end at n
  module _ (n : ℕ) where
    is_long : n ≡ f.bytes + (copy_size x l k - lost k f.rules) → k ≤ f.rules → (p : Product) (v : ℕ) (rs : List Rule) (j : ℕ) (q : Rule) → Sits (λ rs. k) f d p v rs → x ≡ ahead j q → l ≡ inner q.elements → n ≡ length (lead v rs ++ rules 0 (with k rs q))
    is_long e i p v rs j q o ef ez = sym (rw (with_size_lem v rs k q j f.bytes d p o.sound o.within (omega (arith, o.many)), ← o.many, ← ef, ← ez, ← e) refl)

    -- 18, 19, 20: t is what was judged, w how many bytes an offset has
    module _ {t : Outcome} {w : ℕ} where
      pub inserts_out : {r : Outcome} {why : Refusal} → w ≡ wide f.version → t ≡ room_for (f.rules + 1) (n + w) (length d) → t ≡ Err why → r ≡ Err why → k ≤ f.rules → n ≡ f.bytes + (copy_size x l k - lost k f.rules) → Inserts f k x l d r d
      unfolding Inserts Whatever
      inserts_out ew j h er i e p v rs m q o fq ef ez =
          let z : w ≡ wide v = ew ∙ ap wide o.version in
          let y : n + w ≡ length (written v (with k rs q)) = omega (arith, is_long e i p v rs m q o ef ez, written_one_more v rs (with k rs q) (with_long v rs k q), z) in
          made_out v f.bytes d refl j h er (ap (λ (z : ℕ). z + 1) o.many ∙ sym (with_long v rs k q)) y

      pub inserts_done : (z : List ℕ) (y : List ℕ) {u : ℕ} (s : ℕ) → w ≡ wide f.version → t ≡ room_for (f.rules + 1) (n + w) (length d) → t ≡ Ok u → k ≤ f.rules → n ≡ f.bytes + (copy_size x l k - lost k f.rules) → Copied f k x l d z → Finishes f (f.rules + 1) n z s y → Inserts f k x l d t y
      unfolding Inserts Copied Whatever
      inserts_done z y s ew j h i e u fin p v rs m q o fq ef ez =
          let en = is_long e i p v rs m q o ef ez in
          let g : w ≡ wide v = ew ∙ ap wide o.version in
          let hi : f.bytes + (copy_size x l k - lost k f.rules) ≡ max f.bytes n = sym e ∙ omega arith in
          let b : n + w ≡ length (written v (with k rs q)) = omega (arith, en, written_one_more v rs (with k rs q) (with_long v rs k q), g) in
          made_finish f (f.rules + 1) n (n + w) d p v rs o s (with_fits v rs k q p o.sound.fit fq) j h fin (rw hi at (u p v rs m q o fq ef ez)) en (omega arith) refl (ap (λ (z : ℕ). z + 1) o.many ∙ sym (with_long v rs k q)) b

-- ---- the second deck

part_of : (P Q R : List ℕ) {s : List ℕ} {a e : ℕ} → s ≡ P ++ (Q ++ R) → length P ≡ a → a + length Q ≡ e → take (e - a) (drop a s) ≡ Q
part_of P Q R {s} {a} {e} i p q = let n : length Q ≡ e - a = omega arith in rw (i, drop_at P (Q ++ R) a p) (take_at Q R (e - a) n)

-- rule j of it, by its parts
module _ (s : List ℕ) {p : Product} (v : ℕ) {qs : List Rule} {j : ℕ} (h : Here p v s qs j) where
  name_there : name_end s (start_of v qs j) ≡ enabled_at (start_of v qs j) h.r
  name_there = name_end_lem s (start_of v qs j) p j h.r (here_stands p v s qs j h)

  head_there : start_of v qs j + length (ahead j h.r) ≡ name_end s (start_of v qs j) + 26
  head_there = omega (arith, name_there, front_long h.r, ahead_long j h.r)

  end_there : start_of v qs (j + 1) ≡ name_end s (start_of v qs j) + 26 + length (head_bytes j) + length (inner h.r.elements)
  unfolding size_of
  end_there = omega (arith, h.ends, head_there, ahead_long j h.r, back_long j h.r.elements)

  whole_there : s ≡ before v qs j ++ (ahead j h.r ++ (head_bytes j ++ (inner h.r.elements ++ rules (j + 1) h.later)))
  unfolding back ahead
  whole_there = h.is ∙ simp append_assoc

  ahead_there : {a e : ℕ} → a ≡ start_of v qs j → e ≡ name_end s (start_of v qs j) + 26 → take (e - a) (drop a s) ≡ ahead j h.r
  ahead_there ea ee = part_of (before v qs j) (ahead j h.r) _ whole_there (h.starts ∙ sym ea) (omega (arith, head_there))

  inner_there : {a e : ℕ} → a ≡ name_end s (start_of v qs j) + 26 + length (head_bytes j) → e ≡ start_of v qs (j + 1) → take (e - a) (drop a s) ≡ inner h.r.elements
  inner_there {a} {e} ea ee =
      let P = before v qs j ++ (ahead j h.r ++ head_bytes j) in
      let l : length P ≡ a = simp length-append (omega (arith, h.starts, head_there)) in
      part_of P (inner h.r.elements) (rules (j + 1) h.later) {e = e} (whole_there ∙ simp append_assoc) l (omega (arith, end_there))

-- where its name ends
pub named_in : (s : List ℕ) (at : ℕ) {t a : Read} {e v : ℕ} → t ≡ name_read s at → a ≡ in_given t → a ≡ Ok (e, v) → e ≡ name_end s at
named_in s at {t = t} i b h = name_got s at i (given_ok t b h)

module _ (f : Site) (k : ℕ) (s : List ℕ) (j : ℕ) (g : Site) (d : List ℕ) where
  -- 16
  pub copies_place : f.rules < k → Copies f k s j g d (Err (At Fault.Absent 0)) d
  unfolding Copies pick
  copies_place l p v rs u qs o w eq ec ee = rw (lt-leb k (length rs) (omega (arith, o.many))) (made_no v f.bytes d refl)

  pub copies_rule : k ≤ f.rules → g.rules ≤ j → Copies f k s j g d (Err (At Fault.Absent 1)) d
  unfolding Copies pick at_copy
  copies_rule l h p v rs u qs o w eq ec ee =
      let z : drop j qs ≡ [] = drop_of_length-le qs {i = j} (omega arith) in
      rw (le-leb k (length rs) (omega (arith, o.many)), z) (made_no v f.bytes d refl)

  -- its name can be read
  pub copies_unnamed : (r : Outcome) (z : List ℕ) {t a : Read} {why : Refusal} → j < g.rules → t ≡ name_read s g.start → a ≡ in_given t → a ≡ Err why → Copies f k s j g d r z
  unfolding Copies
  copies_unnamed r z {t = t} lj i b m p v rs u qs o w eq ec ee =
      let h = here p u s qs j w (omega arith) in
      name_never s (start_of u qs j) (i ∙ ap (name_read s) ec) (given_err t b m).1 p j h.r (here_stands p u s qs j h)

  -- the rule, by its parts
  pub copies_is : (t x : ℕ) (a l z : List ℕ) (r : Outcome) → Inserts f k a l d r z → a ≡ take (t - g.start) (drop g.start s) → l ≡ take (g.end - x) (drop x s)
      → k ≤ f.rules → j < g.rules → t ≡ name_end s g.start + 26 → x ≡ t + length (head_bytes j) → Copies f k s j g d r z
  unfolding Copies Inserts Whatever pick at_copy
  copies_is t x a l z r i ea el lk lj et ex p v rs u qs o w eq ec ee =
      let h = here p u s qs j w (omega arith) in
      let y : t ≡ name_end s (start_of u qs j) + 26 = et ∙ ap (λ (c : ℕ). name_end s c + 26) ec in
      rw (le-leb k (length rs) (omega (arith, o.many)), h.from) (i p v rs j h.r o (fits_anywhere p j h.r h.fits) (ea ∙ ahead_there s u h ec y) (el ∙ inner_there s u h (omega arith) ee))

-- the bounds of rule j
bounds : (s : List ℕ) (j : ℕ) (g : Site) (p : Product) (v : ℕ) (qs : List Rule) → Sound p v s qs → g.rules ≡ length qs → g.start ≡ start_of v qs j → g.end ≡ start_of v qs (j + 1) → Copyable s j g
bounds s j g p v qs o eq ec ee =
    record {
      inside = λ l. rw (ec, ee) (omega (arith, end_there s v (here p v s qs j o (omega arith))));
      front = λ l. rw ec (omega (arith, name_there s v (here p v s qs j o (omega arith))));
      end = omega (arith, (start_within p v s qs j o).1);
      short = o.short;
    }

-- the parts of a rule of it, as they are given
pub copy_sizes : (f : Site) (k : ℕ) (d s : List ℕ) (j : ℕ) (g : Site) (t x : ℕ) (a l : List ℕ) → a ≡ take (t - g.start) (drop g.start s) → l ≡ take (g.end - x) (drop x s) → Within f d → f.start + lost k f.rules ≤ f.bytes → k ≤ f.rules
    → Copyable s j g → j < g.rules → t ≡ name_end s g.start + 26 → x ≡ t + length (head_bytes j) → Sizes f k d a l
copy_sizes f k d s j g t x a l ea el w h lk y lj et ex =
    let i = y.inside lj in
    let z = y.front lj in
    let u = y.end in
    let o = y.short in
    let la : length a ≡ t - g.start = ap length ea ∙ length-take-le (t - g.start) (drop g.start s) (omega (arith, length-drop g.start s)) in
    let ll : length l ≡ g.end - x = ap length el ∙ length-take-le (g.end - x) (drop x s) (omega (arith, length-drop x s)) in
    record { within = w; behind = h; place = lk; front_small = omega arith; front_large = omega arith; elements_small = omega arith }

-- a fault of the second deck
record Second (z : Plan (List Rule)) (why : Refusal) : Type 0 where
  pub c : Fault
  pub q : ℕ
  pub is : z ≡ refuse_given c q
  pub ends : why ≡ Given c q

-- h is where rule j of the second deck was found
module _ (edition : ℕ) (s : List ℕ) (j : ℕ) {h : Spot} where
  module _ (f : Site) (k : ℕ) (d : List ℕ) where
    -- 34 to 45
    pub makes_given : {u : Spot} {r : Outcome} {why : Refusal} → h ≡ located (λ xs. j) (read_deck edition s) → u ≡ in_given h → u ≡ Err why → r ≡ Err why → Makes edition (λ rs. k) f (insert k s j) d r d
    unfolding Makes edited at_second read_deck read_by
    makes_given {why = why} g u i w p v rs fe o =
        let x = go _ (read_as p s) (sym i ∙ u ∙ ap in_given (rw fe at g)) in
        let y = made_given v f.bytes d x.is in
        (w ∙ ap Err x.ends ∙ y.0, y.1)
      where
        go : (F : List Rule → Plan (List Rule)) (x : Answer Deck) → Err why ≡ in_given (located (λ xs. j) x) → Second (at_second x F) why
        go F (got qs t) z = absurd (let u : ◌≡◌ {A = ℕ} 0 1 = cc in omega arith)
        go F (refused x y) z = record { c = x; q = y; is = refl; ends = (cc) }

    pub makes_copies : {g : Site} (r : Outcome) (z : List ℕ) → Bytes s → h ≡ located (λ xs. j) (read_deck edition s) → h ≡ Ok g → Copies f k s j g d r z → Makes edition (λ rs. k) f (insert k s j) d r z
    unfolding Makes edited at_second read_deck read_by Copies
    makes_copies {g} r z bs e i C p v rs fe o = go (read_as p s) refl (sym i ∙ (rw fe at e))
      where
        go : (x : Answer Deck) → read_as p s ≡ x → Ok g ≡ located (λ xs. j) x
            → Does v f.bytes (at_second x λ qs. pick (leb k (length rs)) (at_copy (drop j qs) λ y. become (with k rs y)) (refuse Fault.Absent 0)) d r z
        go (got a t) w y =
            let e : g ≡ site_of (λ xs. j) t a.version a.rules = cc in
            C p v rs a.version a.rules o (sound_read p s a t bs w) (ap (λ (x : Site). x.rules) e) (ap (λ (x : Site). x.start) e) (ap (λ (x : Site). x.end) e)
        go (refused x y) w u = absurd (let u : ◌≡◌ {A = ℕ} 0 1 = cc in omega arith)

  pub copyable : {g : Site} → Bytes s → h ≡ located (λ xs. j) (read_deck edition s) → h ≡ Ok g → Copyable s j g
  unfolding read_deck read_by
  copyable {g} bs e i = by (edition_of edition) (sym i ∙ e)
    where
      go : (p : Product) (x : Answer Deck) → read_as p s ≡ x → Ok g ≡ located (λ xs. j) x → Copyable s j g
      go p (got a t) w z =
          let e : g ≡ site_of (λ xs. j) t a.version a.rules = cc in
          bounds s j g p a.version a.rules (sound_read p s a t bs w) (ap (λ (x : Site). x.rules) e) (ap (λ (x : Site). x.start) e) (ap (λ (x : Site). x.end) e)
      go p (refused x y) w z = absurd (let u : ◌≡◌ {A = ℕ} 0 1 = cc in omega arith)

      by : (o : Edition) → Ok g ≡ located (λ xs. j) (read_by o s) → Copyable s j g
      by (Some p) z = go p (read_as p s) refl z
      by None z = absurd (let u : ◌≡◌ {A = ℕ} 0 1 = cc in omega arith)

-- where the place was found: the bounds that keep sums from wrapping
pub found_place : (k edition n : ℕ) (d : List ℕ) {c : Spot} {f : Site} → Bytes d → c ≡ found (λ rs. k) edition n d → c ≡ Ok f → Within f d × (f.start + lost k f.rules ≤ f.bytes)
found_place k edition n d {f = f} bs g h = let y = ground (λ rs. k) edition n d bs g h in (found_within (λ rs. k) edition n d bs g h, go y.product y.version y.rs y.sits)
  where
    behind : (p : Product) (v : ℕ) (rs : List Rule) → Sits (λ rs. k) f d p v rs → k ≤ length rs → f.start + lost k f.rules ≤ f.bytes
    behind p v rs o l =
        let A = before v rs k in
        let S = rules k (drop k rs) in
        rw o.many (omega (arith, o.starts, before_long v rs k, length-take-le f.bytes d o.within, ap length (o.sound.is ∙ written_at v rs k l), length-append A S, rules_lose k rs))

    go : (p : Product) (v : ℕ) (rs : List Rule) → Sits (λ rs. k) f d p v rs → f.start + lost k f.rules ≤ f.bytes
    go p v rs o =
        elim (dec_lt (length rs) k) [
          | yes l ↦ omega (arith, start_past p v (take f.bytes d) rs k o.sound (omega arith), o.starts, length-take-le f.bytes d o.within, lost_later k f.rules (λ e. omega arith))
          | no l ↦ behind p v rs o (omega arith)
        ]

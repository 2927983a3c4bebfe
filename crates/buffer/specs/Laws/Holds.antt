-- A buffer that holds a deck, through what is done to it.
use Rattle.std.specs.Prelude.{ℕ, ◌+◌, ◌-◌, ◌≤◌, max, ◌≡◌, refl, take}
use Rattle.std.proofs.Common.{arith, sym, ◌∙◌, length-drop, take_at, take-add, length-take-le}
use Rattle.std.proofs.Math.Path.{ap}
use mathlib.Core.List.{List, [], ◌++◌, append_assoc, append-nil}
use Rattle.std.proofs.Math.ListN.{length, drop, length-append}
use Rattle.buffer.specs.Laid.{zeros, put_in, put, laid}
use Rattle.buffer.specs.Laws.Laid.{down, up, moved, opened, put_in_lem, put_over, opened_in, length_down, length_up, down_two, up_two, drop_two, moved_part, laid_start, take_laid, length_laid, laid_again}

-- the buffer y holds the deck Y; hi is the longest so far, d the buffer as found
pub record Holds (y Y : List ℕ) (hi : ℕ) (d : List ℕ) : Type 0 where
  pub is : y ≡ laid Y hi d
  pub short : length Y ≤ hi
  pub room : hi ≤ length d

-- the same, with a gap of len bytes in the deck, in which anything stands
pub record Gap (z : List ℕ) (Y : List ℕ → List ℕ) (len hi : ℕ) (d : List ℕ) : Type 0 where
  pub bytes : List ℕ
  pub long : length bytes ≡ len
  pub holds : Holds z (Y bytes) hi d

pub holds_start : (d : List ℕ) (n : ℕ) → n ≤ length d → Holds d (take n d) n d
holds_start d n h = let l = length-take-le n d h in record { is = laid_start d n h; short = omega arith; room = h }

module _ {y Y d : List ℕ} {hi : ℕ} (h : Holds y Y hi d) where
  pub holds_length : length y ≡ length d
  holds_length = ap length h.is ∙ length_laid Y hi d h.short h.room

  pub holds_take : {n : ℕ} → length Y ≡ n → take n y ≡ Y
  holds_take {n} e = ap (take n) h.is ∙ take_laid Y hi d e

module _ (P Q R : List ℕ) {y Y d : List ℕ} {hi : ℕ} (h : Holds y Y hi d) (e : Y ≡ P ++ (Q ++ R)) where
  deck_length : length Y ≡ length P + (length Q + length R)
  deck_length = ap length e ∙ simp length-append

  -- the buffer, by the parts of its deck
  in_parts : y ≡ P ++ (Q ++ (R ++ (zeros (hi - length Y) ++ drop hi d)))
  unfolding laid
  in_parts = h.is ∙ ap (λ (l : List ℕ). l ++ (zeros (hi - length Y) ++ drop hi d)) e ∙ simp append_assoc

  over : (s : List ℕ) {z : List ℕ} → length Q ≡ length s → z ≡ P ++ (s ++ (R ++ (zeros (hi - length Y) ++ drop hi d))) → Holds z (P ++ (s ++ R)) hi d
  unfolding laid
  over s q f =
      let l : length (P ++ (s ++ R)) ≡ length Y = simp length-append (omega (arith, deck_length)) in
      record { is = f ∙ rw l (simp append_assoc); short = rw l h.short; room = h.room }

-- as many bytes in place of Q
pub holds_put : (P Q R s : List ℕ) {y Y d z : List ℕ} {hi at : ℕ} → Holds y Y hi d → Y ≡ P ++ (Q ++ R) → length P ≡ at → length Q ≡ length s → z ≡ put_in y at s → Holds z (P ++ (s ++ R)) hi d
holds_put P Q R s {y} {at = at} h e p q f =
    let fits : at + length s ≤ length y = omega (arith, deck_length P Q R h e, holds_length h, h.short, h.room) in
    over P Q R h e s q (f ∙ put_in_lem y at s fits ∙ ap (λ (x : List ℕ). put x at s) (in_parts P Q R h e) ∙ put_over P Q _ s p q)

-- bytes behind the deck in the first n bytes
pub holds_behind : (d : List ℕ) (n : ℕ) (E : List ℕ) {y : List ℕ} → n + length E ≤ length d → y ≡ put_in d n E → Holds y (take n d ++ E) (n + length E) d
holds_behind d n E l e =
    let G = take (length E) (drop n d) in
    let t : take (n + length E) d ≡ take n d ++ (G ++ []) = take-add n (length E) d ∙ rw append-nil in
    rw (append-nil E) at (holds_put (take n d) G [] E (holds_start d (n + length E) l) t (length-take-le n d (omega arith)) (length-take-le (length E) (drop n d) (omega (arith, length-drop n d))) e)

holds_moved : (f : List ℕ → List ℕ) (P T R : List ℕ) {y Y d z : List ℕ} {hi a e : ℕ} → Holds y Y hi d → Y ≡ P ++ (T ++ R) → length P ≡ a → a + length T ≡ e → length (f T) ≡ length T
    → z ≡ moved f a e y → Holds z (P ++ (f T ++ R)) hi d
holds_moved f P T R {a = a} {e = e} h i p t l g = over P T R h i (f T) (sym l) (g ∙ ap (moved f a e) (in_parts P T R h i) ∙ moved_part f P T _ p t l)

-- M moved over X, and what is left behind it
pub holds_down : (P X M R : List ℕ) {y Y d z : List ℕ} {hi a by e : ℕ} → Holds y Y hi d → Y ≡ P ++ (X ++ (M ++ R)) → length P ≡ a → length X ≡ by → a + by + length M ≡ e
    → z ≡ moved (down by) a e y → Gap z (λ G. P ++ (M ++ (G ++ R))) by hi d
holds_down P X M R {by = by} h i p x t g =
    let T = X ++ M in
    let l : length T ≡ by + length M = simp length-append (omega arith) in
    let r = holds_moved (down by) P T R h (i ∙ simp append_assoc) p (omega arith) (length_down by T) g in
    let w : P ++ (down by T ++ R) ≡ P ++ (M ++ (drop (length M) T ++ R)) = rw (down_two X M x) (simp append_assoc) in
    record { bytes = drop (length M) T; long = omega (arith, length-drop (length M) T, l); holds = rw w at r }

pub holds_up : (P M X R : List ℕ) {y Y d z : List ℕ} {hi a by e : ℕ} → Holds y Y hi d → Y ≡ P ++ (M ++ (X ++ R)) → length P ≡ a → length X ≡ by → a + length M + by ≡ e
    → z ≡ moved (up by) a e y → Gap z (λ G. P ++ (G ++ (M ++ R))) by hi d
holds_up P M X R {by = by} h i p x t g =
    let T = M ++ X in
    let l : length T ≡ length M + by = simp length-append (omega arith) in
    let r = holds_moved (up by) P T R h (i ∙ simp append_assoc) p (omega arith) (length_up by T) g in
    let w : P ++ (up by T ++ R) ≡ P ++ (take by T ++ (M ++ R)) = rw (up_two M X x) (simp append_assoc) in
    record { bytes = take by T; long = length-take-le by T (omega arith); holds = rw w at r }

-- a gap of len bytes in place of Q
pub holds_open : (P Q R : List ℕ) {y Y d z : List ℕ} {hi n a b len : ℕ} → Holds y Y hi d → Y ≡ P ++ (Q ++ R) → length Y ≡ n → length P ≡ a → a + length Q ≡ b → n - (b - a) + len ≤ length d
    → z ≡ opened y n a b len → Gap z (λ G. P ++ (G ++ R)) len (max hi (n - (b - a) + len)) d
holds_open P Q R {y} {Y} {d} {z} {hi} {n} {a} {b} {len} h i l p q k g =
    let G = take len (drop a y) in
    let m = deck_length P Q R h i in
    let t : take n y ≡ Y = holds_take h l in
    let u : take a y ≡ P = ap (take a) (in_parts P Q R h i) ∙ take_at P _ a p in
    let v : drop b Y ≡ R = ap (drop b) i ∙ drop_two P Q R p q in
    let w : length G ≡ len = length-take-le len (drop a y) (omega (arith, length-drop a y, holds_length h)) in
    let Z = P ++ (G ++ R) in
    let c : length Z ≡ n - (b - a) + len = simp length-append (omega arith) in
    let o = opened_in y n a b len (omega arith) (omega arith) (omega (arith, holds_length h, h.short, h.room)) (omega (arith, holds_length h)) in
    let is : z ≡ laid Z (max hi (length Z)) d = g ∙ o ∙ rw (u, t, v, ← c, ← l) (ap (laid Z (max (length Y) (length Z))) h.is ∙ laid_again Z Y hi d h.short) in
    record { bytes = G; long = w; holds = record { is = rw c at is; short = rw c (omega arith); room = omega (arith, h.room) } }

-- the gap filled
pub holds_fill : (P R s : List ℕ) {y z d : List ℕ} {len hi at : ℕ} → Gap y (λ G. P ++ (G ++ R)) len hi d → length P ≡ at → len ≡ length s → z ≡ put_in y at s → Holds z (P ++ (s ++ R)) hi d
holds_fill P R s g p q f = holds_put P g.bytes R s g.holds refl p (g.long ∙ q) f

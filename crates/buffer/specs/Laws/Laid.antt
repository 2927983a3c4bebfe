-- Laws of ../Laid.antt: what bytes put, moved and opened leave of the whole buffer.
use Rattle.std.specs.Prelude.{ℕ, zero, suc, ◌+◌, ◌-◌, ◌≤◌, max, ◌≡◌, refl, Bool, true, false, ◌&&◌, List, [], ◌++◌, leb, take, drop}
use Rattle.std.specs.Int.{from_bool}
use Rattle.std.proofs.Common.{add-zero, arith, sym, ap, ap₂, ◌∙◌, append_assoc, length-append, length-take, length-drop, take-append-drop, drop-drop, take_at, drop_at, length-take-le}
use Rattle.std.proofs.Math.Nat.{zero-add, sub-zero, zero-sub, suc-sub-suc}
use Rattle.std.proofs.Math.ListN.{length}
use Rattle.std.proofs.lemmas.List.{length-replicate, replicate-append-replicate}
use Rattle.std.proofs.Math.Seq.{take-append_seam, drop-append_seam, drop-append-add}
use borrow.Author.Tests.{le-leb, leb-true}
use Rattle.format.specs.Laws.Format.{both}
use Rattle.format.specs.Format.{pick}
use Rattle.format.specs.ReadWrite.{bit}
use Rattle.buffer.specs.Laid.{zeros, put, put_in, laid}

-- moved by so many bytes, down or up; the places that nothing moves to stay
unfoldable pub down : ℕ → List ℕ → List ℕ
down by p = drop by p ++ drop (length p - by) p

unfoldable pub up : ℕ → List ℕ → List ℕ
up by p = take by p ++ take (length p - by) p

-- moved down, with zeros behind
unfoldable pub pulled : ℕ → List ℕ → List ℕ
pulled by p = drop by p ++ zeros (length p - (length p - by))

-- the bytes from a to e, moved as f says
unfoldable pub moved : (List ℕ → List ℕ) → ℕ → ℕ → List ℕ → List ℕ
moved f a e d = pick (leb a e && leb e (length d)) (take a d ++ (f (take (e - a) (drop a d)) ++ drop e d)) d

-- of the deck in the first n bytes of d, those from a to b give way to len bytes that stay as found
unfoldable pub opened : List ℕ → ℕ → ℕ → ℕ → ℕ → List ℕ
opened d n a b len =
    pick (leb a b && leb b n && leb n (length d) && leb (n - (b - a) + len) (length d))
    (laid (take a d ++ (take len (drop a d) ++ drop b (take n d))) (max n (n - (b - a) + len)) d) d

-- ---- a yes or no as the code makes a number of it
pub bit_from : (b : Bool) {n : ℕ} → n ≡ from_bool b → n ≡ bit b
unfolding bit pick
bit_from true e = e
bit_from false e = e

-- ---- where there is room, and where there is not

left_out : (x y : List ℕ) (t : Bool) → (t ≡ true → ⊥) → x ≡ pick t y x
unfolding pick
left_out x y true h = absurd (h refl)
left_out x y false h = refl

module _ (d : List ℕ) where
  pub put_in_lem : (at : ℕ) (bs : List ℕ) → at + length bs ≤ length d → put_in d at bs ≡ put d at bs
  unfolding put_in pick
  put_in_lem at bs h = rw (le-leb (at + length bs) (length d) h)

  pub put_out : (at : ℕ) (bs : List ℕ) → (at + length bs ≤ length d → ⊥) → d ≡ put_in d at bs
  unfolding put_in
  put_out at bs h = left_out _ _ _ (λ t. h (leb-true _ _ t))

  pub moved_in : (f : List ℕ → List ℕ) (a e : ℕ) → a ≤ e → e ≤ length d → moved f a e d ≡ take a d ++ (f (take (e - a) (drop a d)) ++ drop e d)
  unfolding moved pick
  moved_in f a e h k = rw (le-leb a e h, le-leb e (length d) k)

  pub moved_out : (f : List ℕ → List ℕ) (a e : ℕ) → (a ≤ e → e ≤ length d → ⊥) → d ≡ moved f a e d
  unfolding moved
  moved_out f a e h = left_out _ _ _ (λ t. let u = both _ _ t in h (leb-true _ _ u.0) (leb-true _ _ u.1))

  pub opened_in : (n a b len : ℕ) → a ≤ b → b ≤ n → n ≤ length d → n - (b - a) + len ≤ length d
      → opened d n a b len ≡ laid (take a d ++ (take len (drop a d) ++ drop b (take n d))) (max n (n - (b - a) + len)) d
  unfolding opened pick
  opened_in n a b len h k l m = rw (le-leb a b h, le-leb b n k, le-leb n (length d) l, le-leb (n - (b - a) + len) (length d) m)

  pub opened_out : (n a b len : ℕ) → (a ≤ b → b ≤ n → n ≤ length d → n - (b - a) + len ≤ length d → ⊥) → d ≡ opened d n a b len
  unfolding opened
  opened_out n a b len h =
      left_out _ _ _ (λ t. let u = both _ _ t in let v = both _ _ u.0 in let w = both _ _ v.0 in h (leb-true _ _ w.0) (leb-true _ _ w.1) (leb-true _ _ v.1) (leb-true _ _ u.1))

-- ---- bytes put one after the other

-- none, and some at the start
pub put_none : (xs : List ℕ) (at : ℕ) → put xs at [] ≡ xs
unfolding put
put_none xs at = rw add-zero (take-append-drop at xs)

pub put_first : (xs bs : List ℕ) {ys : List ℕ} → ys ≡ bs → ys ++ drop (length bs) xs ≡ put xs 0 bs
unfolding put
put_first xs bs e = rw (zero-add, e)

-- bytes behind the bytes that were put
put_after : (ps d cs : List ℕ) → put (ps ++ d) (length ps) cs ≡ ps ++ (cs ++ drop (length cs) d)
unfolding put
put_after ps d cs = rw (take-append_seam, ← drop-drop (length cs) (length ps) (ps ++ d), drop-append_seam)

pub put_on : (xs : List ℕ) (at : ℕ) (bs cs : List ℕ) → at ≤ length xs → put (put xs at bs) (at + length bs) cs ≡ put xs at (bs ++ cs)
unfolding put
put_on xs at bs cs h =
    let a = take at xs in
    let d = drop (at + length bs) xs in
    let w : at + length bs ≡ length (a ++ bs) = omega (arith, length-append a bs, length-take-le at xs h) in
    let l : at + length bs + length cs ≡ at + length (bs ++ cs) = omega (arith, length-append bs cs) in
    let e : drop (length cs) d ≡ drop (at + length (bs ++ cs)) xs = drop-drop (length cs) (at + length bs) xs ∙ ap (λ (n : ℕ). drop n xs) l in
    ap₂ (λ (z : List ℕ) (n : ℕ). put z n cs) (sym (append_assoc a bs d)) w ∙ put_after (a ++ bs) d cs
    ∙ ap (λ (z : List ℕ). (a ++ bs) ++ (cs ++ z)) e ∙ append_assoc a bs (cs ++ drop (at + length (bs ++ cs)) xs)
    ∙ ap (λ (z : List ℕ). a ++ z) (sym (append_assoc bs cs (drop (at + length (bs ++ cs)) xs)))

-- bytes put over as many that stand behind P and before R
pub put_over : (P Q R s : List ℕ) {at : ℕ} → length P ≡ at → length Q ≡ length s → put (P ++ (Q ++ R)) at s ≡ P ++ (s ++ R)
unfolding put
put_over P Q R s {at} l q =
    let d : drop (length s) (Q ++ R) ≡ R = drop_at Q R (length s) q in
    rw (← l) (rw (take-append_seam, drop-append-add P (Q ++ R) (length s), d))

-- ---- bytes moved

pub length_down : (by : ℕ) (p : List ℕ) → length (down by p) ≡ length p
unfolding down
length_down by p = simp (length-append, length-drop) (omega arith)

pub length_up : (by : ℕ) (p : List ℕ) → length (up by p) ≡ length p
unfolding up
length_up by p = simp (length-append, length-take) (omega arith)

-- of two parts, one moved over the other
pub down_two : (X M : List ℕ) {by : ℕ} → length X ≡ by → down by (X ++ M) ≡ M ++ drop (length M) (X ++ M)
unfolding down
down_two X M {by} l =
    let k : length (X ++ M) - by ≡ length M = simp length-append (omega arith) in
    rw (drop_at X M by l, k)

pub up_two : (M X : List ℕ) {by : ℕ} → length X ≡ by → up by (M ++ X) ≡ take by (M ++ X) ++ M
unfolding up
up_two M X {by} l =
    let k : length (M ++ X) - by ≡ length M = simp length-append (omega arith) in
    rw (k, take-append_seam M X)

pub drop_two : (P Q R : List ℕ) {a b : ℕ} → length P ≡ a → a + length Q ≡ b → drop b (P ++ (Q ++ R)) ≡ R
drop_two P Q R {a} {b} p q = rw (← append_assoc) (drop_at (P ++ Q) R b (simp length-append (omega arith)))

-- a part that stands behind P and before R, moved in its place
pub moved_part : (f : List ℕ → List ℕ) (P T R : List ℕ) {a e : ℕ} → length P ≡ a → a + length T ≡ e → length (f T) ≡ length T → moved f a e (P ++ (T ++ R)) ≡ P ++ (f T ++ R)
moved_part f P T R {a} {e} p t l =
    let y = P ++ (T ++ R) in
    let n : e - a ≡ length T = omega arith in
    let k : length y ≡ a + (length T + length R) = simp length-append (omega arith) in
    let w : take (e - a) (drop a y) ≡ T = ap₂ take n (drop_at P (T ++ R) a p) ∙ take-append_seam T R in
    moved_in y f a e (omega arith) (omega arith) ∙ rw (w, drop_two P T R p t, take_at P (T ++ R) a p)

-- ---- a deck laid in a buffer

pub laid_start : (d : List ℕ) (n : ℕ) → n ≤ length d → d ≡ laid (take n d) n d
unfolding laid
laid_start d n h =
    let z : n - length (take n d) ≡ 0 = simp length-take (omega arith) in
    rw (z, take-append-drop)

pub take_laid : (new : List ℕ) (hi : ℕ) (d : List ℕ) {n : ℕ} → length new ≡ n → take n (laid new hi d) ≡ new
unfolding laid
take_laid new hi d {n} e = take_at new (zeros (hi - length new) ++ drop hi d) n e

pub length_laid : (new : List ℕ) (hi : ℕ) (d : List ℕ) → length new ≤ hi → hi ≤ length d → length (laid new hi d) ≡ length d
unfolding laid
length_laid new hi d h k = simp (length-append, length-replicate, length-drop) (omega arith)

drop_zeros : (t u : ℕ) (e : List ℕ) → drop t (zeros u ++ e) ≡ zeros (u - t) ++ drop (t - u) e
drop_zeros zero u e = rw (sub-zero, zero-sub)
drop_zeros (suc t) zero e = rw (sub-zero, zero-sub)
drop_zeros (suc t) (suc u) e = rw (suc-sub-suc u t, suc-sub-suc t u) (drop_zeros t u e)

zeros_add : (s t : ℕ) (e : List ℕ) → zeros s ++ (zeros t ++ e) ≡ zeros (s + t) ++ e
zeros_add s t e = rw (← append_assoc, replicate-append-replicate)

again_sum : (y z hi : ℕ) → y ≤ hi → y + (z - y) - z + (hi - y - (z - y)) ≡ max hi z - z
again_sum y z hi h = omega arith

-- a deck laid over a deck that was laid: of the first nothing but zeros is left
pub laid_again : (z y : List ℕ) (hi : ℕ) (d : List ℕ) → length y ≤ hi → laid z (max (length y) (length z)) (laid y hi d) ≡ laid z (max hi (length z)) d
unfolding laid
laid_again z y hi d h =
    let t : ℕ = length z - length y in
    let u : ℕ = hi - length y in
    let m : max (length y) (length z) ≡ length y + t = omega arith in
    let k : hi + (t - u) ≡ max hi (length z) = omega arith in
    let e : drop (length y + t) (y ++ (zeros u ++ drop hi d)) ≡ zeros (u - t) ++ drop (max hi (length z)) d =
    drop-append-add y (zeros u ++ drop hi d) t ∙ drop_zeros t u (drop hi d) ∙ rw (drop-drop, k) in
    rw (m, e, zeros_add, again_sum (length y) (length z) hi h)

pub put_length : (d : List ℕ) (at : ℕ) (bs : List ℕ) → at + length bs ≤ length d → length (put d at bs) ≡ length d
unfolding put
put_length d at bs h = simp (length-append, length-drop) (omega (arith, length-take-le at d (omega arith)))

-- one behind the other, where there is room for both
pub put_both : (d : List ℕ) (at : ℕ) (bs cs : List ℕ) {y z : List ℕ} {o : ℕ} → y ≡ put_in d at bs → z ≡ put_in y o cs → o ≡ at + length bs → at + length bs + length cs ≤ length d → z ≡ put_in d at (bs ++ cs)
put_both d at bs cs {y} {z} {o} e f w h =
    let a : y ≡ put d at bs = e ∙ put_in_lem d at bs (omega arith) in
    let l : length y ≡ length d = ap length a ∙ put_length d at bs (omega arith) in
    let b : z ≡ put y (at + length bs) cs = f ∙ ap (λ (n : ℕ). put_in y n cs) w ∙ put_in_lem y (at + length bs) cs (omega arith) in
    b ∙ ap (λ (x : List ℕ). put x (at + length bs) cs) a ∙ put_on d at bs cs (omega arith) ∙ sym (put_in_lem d at (bs ++ cs) (omega (arith, length-append bs cs)))

-- the buffer behind the longest deck
pub drop_laid : (new : List ℕ) (hi : ℕ) (d : List ℕ) → length new ≤ hi → drop hi (laid new hi d) ≡ drop hi d
unfolding laid
drop_laid new hi d h =
    rw (← append_assoc) (drop_at (new ++ zeros (hi - length new)) (drop hi d) hi (simp (length-append, length-replicate) (omega arith)))

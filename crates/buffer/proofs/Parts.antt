-- What a part that was lent leaves of the whole buffer, one law for each function that lends.
use Prim.Native.Nat.{ℕ, zero, suc, ◌+◌, ◌-◌, ◌≤◌, ◌<◌, max}
use native.Mathlib.Nat.{zero-add, sub-zero, zero-sub, suc-sub-suc}
use native.Mathlib.Omega.{arith}
use mathlib.Core.Path.{◌≡◌, sym, ap, ◌∙◌}
use mathlib.Core.List.{List, [], ◌∷◌, ◌++◌, append_assoc, append-nil}
use lib.ListN.{length, take, drop, length-append, length-drop}
use lib.Seq.{take-nil, drop-nil, take-length, drop-length, drop-drop, take-take, take-add, take_at, length-take-le}
use Rattle.buffer.specs.Laid.{zeros, put, put_in, laid}
use Rattle.buffer.specs.Laws.Laid.{down, up, pulled, moved, opened, put_in_lem, moved_in, opened_in, length_down}

-- a part from a to e is that of the first e bytes
part_is : (a e : ℕ) (d : List ℕ) → take (e - a) (drop a d) ≡ drop a (take e d)
part_is zero e d = rw sub-zero
part_is (suc a) zero d = rw zero-sub
part_is (suc a) (suc e) [] = rw take-nil
part_is (suc a) (suc e) (x ∷ d) = rw suc-sub-suc (part_is a e d)

tail_is : (a : ℕ) (d : List ℕ) → take (length d - a) (drop a d) ≡ drop a d
tail_is a d = rw (part_is a (length d) d, take-length)

part_back : (a e : ℕ) (d : List ℕ) → a ≤ e → drop (e - a) (drop a d) ≡ drop e d
part_back a e d h = let n : a + (e - a) ≡ e = omega arith in rw (drop-drop, n)

drop_past : (n : ℕ) (d : List ℕ) → length d ≤ n → drop n d ≡ []
drop_past n d h = sym (part_back (length d) n d h) ∙ rw (drop-length, drop-nil)

-- bytes put at the start of a tail
pub put_tail : (d ys s : List ℕ) (at : ℕ) → ys ≡ put (take (length d - at) (drop at d)) 0 s → at + length s ≤ length d
    → take at d ++ (ys ++ drop (length d - at) (drop at d)) ≡ put_in d at s
unfolding put
put_tail d ys s at e h =
    let y : ys ≡ s ++ drop (at + length s) d = e ∙ rw (tail_is at d, zero-add, drop-drop) in
    rw (part_back at (length d) d (omega arith), drop-length, append-nil, put_in_lem d at s h) (rw y)

-- bytes put in the place of as many
pub put_part : (d ys s : List ℕ) (at n : ℕ) → ys ≡ s → length s ≡ n → at + n ≤ length d → take at d ++ (ys ++ drop (at + n - at) (drop at d)) ≡ put_in d at s
unfolding put
put_part d ys s at n e l h = rw (part_back at (at + n) d (omega arith), put_in_lem d at s (omega arith)) (rw (e, l))

pub part_moved : (f : List ℕ → List ℕ) (d ys : List ℕ) (a e : ℕ) → ys ≡ f (take (e - a) (drop a d)) → a ≤ e → e ≤ length d
    → take a d ++ (ys ++ drop (e - a) (drop a d)) ≡ moved f a e d
part_moved f d ys a e i h k = rw (moved_in d f a e h k, part_back a e d h, i)

pub all_pulled : (p q : List ℕ) (by : ℕ) → q ≡ zeros (length p) → length p < by → q ≡ pulled by p
unfolding pulled
all_pulled p q by e h =
    let z : length p - (length p - by) ≡ length p = omega arith in
    rw (drop_past by p (omega arith), z) e

-- q the part after it was shifted, ys its end after it was zeroed
pub end_pulled : (p q ys : List ℕ) (by : ℕ) → q ≡ down by p → ys ≡ zeros (length (take (length q - (length q - by)) (drop (length q - by) q))) → by ≤ length p
    → take (length q - by) q ++ (ys ++ drop (length q - (length q - by)) (drop (length q - by) q)) ≡ pulled by p
unfolding down pulled
end_pulled p q ys by e f h =
    let l : length q ≡ length p = ap length e ∙ length_down by p in
    let m = length q - by in
    let g : take m q ≡ drop by p = ap (take m) e ∙ take_at (drop by p) (drop (length p - by) p) m (rw l (length-drop by p)) in
    let w : length (take (length q - m) (drop m q)) ≡ length p - (length p - by) = rw tail_is (omega (arith, length-drop m q)) in
    rw (part_back m (length q) q (omega arith), drop-length, append-nil, g) (rw (f, w))

-- the same in the middle of a buffer, and a part moved up there
mid_pulled : (d ys : List ℕ) (n f by : ℕ) → ys ≡ pulled by (take (n - f) (drop f d)) → f + by ≤ n → n ≤ length d
    → take f d ++ (ys ++ drop (n - f) (drop f d)) ≡ take f d ++ (drop (f + by) (take n d) ++ (zeros by ++ drop n d))
unfolding pulled
mid_pulled d ys n f by e h k =
    let T = take (n - f) (drop f d) in
    let t : length T ≡ n - f = length-take-le (n - f) (drop f d) (omega (arith, length-drop f d)) in
    let c : length T - (length T - by) ≡ by = omega arith in
    let m : drop by T ≡ drop (f + by) (take n d) = ap (drop by) (part_is f n d) ∙ drop-drop by f (take n d) in
    rw (part_back f n d (omega arith)) (rw (e, m, c) (simp append_assoc))

mid_lifted : (d ys : List ℕ) (n b by end : ℕ) → ys ≡ up by (take (end - b) (drop b d)) → end ≡ n + by → b ≤ n → end ≤ length d
    → take b d ++ (ys ++ drop (end - b) (drop b d)) ≡ take (b + by) d ++ (drop b (take n d) ++ drop end d)
unfolding up
mid_lifted d ys n b by end e i h k =
    let D = drop b d in
    let T = take (end - b) D in
    let t : length T ≡ end - b = length-take-le (end - b) D (omega (arith, length-drop b d)) in
    let c : length T - by ≡ n - b = omega arith in
    let u : take by T ≡ take by D = take-take by (end - b) D (omega arith) in
    let w : take (length T - by) T ≡ drop b (take n d) = ap (λ (j : ℕ). take j T) c ∙ take-take (n - b) (end - b) D (omega arith) ∙ part_is b n d in
    rw (part_back b end d (omega arith), take-add b by d) (rw (e, u, w) (simp append_assoc))

zeros_left : (n k len : ℕ) → k ≤ n → max n (n - k + len) - (n - k + len) ≡ k - len
zeros_left n k len h = omega arith

-- an opened deck, by the bytes that stand still, those that moved, and the zeros
opened_as : (d : List ℕ) (n a b len : ℕ) → a ≤ b → b ≤ n → n ≤ length d → n - (b - a) + len ≤ length d
    → opened d n a b len ≡ take (a + len) d ++ (drop b (take n d) ++ (zeros (b - a - len) ++ drop (max n (n - (b - a) + len)) d))
unfolding laid
opened_as d n a b len h k l m =
    let X = take a d ++ (take len (drop a d) ++ drop b (take n d)) in
    let hi = max n (n - (b - a) + len) in
    let u = length-take-le a d (omega arith) in
    let v = length-take-le len (drop a d) (omega (arith, length-drop a d)) in
    let w = length-take-le n d l in
    let c : length X ≡ n - (b - a) + len = simp (length-append, u, v, length-drop, w) (omega arith) in
    let z : hi - length X ≡ b - a - len = ap (λ (j : ℕ). hi - j) c ∙ zeros_left n (b - a) len (omega arith) in
    opened_in d n a b len h k l m ∙ rw (z, take-add) (simp append_assoc)

pub room_pulled : (d ys : List ℕ) (n a b len : ℕ) → ys ≡ pulled (b - a - len) (take (n - (a + len)) (drop (a + len) d)) → a ≤ b → b ≤ n → n ≤ length d → len ≤ b - a
    → take (a + len) d ++ (ys ++ drop (n - (a + len)) (drop (a + len) d)) ≡ opened d n a b len
room_pulled d ys n a b len e h k l m =
    let s : a + len + (b - a - len) ≡ b = omega arith in
    let x : max n (n - (b - a) + len) ≡ n = omega arith in
    mid_pulled d ys n (a + len) (b - a - len) e (omega arith) l ∙ rw (opened_as d n a b len h k l (omega arith), s, x)

pub room_lifted : (d ys : List ℕ) (n a b len : ℕ) → ys ≡ up (len - (b - a)) (take (n - (b - a) + len - b) (drop b d)) → a ≤ b → b ≤ n → n - (b - a) + len ≤ length d → b - a < len
    → take b d ++ (ys ++ drop (n - (b - a) + len - b) (drop b d)) ≡ opened d n a b len
room_lifted d ys n a b len e h k m g =
    let s : b + (len - (b - a)) ≡ a + len = omega arith in
    let x : max n (n - (b - a) + len) ≡ n - (b - a) + len = omega arith in
    let z : b - a - len ≡ 0 = omega arith in
    mid_lifted d ys n b (len - (b - a)) (n - (b - a) + len) e (omega arith) k m ∙ rw (opened_as d n a b len h k (omega arith) m, s, x, z)

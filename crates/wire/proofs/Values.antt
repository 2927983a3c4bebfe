-- The number that bytes spell, one byte more at a time, from the last of them on.
use Prim.Native.Nat.{ℕ, suc, ◌+◌, ◌-◌, ◌*◌, ◌^◌, ◌≤◌, ◌<◌}
use native.Mathlib.Omega.{arith}
use Rattle.std.proofs.Common.{drop-cons, length-take-le, length-drop, Fits}
use Rattle.std.specs.Int.{w8}
use Rattle.std.specs.Prelude.{◌≡◌, List, length, take, drop, get_or}
use Rattle.std.proofs.Math.Nat.{pow-le-pow_right}
use Rattle.std.proofs.Math.Path.{refl}
use Rattle.format.specs.Laws.Format.{bytes_all, bytes_drop, bytes_take}
use Rattle.format.specs.ReadWrite.{value}
use Rattle.format.specs.Laws.ReadWrite.{value_small}

module _ (k at : ℕ) (s : List ℕ) where
  -- what those from the one at i on spell
  abbrev pub value_from : ℕ → ℕ
  value_from i = value (take (k - i) (drop (at + i) s))

  pub value_end : 0 ≡ value_from k
  unfolding value
  value_end = let e : k - k ≡ 0 = omega arith in rw e refl

  pub value_start : {i : ℕ} → i ≤ 0 → value_from i ≡ value (take k (drop at s))
  value_start {i} h = let e : i ≡ 0 = omega arith in let d : at + 0 ≡ at = omega arith in let f : k - 0 ≡ k = omega arith in rw (e, d, f) refl

  module _ {i n : ℕ} (p : 0 < i) (q : i ≤ k) (r : at + k ≤ length s) (e : n ≡ value_from i) where
    -- of at most eight, those behind the first leave room for it
    pub value_room : k ≤ 8 → ((j : ℕ) → Fits w8 (get_or s j 0)) → n < 2 ^ 56
    value_room h b =
        let t : List ℕ = drop (at + i) s in
        let l : length (take (k - i) t) ≡ k - i = length-take-le (k - i) t (omega (arith, length-drop (at + i) s)) in
        let v = value_small (take (k - i) t) (bytes_take (k - i) t (bytes_drop (at + i) s (bytes_all s b))) in
        let w : 256 ^ (k - i) ≤ 256 ^ 7 = pow-le-pow_right {n = 256} (omega arith) {i = k - i} {j = 7} (omega arith) in
        omega (arith, rw l at v, w)

    pub value_next : 256 * n + get_or s (at + (i - 1)) 0 ≡ value_from (i - 1)
    unfolding value
    value_next =
        let t : k - (i - 1) ≡ suc (k - i) = omega arith in
        let d : suc (at + (i - 1)) ≡ at + i = omega arith in
        rw (t, drop-cons s (at + (i - 1)) 0 (omega arith), d, ← e) (omega arith)

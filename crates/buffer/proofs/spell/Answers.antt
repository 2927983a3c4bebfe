use Rattle.std.proofs.Common.{◌≡◌, ◌+◌, ◌-◌, ◌/◌, ◌%◌, ◌<◌, ◌≤◌, ◌∙◌, ℕ, suc, List, ◌++◌, length, take, set, arith, append-nil, append_assoc, take_all}
use Rattle.std.proofs.lemmas.List.{take_more_set}
use Rattle.format.specs.ReadWrite.{spelt}
use Rattle.buffer.proofs.spell.Goals as goal

-- one more byte, and none left
byte_next : (p : List ℕ) (i k n : ℕ) → i < length p → i < k → take (i + 1) (set p i (n % 256)) ++ spelt (k - (i + 1)) (n / 256) ≡ take i p ++ spelt (k - i) n
unfolding spelt
byte_next p i k n h l =
    let q : k - i ≡ suc (k - (i + 1)) = omega arith in
    rw (q, take_more_set p i (n % 256) h, append_assoc)

byte_last : (p : List ℕ) (i k n : ℕ) → length p ≡ k → k ≤ i → p ≡ take i p ++ spelt (k - i) n
unfolding spelt
byte_last p i k n h l =
    let z : k - i ≡ 0 = omega arith in
    rw (z, append-nil, take_all i p (omega arith))

pub loop-byte-preserved : goal.loop-byte-preserved
loop-byte-preserved c = let i = c.loop-byte.byte-index in byte_next c.loop-byte.p i _ _ (omega arith) (omega arith) ∙ c.loop-byte.invariant

pub returns : goal.returns
returns c = byte_last _ c.loop-byte.byte-index _ _ (omega arith) (omega arith) ∙ c.loop-byte.invariant

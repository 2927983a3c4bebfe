-- Document 02, W5: "7 remains for more than 255 units".
use Rattle.std.specs.Prelude.{ℕ, ◌+◌, ◌*◌, ◌<◌, ◌≤◌, ◌≡◌, refl, Bool, true, false, List, [], ◌∷◌, leb, eqb, length, drop}
use Rattle.std.proofs.Common.{arith, sym, ◌∙◌, le-leb, leb-false, eqb-true}
use Rattle.std.proofs.lemmas.Bool.{lt-leb}
use Rattle.format.specs.declared.Fault.{Fault}
use Rattle.format.specs.Format.{Answer, refused, shift, mapped, and_then, pick, Format}
use Rattle.format.specs.ReadWrite.{pair_read, judge, judge_of, home, number_read, value}
use Rattle.format.specs.Combinators.{pair, via, judged, at_start, nothing, number, each}
use Rattle.text.specs.declared.Form.TheVariants.{Long}
use Rattle.text.specs.Length.{Length, long_length, in_long, in_short, length_behind}
use Rattle.text.specs.Text.{Text, string_length, string_of, unit, string}
use Rattle.bounds.specs.Laws.Faults.{For, Gives, for_refused, for_no, for_mapped, for_shift, for_home, for_then, gives_number, gives_each}

-- a String that says, in the long form, that it has more than 255 units
pub record Over (s : List ℕ) : Type 0 where
  pub low : ℕ
  pub high : ℕ
  pub rest : List ℕ
  pub is : s ≡ 255 ∷ low ∷ high ∷ rest
  pub many : 255 < low + 256 * high

-- it is refused at its start, whatever stands behind its length
pub over_refused : (unit : Format ℕ) (s : List ℕ) → Over s → (string_of unit).read s ≡ refused Fault.Form 0
unfolding string_of at_start home string_length length_behind long_length via pair pair_read judged judge_of judge number number_read value mapped shift and_then pick
over_refused unit s o =
    let one : 1 ≤ length (255 ∷ o.low ∷ o.high ∷ o.rest) = omega arith in
    let two : 2 ≤ length (o.low ∷ o.high ∷ o.rest) = omega arith in
    let v : 255 < o.low + 256 * (o.high + 256 * 0) = omega (arith, o.many) in
    rw (o.is, le-leb 1 (length (255 ∷ o.low ∷ o.high ∷ o.rest)) one, le-leb 2 (length (o.low ∷ o.high ∷ o.rest)) two, lt-leb (o.low + 256 * (o.high + 256 * 0)) 255 v)

-- ---- and no other: 7 only where it is so
abbrev Only : List ℕ → Fault → Type 0
Only s c = c ≡ Fault.Form → Over s

only_cut : (s : List ℕ) → Only s Fault.Cut
only_cut s e = absurd (let z : ◌≡◌ {A = ℕ} 0 1 = cc in omega arith)

only_long : (t : List ℕ) → For (Only (255 ∷ t)) (long_length.read t)
unfolding For long_length judged judge_of judge number number_read value pick
only_long [] = only_cut (255 ∷ [])
only_long (a ∷ []) = only_cut (255 ∷ a ∷ [])
only_long (a ∷ (b ∷ u)) =
    let two : 2 ≤ length (a ∷ b ∷ u) = omega arith in
    rw (le-leb 2 (length (a ∷ b ∷ u)) two) (go (leb (a + 256 * (b + 256 * 0)) 255) refl)
  where
    go : (t : Bool) → leb (a + 256 * (b + 256 * 0)) 255 ≡ t → For (Only (255 ∷ a ∷ b ∷ u)) (judge Fault.Form t (a + 256 * (b + 256 * 0)) 2)
    go true e = tt
    go false e = λ f. record { low = a; high = b; rest = u; is = refl; many = let h = leb-false (a + 256 * (b + 256 * 0)) 255 e in omega arith }

only_behind : (y : ℕ) (t : List ℕ) (b : Bool) → eqb y 255 ≡ b → For (Only (y ∷ t)) ((pick b in_long (in_short y)).read t)
unfolding For pick via nothing mapped
only_behind y t true e = rw (eqb-true y 255 e) (for_mapped (Only (255 ∷ t)) {B = Length} (λ n. (Long, n)) (long_length.read t) (only_long t))
only_behind y t false e = tt

only_length : (s : List ℕ) → For (Only s) (string_length.read s)
unfolding string_length length_behind via pair pair_read number number_read value mapped shift and_then pick
only_length [] = for_no (Only []) Length 0 (only_cut [])
only_length (y ∷ t) =
    let one : 1 ≤ length (y ∷ t) = omega arith in
    let z : y + 256 * 0 ≡ y = omega arith in
    rw (le-leb 1 (length (y ∷ t)) one, z) (for_mapped (Only (y ∷ t)) _ _ (for_shift (Only (y ∷ t)) 1 _ (for_mapped (Only (y ∷ t)) _ _ (only_behind y t (eqb y 255) refl))))

only_string : (s : List ℕ) → For (Only s) (string.read s)
unfolding Gives string_of at_start via pair pair_read
only_string s =
    let row : (n : ℕ) → Gives (Only s) (each (λ i. unit) 0 n) = λ n. gives_each (Only s) (λ i. unit) (λ i. gives_number (Only s) (only_cut s) 2) 0 n in
    for_home (Only s) _ (for_mapped (Only s) _ _ (for_then (Only s) (string_length.read s) _ (only_length s) (λ l n. for_mapped (Only s) _ _ (row l.1 (drop n s)))))

-- at the String, and of no other
pub seven_is_over : (s : List ℕ) (q : ℕ) → string.read s ≡ refused Fault.Form q → Over s × (q ≡ 0)
seven_is_over s q e =
    let o = for_refused (Only s) (only_string s) e refl in
    (o, let z : ◌≡◌ {A = Answer Text} (refused Fault.Form q) (refused Fault.Form 0) = sym e ∙ over_refused unit s o in cc)

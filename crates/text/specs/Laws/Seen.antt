-- What the code says of a String, of its length and of a word, and the laws by which it reads them. They hold for a unit of any width.
use Prim.Native.Nat.{ℕ, ◌+◌, ◌-◌, ◌*◌, ◌<◌, ◌≤◌}
use Rattle.std.proofs.Common.{add_assoc, arith, sym, ◌∙◌, Ok, Err}
use Rattle.std.proofs.Math.Nat.{add-zero}
use Rattle.std.proofs.Math.Decide.{dec_lt}
use Rattle.std.specs.Prelude.{◌≡◌, List, length, drop, IfErr}
use Rattle.std.proofs.Math.Path.{refl, ap}
use Rattle.std.proofs.Math.Seq.{drop-drop}
use borrow.Author.Tests.{eq-eqb, ne_eqb}
use Rattle.format.specs.declared.Fault.{Fault}
use Rattle.format.specs.Laws.Answers.{Read}
use Rattle.format.specs.Laws.Fault.{Own}
use Rattle.text.specs.Laws.Answers.{StringRead}
use Rattle.format.specs.declared.Refusal.{Refusal}
use Rattle.format.specs.declared.Refusal.TheVariants.{At, Given}
use Rattle.format.specs.Format.{Answer, got, refused, shift, mapped, and_then, pick, Bytes, Format}
use Rattle.format.specs.Laws.Format.{bytes_drop}
use Rattle.format.specs.ReadWrite.{pair_read, home}
use Rattle.format.specs.Combinators.{pair, via, seq, at_start, nothing, ◌then◌, number, fixed, each}
use Rattle.format.specs.Laws.Seen.{told, seen, itself, none, told_got, told_why, told_no, Stopped, number_no}
use Rattle.format.specs.Laws.Written.{Stands}
use Rattle.format.specs.Laws.Back.{seen_ends}
use Rattle.format.specs.Laws.Rows.{row_length, number_row, row_no}
use Rattle.text.specs.declared.Form.{Form}
use Rattle.text.specs.declared.Form.TheVariants.{Short, Long}
use Rattle.text.specs.Length.{Length, long_length, length_behind}
use Rattle.text.specs.Text.{Text, length_of, string_length, string_of, word_of}
use Rattle.text.specs.Laws.Written.{length_most}

-- the place past it, its form and the number of its units
unfoldable pub text_told : {A : Type 0} → ℕ → (A → Length) → Answer A → StringRead
text_told at f (got x n) = Ok (at + n, (f x).0, (f x).1)
text_told at f (refused c p) = Err (At c (at + p))

unfoldable pub text_seen : {A : Type 0} → (A → Length) → Format A → List ℕ → ℕ → StringRead
text_seen f a s at = text_told at f (a.read (drop at s))

-- the three of a reading, each told apart
abbrev text_as : ℕ → Form → ℕ → StringRead
text_as m form n = Ok (m, form, n)

abbrev refuse : Refusal → StringRead
refuse why = Err why

abbrev text_end : StringRead → ℕ
text_end (Ok (m, form, n)) = m
text_end (Err why) = 0

abbrev text_form : StringRead → Form
text_form (Ok (m, form, n)) = form
text_form (Err why) = Short

abbrev text_units : StringRead → ℕ
text_units (Ok (m, form, n)) = n
text_units (Err why) = 0

pub text_parts : {l m j n : ℕ} {form form' : Form} → ◌≡◌ {A = StringRead} (Ok (l, form, j)) (Ok (m, form', n)) → (l ≡ m) × ((form ≡ form') × (j ≡ n))
text_parts e = (ap text_end e, (ap text_form e, ap text_units e))

-- no String was refused
pub text_unlike : {B : Type 0} {r : StringRead} {form : Form} {n m : ℕ} {why : Refusal} → r ≡ Ok (m, form, n) → r ≡ Err why → B
text_unlike e h = absurd (let z : ◌≡◌ {A = ℕ} 0 1 = cc in omega arith)

-- the refusal of a String is its own
pub text_own : {A : Type 0} (f : A → Length) (a : Format A) (s : List ℕ) (at : ℕ) {r : StringRead} → r ≡ text_seen f a s at → IfErr r Own
unfolding text_seen text_told
text_own {A = A} f a s at e = rw e (go (a.read (drop at s)))
  where
    go : (q : Answer A) → IfErr (text_told at f q) Own
    go (got x n) = tt
    go (refused c p) = tt

-- an answer, from what the code says of it
pub record Valued {A : Type 0} (at : ℕ) (f : A → Length) (q : Answer A) (form : Form) (n m : ℕ) : Type 0 where
  pub x : A
  pub k : ℕ
  pub is : q ≡ got x k
  pub forms : form ≡ (f x).0
  pub many : n ≡ (f x).1
  pub ends : m ≡ at + k

text_got : {A : Type 0} (at : ℕ) (f : A → Length) (q : Answer A) {r : StringRead} {form : Form} {n m : ℕ} → r ≡ text_told at f q → r ≡ Ok (m, form, n) → Valued at f q form n m
unfolding text_told
text_got at f (got x k) e h = let w = text_parts (sym h ∙ e) in record { x = x; k = k; is = refl; forms = w.1.0; many = w.1.1; ends = w.0 }
text_got at f (refused d o) e h = text_unlike h e

text_why : {A : Type 0} (at : ℕ) (f : A → Length) (q : Answer A) {r : StringRead} {why : Refusal} → r ≡ text_told at f q → r ≡ Err why → Stopped at q why
unfolding text_told
text_why at f (got x k) e h = text_unlike e h
text_why at f (refused d o) e h = record { c = d; o = o; is = refl; ends = (cc) }

-- told as other readers tell it: where it ends
abbrev pub end_read : StringRead → Read
end_read (Ok (e, form, n)) = Ok (e, 0)
end_read (Err why) = Err why

module _ {A : Type 0} (f : A → Length) (a : Format A) (s : List ℕ) (at : ℕ) {r : StringRead} where
  pub end_is : {x : Read} → r ≡ text_seen f a s at → x ≡ end_read r → x ≡ seen none a s at
  unfolding text_seen text_told seen told
  end_is e o = o ∙ ap end_read e ∙ go (a.read (drop at s))
    where
      go : (q : Answer A) → end_read (text_told at f q) ≡ told at none q
      go (got x n) = refl
      go (refused c p) = refl

  pub text_ends : {form : Form} {n m : ℕ} → r ≡ text_seen f a s at → r ≡ Ok (m, form, n) → m ≤ at + (length s - at)
  text_ends e h = seen_ends none a s at (end_is e refl) (ap end_read h)

  -- what stands written at the place
  pub text_back : {x : A} {u : List ℕ} → Stands a s at x u → r ≡ text_seen f a s at → r ≡ Ok (at + length (a.write x), (f x).0, (f x).1)
  unfolding text_seen text_told
  text_back {x} {u} b e = e ∙ rw (b.is, a.back x u b.fit)

  pub text_told_lem : {x : A} {u : List ℕ} {form : Form} {n m : ℕ} → Stands a s at x u → r ≡ text_seen f a s at → r ≡ Ok (m, form, n) → (m ≡ at + length (a.write x)) × ((form ≡ (f x).0) × (n ≡ (f x).1))
  text_told_lem b e h = text_parts (sym h ∙ text_back b e)

-- ---- a String's length: r is what its first byte was read as, w what the two behind it

abbrev pub in_form : Form → Read → StringRead
in_form form (Ok (p, n)) = Ok (p, form, n)
in_form form (Err why) = Err why

module _ (s : List ℕ) (at : ℕ) {r : Read} (e : r ≡ seen itself (number 1) s at) where
  pub length_none : {x : StringRead} {why : Refusal} → r ≡ Err why → x ≡ in_form Short r → x ≡ text_seen (λ l. l) string_length s at
  unfolding seen text_seen text_told string_length via pair pair_read mapped and_then
  length_none h o = let i = told_why at itself ((number 1).read (drop at s)) e h in rw (i.is, ← i.ends) (o ∙ ap (in_form Short) h)

  module _ {n p : ℕ} (h : r ≡ Ok (p, n)) where
    pub length_short : (n ≡ 255 → ⊥) → Ok (p, Short, n) ≡ text_seen (λ l. l) string_length s at
    unfolding seen text_seen text_told string_length length_behind via pair pair_read nothing mapped shift and_then pick
    length_short k = let i = told_got at itself ((number 1).read (drop at s)) e h in rw (i.is, ← i.tells, ne_eqb n 255 k, add-zero, ← i.ends)

    pub length_long : {x : StringRead} {w : Read} → n ≡ 255 → w ≡ seen itself long_length s p → x ≡ in_form Long w → x ≡ text_seen (λ l. l) string_length s at
    unfolding seen told text_seen text_told string_length length_behind via pair pair_read mapped shift and_then pick
    length_long k f o =
        let i = told_got at itself ((number 1).read (drop at s)) e h in
        rw (i.is, ← i.tells, eq-eqb n 255 k, drop-drop i.n at s, ← i.ends) (o ∙ ap (in_form Long) f ∙ go i.n i.ends (long_length.read (drop p s)))
      where
        go : (m : ℕ) → p ≡ at + m → (q : Answer ℕ) → in_form Long (told p itself q) ≡ text_told at (λ l. l) (mapped {A = ℕ × Length} (λ y. y.1) (shift m (mapped (λ l. (n, l)) (mapped (λ v. (Long, v)) q))))
        go m z (got v j) = rw (z, add_assoc)
        go m z (refused c j) = rw (z, add_assoc)

-- ---- a String: l is what its length was read as

abbrev pub refused_at : ℕ → StringRead → StringRead
refused_at at (Ok (p, form, n)) = Ok (p, form, n)
refused_at at (Err (At c p)) = Err (At c at)
refused_at at (Err (Given c p)) = Err (Given c p)

module _ (s : List ℕ) (at : ℕ) {l : StringRead} (e : l ≡ text_seen (λ l. l) string_length s at) where
  pub length_few : {form : Form} {n p : ℕ} → Bytes s → l ≡ Ok (p, form, n) → n ≤ 255
  unfolding text_seen
  length_few bs h =
      let i = text_got at (λ l. l) (string_length.read (drop at s)) e h in
      rw i.many (length_most i.x (string_length.forth (drop at s) i.x i.k (bytes_drop at s bs) i.is).fit)

  pub length_ends : {form : Form} {n p : ℕ} → l ≡ Ok (p, form, n) → p ≤ length s
  length_ends h =
      elim (dec_lt (length s) (at + 1)) [
        | yes u ↦ text_unlike h (e ∙ sym (length_none s at (number_no 1 s at (omega arith)) refl refl))
        | no u ↦ omega (arith, text_ends (λ l. l) string_length s at e h)
      ]

  module _ (unit : Format ℕ) where
    pub string_stop : {x : StringRead} {why : Refusal} → l ≡ Err why → x ≡ refused_at at l → x ≡ text_seen length_of (string_of unit) s at
    unfolding text_seen text_told string_of at_start home via pair pair_read mapped and_then
    string_stop h o = let i = text_why at (λ l. l) (string_length.read (drop at s)) e h in rw (i.is, add-zero) (o ∙ ap (refused_at at) (h ∙ ap (λ (y : Refusal). refuse y) i.ends))

    -- r is what its units were read as
    module _ (g : List ℕ → ℕ) {form : Form} {n p : ℕ} (h : l ≡ Ok (p, form, n)) {r : Read} (f : r ≡ seen g (each (λ i. unit) 0 n) s p) where
      row : Valued at (λ l. l) (string_length.read (drop at s)) form n p
      unfolding text_seen
      row = text_got at (λ l. l) (string_length.read (drop at s)) e h

      pub string_got : {v q : ℕ} → r ≡ Ok (q, v) → Ok (q, form, n) ≡ text_seen length_of (string_of unit) s at
      unfolding seen text_seen text_told string_of at_start home via pair pair_read mapped shift and_then
      string_got k =
          let i = row in
          let us = told_got p g ((each (λ i. unit) 0 n).read (drop p s)) f k in
          let z = row_length (λ i. unit) 0 n (drop p s) us.x us.n us.is in
          rw (i.is, drop-drop i.k at s, ← i.ends, ← i.many, us.is, z, ← i.forms) (ap (λ (m : ℕ). text_as m form n) (omega (arith, us.ends, i.ends)))

      pub string_no : {c : Fault} {q : ℕ} → r ≡ Err (At c q) → Err (At c at) ≡ text_seen length_of (string_of unit) s at
      unfolding seen text_seen text_told string_of at_start home via pair pair_read mapped shift and_then
      string_no k =
          let i = row in
          let us = told_no p g ((each (λ i. unit) 0 n).read (drop p s)) f k in
          rw (i.is, drop-drop i.k at s, ← i.ends, ← i.many, us.is, add-zero)

  -- units of any value, w bytes each
  module _ (w : ℕ) {form : Form} {n p : ℕ} (h : l ≡ Ok (p, form, n)) where
    pub string_is : p + w * n ≤ length s → Ok (p + w * n, form, n) ≡ text_seen length_of (string_of (number w)) s at
    string_is r = string_got (number w) length h (number_row w s p n (omega arith)) refl

    pub string_cut : length s < p + w * n → Err (At Fault.Cut at) ≡ text_seen length_of (string_of (number w)) s at
    string_cut r = let i = length_ends h in let c = row_no w s p n (omega arith) in string_no (number w) length h c.1 refl

-- a word: z is what its 4 zero bytes were read as
module _ (unit : Format ℕ) (s : List ℕ) (at : ℕ) {z : Read} (e : z ≡ seen none (fixed 4 0 Fault.Field) s at) {x : StringRead} where
  pub word_stop : {why : Refusal} → z ≡ Err why → x ≡ in_form Short z → x ≡ text_seen length_of (word_of unit) s at
  unfolding seen text_seen text_told word_of ◌then◌ seq via pair pair_read mapped and_then
  word_stop h o = let i = told_why at none ((fixed 4 0 Fault.Field).read (drop at s)) e h in rw (i.is, ← i.ends) (o ∙ ap (in_form Short) h)

  pub word_go : {v p : ℕ} → z ≡ Ok (p, v) → x ≡ text_seen length_of (string_of unit) s p → x ≡ text_seen length_of (word_of unit) s at
  unfolding seen text_seen text_told word_of ◌then◌ seq via pair pair_read mapped shift and_then
  word_go {p = p} h o =
      let i = told_got at none ((fixed 4 0 Fault.Field).read (drop at s)) e h in
      rw (i.is, drop-drop i.n at s, ← i.ends) (o ∙ go i.n i.ends ((string_of unit).read (drop p s)))
    where
      go : (m : ℕ) → p ≡ at + m → (q : Answer Text) → text_told p length_of q ≡ text_told at length_of (mapped {A = Unit {0} × Text} (λ y. y.1) (shift m (mapped (λ t. (tt, t)) q)))
      go m k (got t j) = rw (k, add_assoc)
      go m k (refused c j) = rw (k, add_assoc)

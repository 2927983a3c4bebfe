-- An element added behind the last rule's others: 8001, its identifier and its data behind the deck; Data Size and the number of elements written over.
use Rattle.std.specs.Prelude.{ℕ, ◌+◌, ◌-◌, ◌≤◌, ◌<◌, ◌≡◌, Ok, Err}
use Rattle.std.proofs.Common.{arith, ◌∙◌, take-append-drop, length-take-le, drop_at}
use Rattle.std.proofs.Math.Nat.{zero-add}
use Rattle.std.proofs.Math.Path.{refl, sym, ap}
use mathlib.Core.List.{List, [], ◌∷◌, ◌++◌, append_assoc, append-nil}
use Rattle.std.proofs.Math.ListN.{length, take, drop, length-append}
use Rattle.format.specs.declared.Fault.{Fault}
use Rattle.format.specs.Answers.{Outcome}
use Rattle.format.specs.Laws.Answers.{Read}
use Rattle.format.specs.declared.Refusal.{Refusal}
use Rattle.format.specs.declared.Refusal.TheVariants.{At}
use Rattle.format.specs.Fault.{in_given}
use Rattle.format.specs.Laws.Fault.{given_ok}
use Rattle.format.specs.Format.{Bytes}
use Rattle.format.specs.ReadWrite.{spelt, each_write}
use Rattle.format.specs.Laws.ReadWrite.{length_spelt, length_before, each_append}
use Rattle.format.specs.Combinators.{number}
use Rattle.format.specs.Laws.Seen.{seen, itself, told, none, told_got}
use Rattle.format.specs.Laws.Written.{Stands}
use Rattle.format.specs.Laws.Back.{back_got, back_no}
use Rattle.kind.specs.declared.Product.{Product}
use Rattle.kind.specs.declared.Product.TheVariants.{Studio}
use Rattle.element.specs.Element.{Element}
use Rattle.rule.specs.Rule.{Rule, placed}
use Rattle.rule.specs.Places.{enabled_at}
use Rattle.rule.specs.Laws.Rule.{rule_fits}
use Rattle.rule.specs.Laws.Parts.{kept, front, front_long, back, back_long, head_bytes, inner, size_of}
use Rattle.deck.specs.Written.{written, start_of}
use Rattle.deck.specs.Laws.Written.{before, rules}
use Rattle.buffer.specs.Laid.{put_in}
use Rattle.buffer.specs.Laws.Laid.{put_both}
use Rattle.buffer.specs.Laws.Holds.{Holds, holds_put, holds_behind}
use Rattle.locate.specs.Laws.Located.{last_of}
use Rattle.spot.specs.declared.Site.{Site}
use Rattle.steps.specs.Laws.Steps.{Here, name_end}
use Rattle.given.specs.Given.{given}
use Rattle.given.specs.Laws.Element.{later_written}
use Rattle.plan.specs.Edit.{Plan, become, add_element, edited, holding, unless_full, at_given}
use Rattle.plan.specs.Laws.Found.{MakesAs, Does}
use Rattle.plan.specs.Laws.Last.{rules_none, among, as_many, on_none, on_last}
use Rattle.room.specs.Room.{room_for}
use Rattle.room.specs.Laws.Room.{roomy}
use Rattle.plan.specs.Laws.Makes.{written_here, full, not_full, at_given_lem, no_given, given_no, made_no, made_given, made_out, made_in}

-- 8001, the identifier, the data
unfoldable pub later_bytes : ℕ → List ℕ → List ℕ
later_bytes id s = spelt 2 0x8001 ++ (spelt 4 id ++ s)

pub later_long : (id : ℕ) (s : List ℕ) → length (later_bytes id s) ≡ 6 + length s
unfolding later_bytes
later_long id s = omega (arith, length_before 2 0x8001 (spelt 4 id ++ s), length_before 4 id s)

-- as the code puts them
pub later_put : (d : List ℕ) (at id : ℕ) (s : List ℕ) {y z : List ℕ} → y ≡ put_in d at (spelt 2 0x8001) → z ≡ put_in y (at + 2) (spelt 4 id ++ s) → at + 6 + length s ≤ length d → z ≡ put_in d at (later_bytes id s)
unfolding later_bytes
later_put d at id s e f h =
    let l = length_spelt 2 0x8001 in
    let m = length-append (spelt 4 id) s in
    let k = length_spelt 4 id in
    put_both d at (spelt 2 0x8001) (spelt 4 id ++ s) e f (omega arith) (omega arith)

-- ---- the last rule

module _ (n : ℕ) (d : List ℕ) {p : Product} {v : ℕ} {rs : List Rule} {k : ℕ} (h : Here p v (take n d) rs k) (z : h.later ≡ []) (w : n ≤ length d) where
  -- the deck, to its end
  pub last_is : take n d ≡ before v rs k ++ (front h.r ++ back k h.r.elements)
  last_is = h.is ∙ rw (z, rules_none, append-nil)

  -- e is where its name ends
  module _ {e : ℕ} (g : e ≡ enabled_at (start_of v rs k) h.r) where
    pub front_ends : length (before v rs k ++ front h.r) ≡ e + 20
    front_ends = omega (arith, length-append (before v rs k) (front h.r), h.starts, front_long h.r, g)

    -- Data Size counts to the end of the deck
    pub size_ends : e + 24 + size_of k h.r.elements ≡ n
    size_ends =
        omega (arith, front_ends, ap length last_is, length-append (before v rs k) (front h.r ++ back k h.r.elements), length-append (front h.r) (back k h.r.elements), length-append (before v rs k) (front h.r), back_long k h.r.elements, length-take-le n d w)

    -- E behind it, and Data Size and the number of elements written over
    pub grown_holds : (E : List ℕ) (S C : ℕ) {y₁ y₂ y₃ : List ℕ} → n + length E ≤ length d → y₁ ≡ put_in d n E → y₂ ≡ put_in y₁ (e + 20) (spelt 4 S) → y₃ ≡ put_in y₂ (e + 24) (spelt 2 C)
        → Holds y₃ (before v rs k ++ (front h.r ++ (spelt 4 S ++ (spelt 2 C ++ (head_bytes k ++ (inner h.r.elements ++ E)))))) (n + length E) d
    unfolding back
    grown_holds E S C {y₁} {y₂} {y₃} l e₁ e₂ e₃ =
        let els = h.r.elements in
        let B = before v rs k in
        let F = front h.r in
        let P = B ++ F in
        let R = head_bytes k ++ (inner els ++ E) in
        let i : take n d ++ E ≡ P ++ (spelt 4 (size_of k els) ++ (spelt 2 (length els) ++ R)) = rw last_is (simp append_assoc) in
        let h₂ = holds_put P (spelt 4 (size_of k els)) (spelt 2 (length els) ++ R) (spelt 4 S) (holds_behind d n E l e₁) i front_ends (length_spelt 4 (size_of k els) ∙ sym (length_spelt 4 S)) e₂ in
        let j : P ++ (spelt 4 S ++ (spelt 2 (length els) ++ R)) ≡ (P ++ spelt 4 S) ++ (spelt 2 (length els) ++ R) = sym (append_assoc P (spelt 4 S) (spelt 2 (length els) ++ R)) in
        let l₃ : length (P ++ spelt 4 S) ≡ e + 24 = omega (arith, length-append P (spelt 4 S), front_ends, length_spelt 4 S) in
        let h₃ = holds_put (P ++ spelt 4 S) (spelt 2 (length els)) R (spelt 2 C) h₂ j l₃ (length_spelt 2 (length els) ∙ sym (length_spelt 2 C)) e₃ in
        let q : (P ++ spelt 4 S) ++ (spelt 2 C ++ R) ≡ B ++ (F ++ (spelt 4 S ++ (spelt 2 C ++ R))) = simp append_assoc in
        rw q at h₃

-- ---- its elements, and one more
pub inner_more : (xs : List Element) (x : Element) → inner (xs ++ (x ∷ [])) ≡ inner xs ++ (placed Studio (length xs)).write x
unfolding inner each_write
inner_more xs x = each_append (placed Studio) 0 xs (x ∷ []) ∙ rw (zero-add, append-nil)

back_more : (k : ℕ) (xs : List Element) (x : Element) (E : List ℕ) → (placed Studio (length xs)).write x ≡ E
    → back k (xs ++ (x ∷ [])) ≡ spelt 4 (size_of k xs + length E) ++ (spelt 2 (length xs + 1) ++ (head_bytes k ++ (inner xs ++ E)))
unfolding back size_of
back_more k xs x E e =
    let i : inner (xs ++ (x ∷ [])) ≡ inner xs ++ E = inner_more xs x ∙ ap (λ (t : List ℕ). inner xs ++ t) e in
    let s : 2 + (length (head_bytes k) + length (inner xs ++ E)) ≡ 2 + (length (head_bytes k) + length (inner xs)) + length E = omega (arith, length-append (inner xs) E) in
    rw (i, s, length-append xs (x ∷ []))

-- whatever sound deck of m rules is in the first n bytes, its last rule having a name that ends at e and c elements: the element x, whose bytes are these, is added
unfoldable pub Grows : ℕ → ℕ → ℕ → ℕ → ℕ → List ℕ → List ℕ → Outcome → List ℕ → Type 0
Grows n m e c id s d r d' =
    (p : Product) (v : ℕ) (rs : List Rule) (k : ℕ) (x : Element) (h : Here p v (take n d) rs k) → h.later ≡ [] → n ≤ length d → m ≡ length rs → e ≡ enabled_at (start_of v rs k) h.r → c ≡ length h.r.elements → (placed Studio c).write x ≡ later_bytes id s
    → Does v n (become (take k rs ++ (holding (h.r.elements ++ (x ∷ [])) h.r ∷ []))) d r d'

module _ (n m e c id : ℕ) (s d : List ℕ) where
  -- the deck of the edited list
  grown_written : {p : Product} {v : ℕ} {rs : List Rule} {k : ℕ} (x : Element) (h : Here p v (take n d) rs k) → h.later ≡ [] → n ≤ length d → e ≡ enabled_at (start_of v rs k) h.r → c ≡ length h.r.elements → (placed Studio c).write x ≡ later_bytes id s → k < length rs
      → written v (take k rs ++ (holding (h.r.elements ++ (x ∷ [])) h.r ∷ [])) ≡ before v rs k ++ (front h.r ++ (spelt 4 (n + 6 + length s - (e + 24)) ++ (spelt 2 (c + 1) ++ (head_bytes k ++ (inner h.r.elements ++ later_bytes id s)))))
  unfolding front kept
  grown_written {v = v} {rs = rs} {k = k} x h z w g cs b l =
      let els = h.r.elements in
      let f : drop k rs ≡ h.r ∷ [] = h.from ∙ rw z in
      let size : size_of k els + length (later_bytes id s) ≡ n + 6 + length s - (e + 24) = omega (arith, later_long id s, size_ends n d h z w g) in
      written_here v rs [] k h.r (holding (els ++ (x ∷ [])) h.r) f l (λ z. absurd (omega arith)) ∙ rw (rules_none, append-nil, back_more k els x (later_bytes id s) (rw cs at b), size, cs)

  grown_long : {p : Product} {v : ℕ} {rs : List Rule} {k : ℕ} (h : Here p v (take n d) rs k) (S C : ℕ) → h.later ≡ [] → n ≤ length d → e ≡ enabled_at (start_of v rs k) h.r
      → length (before v rs k ++ (front h.r ++ (spelt 4 S ++ (spelt 2 C ++ (head_bytes k ++ (inner h.r.elements ++ later_bytes id s)))))) ≡ n + 6 + length s
  unfolding size_of
  grown_long {v = v} {rs = rs} {k = k} h S C z w g =
      let B = before v rs k in
      let F = front h.r in
      let I = inner h.r.elements in
      let E = later_bytes id s in
      omega (arith, length-append B (F ++ (spelt 4 S ++ (spelt 2 C ++ (head_bytes k ++ (I ++ E))))), length-append F (spelt 4 S ++ (spelt 2 C ++ (head_bytes k ++ (I ++ E)))), length_before 4 S (spelt 2 C ++ (head_bytes k ++ (I ++ E))), length_before 2 C (head_bytes k ++ (I ++ E)), length-append (head_bytes k) (I ++ E), length-append I E, length-append B F, later_long id s, front_ends n d h z w g, size_ends n d h z w g)

  -- never, of a sound deck
  pub grow_short : (r : Outcome) (d' : List ℕ) → n + 6 + length s < e + 24 → Grows n m e c id s d r d'
  unfolding Grows
  grow_short r d' l p v rs k x h z w f g cs b = absurd (omega (arith, size_ends n d h z w g))

  -- o is what 18, 19 and 20 were judged as
  module _ {o : Outcome} where
    pub grow_out : {r : Outcome} {why : Refusal} → o ≡ room_for m (n + 6 + length s) (length d) → o ≡ Err why → r ≡ Err why → Grows n m e c id s d r d
    unfolding Grows
    grow_out j i er p v rs k x h z w f g cs b =
        made_out v n d refl j i er (f ∙ sym (as_many h _ z)) (sym (ap length (grown_written x h z w g cs b (among h)) ∙ grown_long h _ _ z w g))

    pub grow_done : {y₁ y₂ y₃ : List ℕ} {u : ℕ} → o ≡ room_for m (n + 6 + length s) (length d) → o ≡ Ok u → y₁ ≡ put_in d n (later_bytes id s) → y₂ ≡ put_in y₁ (e + 20) (spelt 4 (n + 6 + length s - (e + 24))) → y₃ ≡ put_in y₂ (e + 24) (spelt 2 (c + 1))
        → Grows n m e c id s d o y₃
    unfolding Grows
    grow_done j i e₁ e₂ e₃ p v rs k x h z w f g cs b =
        let E = later_long id s in
        let l = (roomy m (n + 6 + length s) (length d) j i).inside in
        made_in v n d j i (grown_holds n d h z w g (later_bytes id s) _ _ (omega arith) e₁ e₂ e₃) refl (sym (grown_written x h z w g cs b (among h)))
        (grown_long h _ _ z w g) (omega arith) (f ∙ sym (as_many h _ z))

-- ---- what is judged before

-- the number of elements stands behind Data Size
pub count_stands : (n : ℕ) (d : List ℕ) {p : Product} {v : ℕ} {rs : List Rule} {k e : ℕ} (h : Here p v (take n d) rs k) → n ≤ length d → e ≡ enabled_at (start_of v rs k) h.r
    → (u : List ℕ) × Stands (number 2) d (e + 24) (length h.r.elements) u
unfolding number back
count_stands n d {p} {v} {rs} {k} {e} h w g =
    let els = h.r.elements in
    let B = before v rs k in
    let P = B ++ (front h.r ++ spelt 4 (size_of k els)) in
    let u = head_bytes k ++ (inner els ++ (rules (k + 1) h.later ++ drop n d)) in
    let i : d ≡ P ++ (spelt 2 (length els) ++ u) = sym (take-append-drop n d) ∙ ap (λ (t : List ℕ). t ++ drop n d) h.is ∙ simp append_assoc in
    let l : length P ≡ e + 24 = omega (arith, length-append B (front h.r ++ spelt 4 (size_of k els)), length-append (front h.r) (spelt 4 (size_of k els)), length_spelt 4 (size_of k els), h.starts, front_long h.r, g) in
    (u, record { fit = omega (arith, rule_fits p k h.r h.fits); is = ap (drop (e + 24)) i ∙ drop_at P (spelt 2 (length els) ++ u) (e + 24) l })

-- the last rule with an element more
abbrev with_more : Product → ℕ → List ℕ → List Rule → ℕ → Rule → Plan (List Rule)
with_more p id s rs k r = unless_full (length r.elements) (at_given (given p id s) λ x. become (take k rs ++ (holding (r.elements ++ (x ∷ [])) r ∷ [])))

-- z is what the number of elements was read as, g what the element was judged as
module _ (p : Product) (f : Site) (id : ℕ) (s d : List ℕ) where
  pub element_none : f.rules ≡ 0 → MakesAs p last_of f (add_element id s) d (Err (At Fault.Last 0)) d
  unfolding edited
  element_none e = on_none p f d (add_element id s) (with_more p id s) (λ rs. refl) e

  module _ {e : ℕ} {z : Read} where
    pub element_uncounted : (r : Outcome) (d' : List ℕ) {why : Refusal} → (f.rules ≡ 0 → ⊥) → e ≡ name_end d f.start → z ≡ seen itself (number 2) d (e + 24) → z ≡ Err why → MakesAs p last_of f (add_element id s) d r d'
    unfolding edited
    element_uncounted r d' l g i k = on_last p f d (add_element id s) (with_more p id s) (λ rs. refl) r d' l g (λ v rs h y o e' a'. back_no itself (number 2) d (e + 24) (count_stands f.bytes d h o.within e').1 i k)

    module _ {c q : ℕ} where
      pub element_full : (f.rules ≡ 0 → ⊥) → e ≡ name_end d f.start → z ≡ seen itself (number 2) d (e + 24) → z ≡ Ok (q, c) → 64 ≤ c → MakesAs p last_of f (add_element id s) d (Err (At Fault.Full 0)) d
      unfolding edited
      element_full l g i k t = on_last p f d (add_element id s) (with_more p id s) (λ rs. refl) _ _ l g (λ v rs h y o e' a'. let b = back_got itself (number 2) d (e + 24) (count_stands f.bytes d h o.within e').1 i k in made_no v f.bytes d (full _ _ (rw b.0 at t)))

      module _ {t : Read} where
        pub element_given : {a : Read} {r : Outcome} {why : Refusal} → (f.rules ≡ 0 → ⊥) → e ≡ name_end d f.start → z ≡ seen itself (number 2) d (e + 24) → z ≡ Ok (q, c) → c < 64 → t ≡ told 0 none (given p id s) → a ≡ in_given t → a ≡ Err why → r ≡ Err why → MakesAs p last_of f (add_element id s) d r d
        unfolding edited
        element_given l g i k j gt ga ea er =
            let u = given_no (given p id s) gt ga ea in
            on_last p f d (add_element id s) (with_more p id s) (λ rs. refl) _ _ l g (λ v rs h y o e' a'. let b = back_got itself (number 2) d (e + 24) (count_stands f.bytes d h o.within e').1 i k in
            let v' = made_given v f.bytes d (not_full _ _ (rw b.0 at j) ∙ no_given _ u.is) in
            (er ∙ ap Err u.ends ∙ v'.0, v'.1))

        pub element_done : (r : Outcome) (d' : List ℕ) {a : Read} {v o : ℕ} → (f.rules ≡ 0 → ⊥) → e ≡ name_end d f.start → z ≡ seen itself (number 2) d (e + 24) → z ≡ Ok (q, c) → c < 64 → Bytes s → t ≡ told 0 none (given p id s) → a ≡ in_given t → a ≡ Ok (o, v) → Grows f.bytes f.rules e c id s d r d' → MakesAs p last_of f (add_element id s) d r d'
        unfolding Grows later_bytes edited
        element_done r d' l g i k j bs gt ga ea w' =
            let u = told_got 0 none (given p id s) gt (given_ok t ga ea) in
            on_last p f d (add_element id s) (with_more p id s) (λ rs. refl) r d' l g (λ v rs h y o e' a'.
            let b = back_got itself (number 2) d (e + 24) (count_stands f.bytes d h o.within e').1 i k in
            let y' = later_written p Studio c id s u.x u.n (omega (arith, b.0, (rule_fits p (f.rules - 1) h.r h.fits).0)) bs u.is in
            rw (not_full _ _ (rw b.0 at j), at_given_lem _ u.is) (w' p v rs (f.rules - 1) u.x h y o.within o.many e' b.0 y'))

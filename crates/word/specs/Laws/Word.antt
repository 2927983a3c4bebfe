-- A word added to the last list: its bytes behind the deck; Data Size and the number of words written over.
use Rattle.std.specs.Prelude.{ℕ, ◌+◌, ◌-◌, ◌≤◌, ◌<◌, ◌≡◌, true, false, Ok, Err}
use Rattle.std.proofs.Common.{arith, ◌∙◌, take-append-drop, length-take-le}
use Rattle.std.proofs.Math.Path.{refl, sym, ap}
use mathlib.Core.List.{List, [], ◌∷◌, ◌++◌, append_assoc, append-nil}
use Rattle.std.proofs.Math.ListN.{length, take, drop, length-append}
use Rattle.format.specs.declared.Fault.{Fault}
use Rattle.format.specs.Answers.{Outcome}
use Rattle.format.specs.Laws.Answers.{Read}
use Rattle.format.specs.declared.Refusal.{Refusal}
use Rattle.format.specs.declared.Refusal.TheVariants.{At}
use Rattle.format.specs.Format.{Bytes}
use Rattle.format.specs.ReadWrite.{spelt, each_write}
use Rattle.format.specs.Laws.ReadWrite.{length_spelt, length_before, each_append}
use Rattle.format.specs.Laws.Back.{Where}
use Rattle.text.specs.Laws.Written.{word_written}
use Rattle.text.specs.Text.{string, word, Text, unit}
use Rattle.kind.specs.declared.Product.{Product}
use Rattle.kind.specs.declared.Product.TheVariants.{Studio}
use Rattle.kind.specs.declared.Kind.TheVariants as Kind
use Rattle.kind.specs.Kinds.{kinds, row_in}
use Rattle.element.specs.Data.{words}
use Rattle.element.specs.Element.{Element}
use Rattle.rule.specs.Rule.{Rule, rule}
use Rattle.rule.specs.Places.{enabled_at}
use Rattle.rule.specs.Laws.Rule.{rule_fits}
use Rattle.rule.specs.Laws.Parts.{kept, front, back, head_bytes, inner, size_of}
use Rattle.deck.specs.Written.{written, start_of}
use Rattle.deck.specs.Laws.Written.{before}
use Rattle.buffer.specs.Laid.{put_in}
use Rattle.buffer.specs.Laws.Laid.{put_both}
use Rattle.buffer.specs.Laws.Holds.{Holds, holds_put, holds_behind}
use Rattle.locate.specs.Laws.Located.{last_of}
use Rattle.spot.specs.declared.Site.{Site}
use Rattle.steps.specs.Laws.Steps.{Here, name_end}
use Rattle.given.specs.Given.{is_text, text_of}
use Rattle.plan.specs.Edit.{Plan, become, add_word, edited, holding, at_list, unless_full, if_text}
use Rattle.plan.specs.Laws.Found.{MakesAs, Does}
use Rattle.plan.specs.Laws.Last.{rules_none, among, as_many, on_none, on_last}
use Rattle.room.specs.Room.{room_for}
use Rattle.room.specs.Laws.Room.{roomy}
use Rattle.plan.specs.Laws.Makes.{here_in, written_here, if_text_lem, no_text, full, not_full, made_no, made_out, made_in}
use Rattle.parts.specs.Laws.Text.{text_bytes, text_size, text_size_lem, text_is}
use Rattle.add_element.specs.Laws.Element.{last_is, front_ends, size_ends, inner_more}
use Rattle.list.specs.Laws.List.{last_list, leading, list_written, EndsInList, ends_in_list, list_none}

-- 4 zero bytes and a String
unfoldable pub word_bytes : List ℕ → List ℕ
word_bytes s = spelt 4 0 ++ text_bytes s

word_long : (s : List ℕ) → length (word_bytes s) ≡ 4 + length (text_bytes s)
unfolding word_bytes
word_long s = omega (arith, length_before 4 0 (text_bytes s))

word_is : (s : List ℕ) → text_bytes s ≡ string.write (text_of s) → word.write (text_of s) ≡ word_bytes s
unfolding word_bytes
word_is s e = word_written unit (text_of s) ∙ rw (← e)

word_put : (d : List ℕ) (at : ℕ) (s : List ℕ) {y z : List ℕ} → y ≡ put_in d at (spelt 4 0) → z ≡ put_in y (at + 4) (text_bytes s) → at + 4 + length (text_bytes s) ≤ length d → z ≡ put_in d at (word_bytes s)
unfolding word_bytes
word_put d at s e f h = let l = length_spelt 4 0 in put_both d at (spelt 4 0) (text_bytes s) e f (omega arith) (omega arith)

-- ---- the elements, the last of which is a list
list_inner : (xs : List Element) (id : ℕ) (ws : List Text) → row_in kinds id ≡ Ok Kind.WordList → inner (xs ++ ((id, words ws) ∷ [])) ≡ (inner xs ++ leading (length xs) id) ++ (spelt 4 (length ws) ++ each_write (λ i. word) 0 ws)
list_inner xs id ws e = inner_more xs (id, words ws) ∙ ap (λ (t : List ℕ). inner xs ++ t) (list_written Studio (length xs) id ws e) ∙ sym (append_assoc (inner xs) (leading (length xs) id) (spelt 4 (length ws) ++ each_write (λ i. word) 0 ws))

words_more : (ws : List Text) (s : List ℕ) → text_bytes s ≡ string.write (text_of s) → each_write (λ i. word) 0 (ws ++ (text_of s ∷ [])) ≡ each_write (λ i. word) 0 ws ++ word_bytes s
unfolding each_write
words_more ws s e = each_append (λ i. word) 0 ws (text_of s ∷ []) ∙ rw (append-nil, word_is s e)

-- the back of the rule, before and after
module _ (k : ℕ) (els : List Element) (e : ℕ) {c t : ℕ} (o : EndsInList k e els c t) (l : 0 < length els) where
  init_long : length (take (length els - 1) els) ≡ length els - 1
  init_long = length-take-le (length els - 1) els (omega arith)

  elements_are : els ≡ take (length els - 1) els ++ ((o.id, words o.ws) ∷ [])
  elements_are = sym (take-append-drop (length els - 1) els) ∙ ap (λ (z : List Element). take (length els - 1) els ++ z) o.is

  -- the elements up to the number of words
  abbrev up_to : List ℕ
  up_to = inner (take (length els - 1) els) ++ leading (length els - 1) o.id

  inner_is : inner els ≡ up_to ++ (spelt 4 c ++ each_write (λ i. word) 0 o.ws)
  inner_is =
      let i = list_inner (take (length els - 1) els) o.id o.ws o.row in
      ap inner elements_are ∙ (rw (init_long, ← o.many) at i)

  inner_longer : (s : List ℕ) → text_bytes s ≡ string.write (text_of s) → inner (take (length els - 1) els ++ ((o.id, words (o.ws ++ (text_of s ∷ []))) ∷ [])) ≡ up_to ++ (spelt 4 (c + 1) ++ (each_write (λ i. word) 0 o.ws ++ word_bytes s))
  inner_longer s b =
      let i = list_inner (take (length els - 1) els) o.id (o.ws ++ (text_of s ∷ [])) o.row in
      let m : length (o.ws ++ (text_of s ∷ [])) ≡ c + 1 = length-append o.ws (text_of s ∷ []) ∙ ap (λ (v : ℕ). v + 1) (sym o.many) in
      rw (init_long, words_more o.ws s b, m) at i

  -- one more word
  abbrev longer : List ℕ → List Element
  longer s = take (length els - 1) els ++ ((o.id, words (o.ws ++ (text_of s ∷ []))) ∷ [])

  longer_many : (s : List ℕ) → length (longer s) ≡ length els
  longer_many s = length-append (take (length els - 1) els) ((o.id, words (o.ws ++ (text_of s ∷ []))) ∷ []) ∙ omega (arith, init_long)

  -- what is behind the number of words
  abbrev tail : List ℕ → List ℕ
  tail s = each_write (λ i. word) 0 o.ws ++ word_bytes s

  tail_long : (s : List ℕ) (v : ℕ) → length (up_to ++ (spelt 4 v ++ tail s)) ≡ length (inner els) + (4 + length (text_bytes s))
  tail_long s v =
      let W = each_write (λ i. word) 0 o.ws in
      omega (arith, length-append up_to (spelt 4 v ++ tail s), length_before 4 v (tail s), length-append W (word_bytes s), word_long s, ap length inner_is, length-append up_to (spelt 4 c ++ W), length_before 4 c W)

  back_longer : (n : ℕ) (s : List ℕ) → text_bytes s ≡ string.write (text_of s) → e + 24 + size_of k els ≡ n
      → back k (longer s) ≡ spelt 4 (n + 4 + length (text_bytes s) - (e + 24)) ++ (spelt 2 (length els) ++ (head_bytes k ++ (up_to ++ (spelt 4 (c + 1) ++ tail s))))
  unfolding back size_of
  back_longer n s b g =
      let z : 2 + (length (head_bytes k) + length (up_to ++ (spelt 4 (c + 1) ++ tail s))) ≡ n + 4 + length (text_bytes s) - (e + 24) = omega (arith, tail_long s (c + 1)) in
      rw (inner_longer s b, z, longer_many s)

-- ---- the deck with the word

-- whatever sound deck is in the first n bytes, its last rule having a name that ends at e and for last element a list of c words, whose number stands at t: the word is added
unfoldable pub Lengthens : ℕ → ℕ → ℕ → ℕ → ℕ → List ℕ → List ℕ → Outcome → List ℕ → Type 0
Lengthens n m e t c s d r d' =
    (p : Product) (v : ℕ) (rs : List Rule) (k : ℕ) (h : Here p v (take n d) rs k) (o : EndsInList k e h.r.elements c t) → h.later ≡ [] → n ≤ length d → m ≡ length rs
    → e ≡ enabled_at (start_of v rs k) h.r → text_bytes s ≡ string.write (text_of s)
    → Does v n (become (take k rs ++ (holding (take (length h.r.elements - 1) h.r.elements ++ ((o.id, words (o.ws ++ (text_of s ∷ []))) ∷ [])) h.r ∷ []))) d r d'

module _ (n m e t c : ℕ) (s d : List ℕ) where
  module _ {p : Product} {v : ℕ} {rs : List Rule} {k : ℕ} (h : Here p v (take n d) rs k) (o : EndsInList k e h.r.elements c t) (z : h.later ≡ []) (w : n ≤ length d) (g : e ≡ enabled_at (start_of v rs k) h.r) (l : 0 < length h.r.elements) where
    -- its bytes, Data Size and the number of words being S and C
    abbrev bytes_with : ℕ → ℕ → List ℕ
    bytes_with S C = before v rs k ++ (front h.r ++ (spelt 4 S ++ (spelt 2 (length h.r.elements) ++ (head_bytes k ++ (up_to k h.r.elements e o l ++ (spelt 4 C ++ tail k h.r.elements e o l s))))))

    longer_written : (b : text_bytes s ≡ string.write (text_of s)) → written v (take k rs ++ (holding (longer k h.r.elements e o l s) h.r ∷ [])) ≡ bytes_with (n + 4 + length (text_bytes s) - (e + 24)) (c + 1)
    unfolding front kept
    longer_written b =
        let f' : drop k rs ≡ h.r ∷ [] = h.from ∙ rw z in
        written_here v rs [] k h.r (holding (longer k h.r.elements e o l s) h.r) f' (among h) (λ z. absurd (omega arith))
        ∙ rw (rules_none, append-nil, back_longer k h.r.elements e o l n s b (size_ends n d h z w g))

    bytes_long : (S C : ℕ) → length (bytes_with S C) ≡ n + 4 + length (text_bytes s)
    unfolding size_of
    bytes_long S C =
        let B = before v rs k in
        let F = front h.r in
        let els = h.r.elements in
        let I = up_to k els e o l ++ (spelt 4 C ++ tail k els e o l s) in
        omega (arith, length-append B (F ++ (spelt 4 S ++ (spelt 2 (length els) ++ (head_bytes k ++ I)))), length-append F (spelt 4 S ++ (spelt 2 (length els) ++ (head_bytes k ++ I))), length_before 4 S (spelt 2 (length els) ++ (head_bytes k ++ I)), length_before 2 (length els) (head_bytes k ++ I), length-append (head_bytes k) I, length-append B F, tail_long k els e o l s C, front_ends n d h z w g, size_ends n d h z w g)

    longer_holds : {y₁ y₂ y₃ y₄ : List ℕ} (S C : ℕ) → n + 4 + length (text_bytes s) ≤ length d → y₁ ≡ put_in d n (spelt 4 0) → y₂ ≡ put_in y₁ (n + 4) (text_bytes s) → y₃ ≡ put_in y₂ (e + 20) (spelt 4 S) → y₄ ≡ put_in y₃ t (spelt 4 C) → Holds y₄ (bytes_with S C) (n + length (word_bytes s)) d
    unfolding back
    longer_holds {y₁} {y₂} {y₃} {y₄} S C m e₁ e₂ e₃ e₄ =
        let els = h.r.elements in
        let P = before v rs k ++ front h.r in
        let E = word_bytes s in
        let lE = word_long s in
        let e₂' : y₂ ≡ put_in d n E = word_put d n s e₁ e₂ m in
        let U = up_to k els e o l in
        let W = each_write (λ i. word) 0 o.ws in
        let M = spelt 2 (length els) ++ (head_bytes k ++ U) in
        let i : take n d ++ E ≡ P ++ (spelt 4 (size_of k els) ++ (M ++ (spelt 4 c ++ (W ++ E)))) = rw (last_is n d h z w, inner_is k els e o l) (simp append_assoc) in
        let h₂ = holds_put P (spelt 4 (size_of k els)) (M ++ (spelt 4 c ++ (W ++ E))) (spelt 4 S) (holds_behind d n E (omega arith) e₂') i (front_ends n d h z w g) (length_spelt 4 (size_of k els) ∙ sym (length_spelt 4 S)) e₃ in
        let j : P ++ (spelt 4 S ++ (M ++ (spelt 4 c ++ (W ++ E)))) ≡ (P ++ (spelt 4 S ++ M)) ++ (spelt 4 c ++ (W ++ E)) = simp append_assoc in
        let v : length (P ++ (spelt 4 S ++ M)) ≡ t = omega (arith, length-append P (spelt 4 S ++ M), length_before 4 S M, length_before 2 (length els) (head_bytes k ++ U), length-append (head_bytes k) U, front_ends n d h z w g, o.place) in
        let h₃ = holds_put (P ++ (spelt 4 S ++ M)) (spelt 4 c) (W ++ E) (spelt 4 C) h₂ j v (length_spelt 4 c ∙ sym (length_spelt 4 C)) e₄ in
        let q : (P ++ (spelt 4 S ++ M)) ++ (spelt 4 C ++ (W ++ E)) ≡ bytes_with S C = simp append_assoc in
        rw q at h₃

  some : {p : Product} {v : ℕ} {rs : List Rule} {k : ℕ} (h : Here p v (take n d) rs k) → 0 < length h.r.elements
  some {p} {v} {rs} {k} h = omega (arith, (rule_fits p k h.r h.fits).0)

  -- never, of a sound deck
  pub lengthen_short : (size : ℕ) (r : Outcome) (d' : List ℕ) → n + 4 + size < e + 24 → Lengthens n m e t c s d r d'
  unfolding Lengthens
  lengthen_short size r d' u p v rs k h o z w m g b = absurd (omega (arith, size_ends n d h z w g))

  -- size is what a String of the word takes; r is what 18, 19 and 20 were judged as
  module _ {size : ℕ} {r : Outcome} where
    pub lengthen_out : {x : Outcome} {why : Refusal} → is_text s ≡ true → size ≡ text_size s → r ≡ room_for m (n + 4 + size) (length d) → r ≡ Err why → x ≡ Err why → Lengthens n m e t c s d x d
    unfolding Lengthens
    lengthen_out it es j i er p v rs k h o z w f g b =
        let l = bytes_long h o z w g (some h) (n + 4 + length (text_bytes s) - (e + 24)) (c + 1) in
        let u : n + 4 + size ≡ n + 4 + length (text_bytes s) = ap (λ (k : ℕ). n + 4 + k) (es ∙ text_size_lem s it) in
        made_out v n d refl j i er (f ∙ sym (as_many h _ z)) (u ∙ sym (ap length (longer_written h o z w g (some h) b) ∙ l))

    pub lengthen_done : {y₁ y₂ y₃ y₄ : List ℕ} {u : ℕ} → is_text s ≡ true → size ≡ text_size s → r ≡ room_for m (n + 4 + size) (length d) → r ≡ Ok u → y₁ ≡ put_in d n (spelt 4 0) → y₂ ≡ put_in y₁ (n + 4) (text_bytes s) → y₃ ≡ put_in y₂ (e + 20) (spelt 4 (n + 4 + size - (e + 24))) → y₄ ≡ put_in y₃ t (spelt 4 (c + 1))
        → Lengthens n m e t c s d r y₄
    unfolding Lengthens
    lengthen_done {y₃ = y₃} it es j i e₁ e₂ e₃ e₄ p v rs k h o z w f g b =
        let l = bytes_long h o z w g (some h) (n + 4 + length (text_bytes s) - (e + 24)) (c + 1) in
        let ts = es ∙ text_size_lem s it in
        let u = (roomy m (n + 4 + size) (length d) j i).inside in
        made_in v n d j i (longer_holds h o z w g (some h) (n + 4 + length (text_bytes s) - (e + 24)) (c + 1) (omega arith) e₁ e₂ (rw ts at e₃) e₄) refl (sym (longer_written h o z w g (some h) b))
        (omega arith) (omega (arith, word_long s)) (f ∙ sym (as_many h _ z))

-- ---- what is judged before

at_words : {k e : ℕ} {els : List Element} {c t : ℕ} (o : EndsInList k e els c t) (g : ℕ → List Text → Plan (List Rule)) → at_list (drop (length els - 1) els) g ≡ g o.id o.ws
unfolding at_list
at_words o g = rw o.is

-- the last rule with a word more in the list that is its last element
abbrev with_word : List ℕ → List Rule → ℕ → Rule → Plan (List Rule)
with_word s rs k r = at_list (drop (length r.elements - 1) r.elements) λ id ws. unless_full (length ws)
    (if_text s (become (take k rs ++ (holding (take (length r.elements - 1) r.elements ++ ((id, words (ws ++ (text_of s ∷ []))) ∷ [])) r ∷ []))))

module _ (p : Product) (f : Site) (s d : List ℕ) where
  pub word_none : f.rules ≡ 0 → MakesAs p last_of f (add_word s) d (Err (At Fault.Last 0)) d
  unfolding edited
  word_none e = on_none p f d (add_word s) (with_word s) (λ rs. refl) e

  -- y is what was told of the list
  module _ {e : ℕ} {y : Read} (l : f.rules ≡ 0 → ⊥) (g : e ≡ name_end d f.start) (li : Where (rule p (f.rules - 1)) d f.start (last_list p (f.rules - 1) f.start) y) where
    last_told : {v : ℕ} {rs : List Rule} (h : Here p v (take f.bytes d) rs (f.rules - 1)) → f.start ≡ start_of v rs (f.rules - 1) → y ≡ last_list p (f.rules - 1) (start_of v rs (f.rules - 1)) h.r
    unfolding Where
    last_told h i = (rw i at li) h.r (here_in f.bytes d h)

    pub word_no_list : {r : Outcome} {why : Refusal} → y ≡ Err why → r ≡ Err why → MakesAs p last_of f (add_word s) d r d
    unfolding edited
    word_no_list k er = on_last p f d (add_word s) (with_word s) (λ rs. refl) _ _ l g (λ v rs h z w e' a'. let o = list_none _ _ _ (sym (last_told h a') ∙ k) _ in let x = made_no v f.bytes d o.1 in (er ∙ ap Err o.0 ∙ x.0, x.1))

    module _ {c t : ℕ} (k : y ≡ Ok (t, c)) where
      is_listed : {v : ℕ} {rs : List Rule} (h : Here p v (take f.bytes d) rs (f.rules - 1)) → e ≡ enabled_at (start_of v rs (f.rules - 1)) h.r → f.start ≡ start_of v rs (f.rules - 1) → EndsInList (f.rules - 1) e h.r.elements c t
      is_listed {v} {rs} h e' a' = ends_in_list p d (start_of v rs (f.rules - 1)) (f.rules - 1) e h.r (here_in f.bytes d h) e' (sym (last_told h a') ∙ k)

      pub word_full : 64 ≤ c → MakesAs p last_of f (add_word s) d (Err (At Fault.Full 0)) d
      unfolding edited
      word_full u = on_last p f d (add_word s) (with_word s) (λ rs. refl) _ _ l g (λ v rs h z w e' a'. let o = is_listed h e' a' in made_no v f.bytes d (at_words o _ ∙ full _ _ (rw o.many at u)))

      pub word_text : c < 64 → is_text s ≡ false → MakesAs p last_of f (add_word s) d (Err (At Fault.Text 0)) d
      unfolding edited
      word_text u b = on_last p f d (add_word s) (with_word s) (λ rs. refl) _ _ l g (λ v rs h z w e' a'. let o = is_listed h e' a' in made_no v f.bytes d (at_words o _ ∙ not_full _ _ (rw o.many at u) ∙ no_text s _ b))

      pub word_done : (r : Outcome) (d' : List ℕ) → c < 64 → Bytes s → is_text s ≡ true → Lengthens f.bytes f.rules e t c s d r d' → MakesAs p last_of f (add_word s) d r d'
      unfolding Lengthens edited
      word_done r d' u bs b x = on_last p f d (add_word s) (with_word s) (λ rs. refl) r d' l g (λ v rs h z w e' a'.
          let o = is_listed h e' a' in
          rw (at_words o _, not_full _ _ (rw o.many at u), if_text_lem s _ b) (x p v rs (f.rules - 1) h o z w.within w.many e' (text_is s bs b)))

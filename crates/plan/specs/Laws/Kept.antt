-- An edit of rules that fit makes rules that fit.
use Rattle.std.specs.Prelude.{ℕ, ◌+◌, ◌-◌, ◌≤◌, ◌<◌, ◌≡◌, refl, Bool, true, false, leb, ltb, length, take, drop}
use Rattle.std.proofs.Common.{arith, ap, length-append, take-append-drop, ltb-true}
use mathlib.Core.List.{List, [], ◌∷◌, ◌++◌}
use Rattle.format.specs.declared.Fault.{Fault}
use Rattle.format.specs.Format.{Answer, got, refused, Format, pick}
use Rattle.format.specs.ReadWrite.{AllFit}
use Rattle.format.specs.Laws.ReadWrite.{all_append, all_take, all_drop}
use Rattle.text.specs.Text.{string, word, Text}
use Rattle.kind.specs.declared.Product.{Product}
use Rattle.element.specs.Data.{plain, words, sizes, span}
use Rattle.element.specs.Element.{Element, element}
use Rattle.rule.specs.declared.Fields.{Fields}
use Rattle.rule.specs.Rule.{Rule, placed}
use Rattle.rule.specs.Laws.Rule.{one_placed, fits_placed}
use Rattle.deck.specs.Deck.{Deck}
use Rattle.deck.specs.Laws.Deck.{read_writes_back}
use Rattle.deck.specs.Written.{deck_of, afresh}
use Rattle.room.specs.Laws.Room.{room_judged}
use Rattle.given.specs.Given.{is_text, text_of}
use Rattle.plan.specs.Edit.{Edit, switch, rename, remove, insert, add_rule, add_element, add_word, Plan, become, refuse, refuse_given, at_rule, at_copy, at_second, at_last, at_list, unless_full, if_text, at_given, edited, in_version, if_done, in_room, switched, renamed, holding, new_rule}
use Rattle.plan.specs.Handed.{HandedFields, Handed}
use Rattle.plan.specs.Laws.Fits.{Every, every_append, every_take, every_drop, Fits, fits_deck}
use Rattle.plan.specs.Laws.Given.{text_fits, word_fits, given_fits, word_more}

-- ---- a plan that is a list, taken apart
no_list : {A : Type 0} {B : Type 0} {c : Fault} {q : ℕ} {x : A} → refuse c q ≡ become x → B
no_list e = absurd (let z : ◌≡◌ {A = ℕ} 0 1 = cc in omega arith)

not_given : {A : Type 0} {B : Type 0} {c : Fault} {q : ℕ} {x : A} → refuse_given c q ≡ become x → B
not_given e = absurd (let z : ◌≡◌ {A = ℕ} 0 1 = cc in omega arith)

picked : (b : Bool) (q : Plan (List Rule)) (c : Fault) (o : ℕ) {rs : List Rule} → pick b q (refuse c o) ≡ become rs → (b ≡ true) × (q ≡ become rs)
unfolding pick
picked true q c o e = (refl, e)
picked false q c o e = no_list e

module _ {rs : List Rule} where
  of_text : (s : List ℕ) (q : Plan (List Rule)) → if_text s q ≡ become rs → (is_text s ≡ true) × (q ≡ become rs)
  unfolding if_text
  of_text s q e = picked (is_text s) q _ _ e

  of_full : (n : ℕ) (q : Plan (List Rule)) → unless_full n q ≡ become rs → (n < 64) × (q ≡ become rs)
  unfolding unless_full
  of_full n q e = let w = picked (ltb n 64) q _ _ e in (ltb-true n 64 w.0, w.1)

  of_given : (a : Answer Element) (f : Element → Plan (List Rule)) → at_given a f ≡ become rs → (x : Element) × ((n : ℕ) × ((a ≡ got x n) × (f x ≡ become rs)))
  unfolding at_given
  of_given (got x n) f e = (x, (n, (refl, e)))
  of_given (refused c q) f e = not_given e

  of_second : (a : Answer Deck) (f : List Rule → Plan (List Rule)) → at_second a f ≡ become rs → (k : Deck) × ((n : ℕ) × ((a ≡ got k n) × (f k.rules ≡ become rs)))
  unfolding at_second
  of_second (got k n) f e = (k, (n, (refl, e)))
  of_second (refused c q) f e = not_given e

  of_rule : (ys : List Rule) (f : Rule → List Rule → Plan (List Rule)) → at_rule ys f ≡ become rs → (r : Rule) × ((later : List Rule) × ((ys ≡ r ∷ later) × (f r later ≡ become rs)))
  unfolding at_rule
  of_rule [] f e = no_list e
  of_rule (r ∷ later) f e = (r, (later, (refl, e)))

  of_copy : (ys : List Rule) (f : Rule → Plan (List Rule)) → at_copy ys f ≡ become rs → (r : Rule) × ((later : List Rule) × ((ys ≡ r ∷ later) × (f r ≡ become rs)))
  unfolding at_copy
  of_copy [] f e = no_list e
  of_copy (r ∷ later) f e = (r, (later, (refl, e)))

  of_last : (ys : List Rule) (f : Rule → Plan (List Rule)) → at_last ys f ≡ become rs → (r : Rule) × ((later : List Rule) × ((ys ≡ r ∷ later) × (f r ≡ become rs)))
  unfolding at_last
  of_last [] f e = no_list e
  of_last (r ∷ later) f e = (r, (later, (refl, e)))

  of_list : (ys : List Element) (f : ℕ → List Text → Plan (List Rule)) → at_list ys f ≡ become rs → (id : ℕ) × ((ws : List Text) × ((later : List Element) × ((ys ≡ (id, words ws) ∷ later) × (f id ws ≡ become rs))))
  unfolding at_list
  of_list [] f e = no_list e
  of_list ((id, plain) ∷ later) f e = no_list e
  of_list ((id, words ws) ∷ later) f e = (id, (ws, (later, (refl, e))))
  of_list ((id, sizes a b) ∷ later) f e = no_list e
  of_list ((id, span a b) ∷ later) f e = no_list e

-- 18, 19 and 20 were judged, and the version stays
pub in_room_lem : (cap v : ℕ) (q : Plan (List Rule)) {k : Deck} → in_room cap (in_version v q) ≡ become k → (q ≡ become k.rules) × ((k.version ≡ v) × ((length k.rules ≤ 256) × ((length (afresh k) ≤ 60000) × (length (afresh k) ≤ cap))))
in_room_lem cap v (become xs) {k} e =
    room_judged (length xs) (length (afresh (deck_of v xs))) cap (λ o. if_done o (deck_of v xs) ≡ become k → (become xs ≡ become k.rules) × ((k.version ≡ v) × ((length k.rules ≤ 256) × ((length (afresh k) ≤ 60000) × (length (afresh k) ≤ cap)))))
    (λ w z. let u : deck_of v xs ≡ k = cc in rw (← u) (refl, (refl, (w.few, (w.short, w.inside))))) (λ l. no_list) (λ l. no_list) (λ l. no_list) e
in_room_lem cap v (refuse c q) e = no_list e
in_room_lem cap v (refuse_given c q) e = not_given e

-- ---- an element of a rule
all_rest : {A : Type 0} (a : ℕ → Format A) (i k : ℕ) (xs ys : List A) (x : A) → AllFit a i xs → drop k xs ≡ x ∷ ys → (a (i + k)).Fit x
unfolding AllFit
all_rest a i k xs ys x f e = let w : AllFit a (i + k) (x ∷ ys) = rw e at (all_drop a i k xs f) in w.0

-- ---- rules with one thing changed
module _ (p : Product) (r : Rule) (f : Fits p r) where
  switched_fits : (b : Bool) → Fits p (switched b r)
  switched_fits b = record { signature = f.signature; name = f.name; unknown2 = f.unknown2; unknown3 = f.unknown3; unknown4 = f.unknown4; unknown5 = f.unknown5; some = f.some; few = f.few; elements = f.elements }

  renamed_fits : (t : Text) → string.Fit t → Fits p (renamed t r)
  renamed_fits t g = record { signature = f.signature; name = g; unknown2 = f.unknown2; unknown3 = f.unknown3; unknown4 = f.unknown4; unknown5 = f.unknown5; some = f.some; few = f.few; elements = f.elements }

  holding_fits : (xs : List Element) → AllFit (placed p) 0 xs → 1 ≤ length xs → length xs ≤ 64 → Fits p (holding xs r)
  holding_fits xs g l m = record { signature = f.signature; name = f.name; unknown2 = f.unknown2; unknown3 = f.unknown3; unknown4 = f.unknown4; unknown5 = f.unknown5; some = l; few = m; elements = g }

  -- an element more; a word more in the last
  more_fits : (x : Element) → length r.elements < 64 → (element p).Fit x → Fits p (holding (r.elements ++ (x ∷ [])) r)
  more_fits x l g =
      let n : length (r.elements ++ (x ∷ [])) ≡ length r.elements + 1 = length-append r.elements (x ∷ []) in
      holding_fits (r.elements ++ (x ∷ [])) (all_append (placed p) 0 r.elements (x ∷ []) f.elements (one_placed p _ x g)) (omega (arith, n)) (omega (arith, n))

  wordy_fits : (k id : ℕ) (ws : List Text) (later : List Element) (w : Text) → drop k r.elements ≡ (id, words ws) ∷ later → length ws < 64 → word.Fit w
      → Fits p (holding (take k r.elements ++ ((id, words (ws ++ (w ∷ []))) ∷ [])) r)
  wordy_fits k id ws later w e l g =
      let x : Element = (id, words (ws ++ (w ∷ []))) in
      let o = all_rest (placed p) 0 k r.elements later (id, words ws) f.elements e in
      let y : (element p).Fit x = word_more p id ws w (fits_placed p (0 + k) (id, words ws) o) l g in
      let n : length (take k r.elements ++ (x ∷ [])) ≡ length (take k r.elements) + 1 = length-append (take k r.elements) (x ∷ []) in
      let m = length-append (take k r.elements) (drop k r.elements) in
      let t = ap length (take-append-drop k r.elements) in
      let v = ap length e in
      holding_fits (take k r.elements ++ (x ∷ [])) (all_append (placed p) 0 (take k r.elements) (x ∷ []) (all_take (placed p) 0 k r.elements f.elements) (one_placed p _ x y)) (omega (arith, n)) (omega (arith, n, m, t, v, f.few))

pub new_fits : (p : Product) (t : Text) (f : Fields) (x : Element) → HandedFields f → string.Fit t → (element p).Fit x → Fits p (new_rule t f x)
new_fits p t f x s g w = record { signature = s.0; name = g; unknown2 = s.1.0; unknown3 = s.1.1.0; unknown4 = s.1.1.1.0; unknown5 = s.1.1.1.1; some = omega arith; few = omega arith; elements = one_placed p 0 x w }

-- ---- every edit
became : {xs ys : List Rule} → become xs ≡ become ys → xs ≡ ys
became e = cc

module _ (p : Product) (rs : List Rule) (f : Every (Fits p) rs) where
  -- rule k and those behind it
  from_k : (k : ℕ) (r : Rule) (later : List Rule) → drop k rs ≡ r ∷ later → Fits p r × Every (Fits p) later
  unfolding Every
  from_k k r later e = rw e at (every_drop (Fits p) k rs f)

  -- rule k becomes others
  put_k : (k : ℕ) (ys : List Rule) → Every (Fits p) ys → Every (Fits p) (take k rs ++ ys)
  put_k k ys g = every_append (Fits p) (take k rs) ys (every_take (Fits p) k rs f) g

  pub edited_fits : (e : Edit) (xs : List Rule) → Handed e → edited p e rs ≡ become xs → Every (Fits p) xs
  unfolding edited Handed Every
  edited_fits (switch k on) xs h q =
      let o = of_rule _ _ q in
      let w = from_k k o.0 o.1.0 o.1.1.0 in
      rw (← became o.1.1.1) (put_k k _ (switched_fits p o.0 w.0 on, w.1))
  edited_fits (rename k name) xs h q =
      let o = of_rule _ _ q in
      let w = from_k k o.0 o.1.0 o.1.1.0 in
      let t = of_text name _ o.1.1.1 in
      rw (← became t.1) (put_k k _ (renamed_fits p o.0 w.0 (text_of name) (text_fits name h t.0), w.1))
  edited_fits (remove k) xs h q =
      let o = of_rule _ _ q in
      let w = from_k k o.0 o.1.0 o.1.1.0 in
      rw (← became o.1.1.1) (put_k k _ w.1)
  edited_fits (insert k second j) xs h q =
      let s = of_second _ _ q in
      let b = picked (leb k (length rs)) _ _ _ s.1.1.1 in
      let o = of_copy _ _ b.1 in
      let g = every_drop (Fits p) j s.0.rules (fits_deck p s.0 (read_writes_back p second s.0 s.1.0 h s.1.1.0).fit) in
      let w : Fits p o.0 × Every (Fits p) o.1.0 = rw o.1.1.0 at g in
      rw (← became o.1.1.1) (put_k k _ (w.0, every_drop (Fits p) k rs f))
  edited_fits (add_rule name g id s) xs h q =
      let t = of_text name _ q in
      let o = of_given _ _ t.1 in
      let w = given_fits p id s o.0 o.1.0 h.1.1.0 h.1.1.1 o.1.1.0 in
      rw (← became o.1.1.1) (every_append (Fits p) rs _ f (new_fits p (text_of name) g o.0 h.1.0 (text_fits name h.0 t.0) w, tt))
  edited_fits (add_element id s) xs h q =
      let l = of_last _ _ q in
      let w = from_k (length rs - 1) l.0 l.1.0 l.1.1.0 in
      let u = of_full _ _ l.1.1.1 in
      let o = of_given _ _ u.1 in
      let v = given_fits p id s o.0 o.1.0 h.0 h.1 o.1.1.0 in
      rw (← became o.1.1.1) (put_k (length rs - 1) _ (more_fits p l.0 w.0 o.0 u.0 v, tt))
  edited_fits (add_word word) xs h q =
      let l = of_last _ _ q in
      let w = from_k (length rs - 1) l.0 l.1.0 l.1.1.0 in
      let o = of_list _ _ l.1.1.1 in
      let u = of_full _ _ o.1.1.1.1 in
      let t = of_text word _ u.1 in
      rw (← became t.1) (put_k (length rs - 1) _ (wordy_fits p l.0 w.0 (length l.0.elements - 1) o.0 o.1.0 o.1.1.0 (text_of word) o.1.1.1.0 u.0 (word_fits word h t.0), tt))

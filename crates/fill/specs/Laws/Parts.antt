-- The parts of a rule that is known to stand at a place, and what the code reads and stores of it.
use Rattle.std.specs.Prelude.{ℕ, ◌+◌, ◌*◌, ◌<◌, ◌≤◌, ◌≡◌, refl, List, [], ◌∷◌, length, drop, Ok, Err}
use Rattle.std.proofs.Common.{arith, sym, ap, ◌∙◌}
use Rattle.format.specs.Laws.Answers.{Read}
use Rattle.text.specs.Laws.Answers.{StringRead}
use Rattle.format.specs.declared.Refusal.{Refusal}
use Rattle.format.specs.ReadWrite.{each_write}
use Rattle.format.specs.Combinators.{number}
use Rattle.format.specs.Laws.Seen.{seen, itself, none, ok_parts, unlike, got_at}
use Rattle.format.specs.Laws.Parts.{part, stands_part}
use Rattle.format.specs.Row.{total, start_in}
use Rattle.format.specs.Laws.Written.{Stands, Row}
use Rattle.format.specs.Laws.Back.{stands_room, back_got, back_no}
use Rattle.format.specs.Laws.Skip.{start_first, start_end, start_more, Nth, nth}
use Rattle.text.specs.Laws.Seen.{text_seen, text_unlike, text_back, text_told_lem}
use Rattle.text.specs.Laws.Written.{length_size, length_size_lem, string_fits}
use Rattle.kind.specs.declared.Product.{Product}
use Rattle.text.specs.declared.Form.{Form}
use Rattle.text.specs.Text.{string, length_of, unit}
use Rattle.element.specs.Element.{Element}
use Rattle.rule.specs.Rule.{Rule, rule, body, head, placed, elements_in}
use Rattle.rule.specs.Places.{rule_bytes, units_at, enabled_at, elements_at}
use Rattle.rule.specs.Laws.Places.{body_parts, behind_count, rule_parts}
use Rattle.fill.specs.Rows.{rule_row, rule_rows, element_row, element_rows, rule_element_rows, all_element_rows, rule_width, element_width}
use Rattle.buffer.specs.Laid.{put}
use Rattle.fill.specs.Laws.Fill.{rows_long, total_one, rows_next, rows_done, Filling, filling_start, filling_room, filling_go, filling_done, ElementsFill}

-- ---- the number of a rule's elements, its head, its elements

-- where they are known to stand at a place of the rule's part, which starts at base: r is the answer, t becomes t₁
abbrev pub BodyFill : Product → List ℕ → ℕ → ℕ → ℕ → ℕ → List ℕ → List ℕ → Read → Type 0
BodyFill p s at base i k t t₁ r =
    (xs : List Element) (u : List ℕ) → Stands (body p i) s at xs u → k + length (element_rows p i (base + (at + 2 + length ((head i).write tt))) xs) ≤ length t
    → (r ≡ Ok (at + length ((body p i).write xs), length xs)) × (t₁ ≡ put t k (element_rows p i (base + (at + 2 + length ((head i).write tt))) xs))

module _ (p : Product) (s : List ℕ) (at base i k : ℕ) (t t₁ : List ℕ) {c : Read} (e : c ≡ seen itself (number 2) s at) where
  pub body_cut : {why : Refusal} → c ≡ Err why → BodyFill p s at base i k t t₁ c
  body_cut h xs u b l = back_no itself (number 2) s at (body_parts p i s at xs u b).many.1 e h

  module _ {n m : ℕ} (h : c ≡ Ok (m, n)) {d : Read} (g : d ≡ seen none (head i) s m) where
    pub body_off : {why : Refusal} → d ≡ Err why → BodyFill p s at base i k t t₁ d
    body_off w xs u b l = back_no none (head i) s m (behind_count p i s at (body_parts p i s at xs u b) e h).1.1.1 g w

    pub body_go : {v q : ℕ} {r : Read} → d ≡ Ok (q, v) → ElementsFill p s q base i n k t t₁ r → BodyFill p s at base i k t t₁ r
    body_go {q = q} {r = r} w f xs u b l =
        let y = body_parts p i s at xs u b in
        let z = behind_count p i s at y e h in
        let o : q ≡ at + 2 + length ((head i).write tt) = (back_got none (head i) s m z.1.1.1 g w).1 ∙ ap (λ (x : ℕ). x + length ((head i).write tt)) z.1.0 in
        let a : ElementsFill p s (at + 2 + length ((head i).write tt)) base i (length xs) k t t₁ r = rw (o, z.0) at f in
        let d = a xs u y.elements refl l in
        (d.0 ∙ got_at y.ends, d.1)

-- ---- a rule

-- where a rule is known to stand at the start of its part, which starts at base: r is the answer, and the tables t and e become t₁ and e₁
abbrev pub PartFill : Product → List ℕ → ℕ → ℕ → ℕ → List ℕ → List ℕ → List ℕ → List ℕ → Read → Type 0
PartFill p s base i k t t₁ e e₁ r =
    (x : Rule) (u : List ℕ) → Stands (rule p i) s 0 x u → rule_width * i + length (rule_row p i base x) ≤ length t
    → k + length (rule_element_rows p i base x) ≤ length e
    → (r ≡ Ok (rule_bytes p i x, elements_in x)) × ((t₁ ≡ put t (rule_width * i) (rule_row p i base x)) × (e₁ ≡ put e k (rule_element_rows p i base x)))

module _ (p : Product) (s : List ℕ) (base i k : ℕ) (t t₁ e e₁ : List ℕ) where
  module _ {c : StringRead} (g : c ≡ text_seen length_of string s 4) where
    pub rule_nameless : {r : Read} {why : Refusal} → c ≡ Err why → PartFill p s base i k t t₁ e e₁ r
    rule_nameless h x u b lt le = text_unlike (text_back length_of string s 4 (rule_parts p i s 0 x u b).named.1 g) h

    module _ {form : Form} {v m : ℕ} (h : c ≡ Ok (m, form, v)) {r : Read} (f : BodyFill p s (m + 24) base i k e e₁ r) where
      bodied : (x : Rule) (u : List ℕ) → Stands (rule p i) s 0 x u → k + length (rule_element_rows p i base x) ≤ length e
          → (r ≡ Ok (rule_bytes p i x, elements_in x)) × (e₁ ≡ put e k (rule_element_rows p i base x))
      bodied x u b le =
          let y = rule_parts p i s 0 x u b in
          let o : m ≡ enabled_at 0 x = (text_told_lem length_of string s 4 y.named.1 g h).0 in
          let w : m + 24 + length ((body p i).write x.elements) ≡ rule_bytes p i x = omega (arith, o, y.ends) in
          let v : base + (m + 24 + 2 + length ((head i).write tt)) ≡ elements_at p i base x = omega (arith, o, y.begins) in
          rw (w, v) at (f x.elements u (rw o y.bodied) (rw v le))

      pub rule_bare : {why : Refusal} → r ≡ Err why → PartFill p s base i k t t₁ e e₁ r
      rule_bare w x u b lt le = unlike (bodied x u b le).0 w

      pub rule_go : {z n q : ℕ} → z ≡ length_size form → r ≡ Ok (q, n)
          → (rule_width * i + rule_width ≤ length t → t₁ ≡ put t (rule_width * i) (base ∷ (base + q) ∷ (base + (4 + z)) ∷ n ∷ (base + m) ∷ [])) → PartFill p s base i k t t₁ e e₁ r
      rule_go {z} {n} {q} j w st x u b lt le =
          let y = rule_parts p i s 0 x u b in
          let d = bodied x u b le in
          let told = ok_parts (sym w ∙ d.0) in
          let ends : base + q ≡ base + rule_bytes p i x = ap (λ (m : ℕ). base + m) told.0 in
          let o = text_told_lem length_of string s 4 y.named.1 g h in
          let units : base + (4 + z) ≡ units_at base x = omega (arith, j, ap length_size o.1.0, length_size_lem (length_of x.name) (string_fits unit x.name y.named.1.fit).0) in
          let enabled : base + m ≡ enabled_at base x = omega (arith, o.0) in
          (d.0, (st lt ∙ rw (ends, units, told.1, enabled), d.1))

-- the same at a place of the deck
abbrev pub RuleFill : Product → List ℕ → ℕ → ℕ → ℕ → List ℕ → List ℕ → List ℕ → List ℕ → Read → Type 0
RuleFill p s at i k t t₁ e e₁ r =
    (x : Rule) (u : List ℕ) → Stands (rule p i) s at x u → rule_width * i + length (rule_row p i at x) ≤ length t
    → k + length (rule_element_rows p i at x) ≤ length e
    → (r ≡ Ok (at + rule_bytes p i x, elements_in x)) × ((t₁ ≡ put t (rule_width * i) (rule_row p i at x)) × (e₁ ≡ put e k (rule_element_rows p i at x)))

module _ (p : Product) (s : List ℕ) (at i k : ℕ) (t t₁ e e₁ : List ℕ) (r : Read) where
  pub rule_past : length s < at → RuleFill p s at i k t t₁ e e₁ r
  rule_past l x u b lt le = absurd (omega (arith, stands_room (rule p i) s at b, (rule_parts p i s at x u b).ends))

  module _ {d : Read} (f : PartFill p (part s at) at i k t t₁ e e₁ d) where
    pub rule_off : {why : Refusal} → d ≡ Err why → RuleFill p s at i k t t₁ e e₁ r
    rule_off h x u b lt le = unlike (f x u (stands_part (rule p i) s at b) lt le).0 h

    pub rule_in : {n o : ℕ} → d ≡ Ok (o, n) → r ≡ Ok (at + o, n) → RuleFill p s at i k t t₁ e e₁ r
    rule_in {n} {o} h w x u b lt le =
        let z = f x u (stands_part (rule p i) s at b) lt le in
        let told = ok_parts (sym h ∙ z.0) in
        (w ∙ rw (told.1, told.0), z.1)

-- ---- the rules of a deck, from the place where they start

abbrev pub RulesFill : Product → List ℕ → ℕ → ℕ → List ℕ → List ℕ → List ℕ → List ℕ → Read → Type 0
RulesFill p s base n t t₁ e e₁ r =
    length s ≤ 60000 → base ≤ length s → n ≤ 256 → (rs : List Rule) (u : List ℕ) → Row (rule p) s 0 base rs u → length rs ≡ n → length (rule_rows p 0 base rs) ≤ length t → length (all_element_rows p 0 base rs) ≤ length e
    → (r ≡ Ok (base + length (each_write (rule p) 0 rs), n)) × ((t₁ ≡ put t 0 (rule_rows p 0 base rs)) × (e₁ ≡ put e 0 (all_element_rows p 0 base rs)))

-- i of them are stored, the next stands at q, and the elements' table is full up to k
abbrev pub RulesTurn : Product → List ℕ → ℕ → ℕ → List ℕ → List ℕ → ℕ → ℕ → ℕ → List ℕ → List ℕ → Type 0
RulesTurn p s base n t e i q k t₁ e₁ =
    (rs : List Rule) (u : List ℕ) → Row (rule p) s 0 base rs u → length rs ≡ n → length (rule_rows p 0 base rs) ≤ length t → length (all_element_rows p 0 base rs) ≤ length e
    → (q ≡ start_in (rule p) base rs i)
    × (Filling (rule_rows p i q (drop i rs)) (put t 0 (rule_rows p 0 base rs)) (length t) t₁ (rule_width * i)
    × Filling (all_element_rows p i q (drop i rs)) (put e 0 (all_element_rows p 0 base rs)) (length e) e₁ k)

pub element_rows_long : (p : Product) (i at : ℕ) (xs : List Element) → length (element_rows p i at xs) ≡ element_width * length xs
element_rows_long p i at xs = rows_long (placed p) (element_row p i) element_width (λ x. 1) (λ j q x. refl) 0 _ xs ∙ ap (λ (m : ℕ). element_width * m) (total_one xs)

pub rule_rows_long : (p : Product) (at : ℕ) (rs : List Rule) → length (rule_rows p 0 at rs) ≡ rule_width * length rs
rule_rows_long p at rs = rows_long (rule p) (rule_row p) rule_width (λ x. 1) (λ i q x. refl) 0 at rs ∙ ap (λ (m : ℕ). rule_width * m) (total_one rs)

pub all_rows_long : (p : Product) (at : ℕ) (rs : List Rule) → length (all_element_rows p 0 at rs) ≡ element_width * total elements_in rs
all_rows_long p at rs = rows_long (rule p) (rule_element_rows p) element_width elements_in (λ i q x. element_rows_long p i (elements_at p i q x) x.elements) 0 at rs

module _ (p : Product) (s : List ℕ) (base n : ℕ) (t e : List ℕ) where
  pub rules_start : RulesTurn p s base n t e 0 base 0 t e
  rules_start rs u w m lt le = (start_first (rule p) base rs, (filling_start _ t 0 (omega arith), filling_start _ e 0 (omega arith)))

  module _ (i q k : ℕ) (t₁ e₁ : List ℕ) (f : RulesTurn p s base n t e i q k t₁ e₁) where
    pub rules_done : n ≤ i → RulesFill p s base n t t₁ e e₁ (Ok (q, n))
    rules_done l short far few rs u w m lt le =
        let b = f rs u w m lt le in
        (got_at (b.0 ∙ start_end (rule p) base i rs (omega arith)), (filling_done b.1.0 (rows_done (rule p) (rule_row p) i q rs (omega arith)), filling_done b.1.1 (rows_done (rule p) (rule_element_rows p) i q rs (omega arith))))

    module _ {r : Read} {t₂ e₂ : List ℕ} (l : i < n) (g : RuleFill p s q i k t₁ t₂ e₁ e₂ r) where
      -- what is known of the next rule
      one : (rs : List Rule) {whole all : List ℕ} {len many : ℕ} (x : Nth (rule p) s base i q rs)
          → Filling (rule_rows p i q (drop i rs)) whole len t₁ (rule_width * i) → Filling (all_element_rows p i q (drop i rs)) all many e₁ k
          → (r ≡ Ok (q + rule_bytes p i x.x, elements_in x.x)) × ((t₂ ≡ put t₁ (rule_width * i) (rule_row p i q x.x)) × (e₂ ≡ put e₁ k (rule_element_rows p i q x.x)))
      one rs x ft fe = g x.x x.tail x.stands (filling_room (rule_row p i q x.x) _ ft (rows_next (rule p) (rule_row p) i q rs x.whole)) (filling_room (rule_element_rows p i q x.x) _ fe (rows_next (rule p) (rule_element_rows p) i q rs x.whole))

      pub rules_stop : {why : Refusal} → r ≡ Err why → RulesFill p s base n t t₂ e e₂ r
      rules_stop h short far few rs u w m lt le =
          let b = f rs u w m lt le in
          unlike (one rs (nth (rule p) s base i q rs u b.0 w (omega arith)) b.1.0 b.1.1).0 h

      pub rules_go : {m o : ℕ} → r ≡ Ok (o, m) → RulesTurn p s base n t e (i + 1) o (k + element_width * m) t₂ e₂
      rules_go {m} {o} h rs u w z lt le =
          let b = f rs u w z lt le in
          let x = nth (rule p) s base i q rs u b.0 w (omega arith) in
          let d = one rs x b.1.0 b.1.1 in
          let told = ok_parts (sym h ∙ d.0) in
          let em : m ≡ elements_in x.x = told.1 in
          let eo : o ≡ q + rule_bytes p i x.x = told.0 in
          let y = element_rows_long p i (elements_at p i q x.x) x.x.elements in
          (omega (arith, eo, b.0, start_more (rule p) base i rs x.ys x.x x.whole), rw (eo, em) (filling_go (rule_row p i q x.x) _ b.1.0 (rows_next (rule p) (rule_row p) i q rs x.whole) d.1.0 (omega arith), filling_go (rule_element_rows p i q x.x) _ b.1.1 (rows_next (rule p) (rule_element_rows p) i q rs x.whole) d.1.1 (ap (λ (z : ℕ). k + z) (sym y))))

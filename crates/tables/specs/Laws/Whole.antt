-- The whole read: what the first pass tells of the second, and that the promise leaves one outcome.
use Rattle.std.specs.Prelude.{ℕ, ◌+◌, ◌*◌, ◌≤◌, Bool, List, [], Ok, Err, Some, None}
use Rattle.std.proofs.Common.{arith, sym, ◌∙◌, subst}
use Rattle.std.proofs.Math.Path.{◌≡◌, refl, ap}
use Rattle.std.proofs.Math.Bool.{true, false}
use Rattle.std.proofs.Math.ListN.{length}
use Rattle.std.proofs.Math.Dec.{leb}
use borrow.Author.Tests.{leb-true}
use Rattle.format.specs.declared.Fault.{Fault}
use Rattle.kind.specs.Answers.{Edition}
use Rattle.format.specs.Answers.{Outcome}
use Rattle.format.specs.Laws.Answers.{Read}
use Rattle.scan.specs.Answers.{Scan}
use Rattle.format.specs.declared.Refusal.{Refusal}
use Rattle.format.specs.declared.Refusal.TheVariants.{At, Given}
use Rattle.format.specs.Format.{Answer, got, refused, Bytes, pick}
use Rattle.format.specs.ReadWrite.{each_write}
use Rattle.format.specs.Row.{total}
use Rattle.format.specs.Laws.Seen.{unlike}
use Rattle.kind.specs.declared.Product.{Product}
use Rattle.kind.specs.Kinds.{edition_of}
use Rattle.rule.specs.Rule.{Rule, rule, elements_in}
use Rattle.scan.specs.Laws.Scan.{scan_parts}
use Rattle.deck.specs.Deck.{Deck, base_of, read_as, read_by, read_deck, scanned}
use Rattle.deck.specs.Laws.Deck.{read_writes_back, deck_small}
use Rattle.deck.specs.Laws.Written.{deck_row, written_as, written_long}
use Rattle.fill.specs.Rows.{rule_width, element_width, rule_rows, all_element_rows}
use Rattle.tables.specs.Tables.{in_tables, tabled, rules_left, elements_left, read_says, rules_after, elements_after}
use Rattle.buffer.specs.Laid.{put}
use Rattle.fill.specs.Laws.Parts.{RulesFill, rule_rows_long, all_rows_long}

-- what the first pass tells
record Tells (p : Product) (s : List ℕ) (b n m : ℕ) : Type 0 where
  deck : Deck
  ends : ℕ
  is : read_as p s ≡ got deck ends
  base : b ≡ base_of deck.version (length deck.rules)
  rules : n ≡ length deck.rules
  elements : m ≡ total elements_in deck.rules

-- what a read promises: answer r, and the tables t and e become t₁ and e₁
abbrev pub Promise : Edition → List ℕ → List ℕ → List ℕ → List ℕ → List ℕ → Outcome → Type 0
Promise d s t t₁ e e₁ r = (r ≡ read_says d (length t) (length e) s) × ((t₁ ≡ rules_after d s t e) × (e₁ ≡ elements_after d s t e))

-- two outcomes that the promise allows coincide
pub read_one : (d : Edition) (s t e : List ℕ) (t₁ e₁ t₂ e₂ : List ℕ) (r₁ r₂ : Outcome) → Promise d s t t₁ e e₁ r₁ → Promise d s t t₂ e e₂ r₂ → (r₁ ≡ r₂) × ((t₁ ≡ t₂) × (e₁ ≡ e₂))
read_one d s t e t₁ e₁ t₂ e₂ r₁ r₂ f g = (f.0 ∙ sym g.0, (f.1.0 ∙ sym g.1.0, f.1.1 ∙ sym g.1.1))

module _ (edition : ℕ) (s : List ℕ) {d : Edition} (f : d ≡ edition_of edition) where
  pub read_none : (t e : List ℕ) → d ≡ None → Promise (edition_of edition) s t t e e (Err (At Fault.Edition 0))
  read_none t e h = rw (← f, h) (refl, (refl, refl))

  -- c is what the first pass told
  module _ {p : Product} (h : d ≡ Some p) {c : Scan} (g : c ≡ scanned (read_deck edition s)) where
    scan_as : c ≡ scanned (read_as p s)
    unfolding read_deck read_by
    scan_as = g ∙ ap (λ (w : Edition). scanned (read_by w s)) (sym f ∙ h)

    -- n rules, which start at b, and m elements
    found : {v b n m : ℕ} → c ≡ Ok (v, b, n, m) → Tells p s b n m
    found {v} {b} {n} {m} i = go (read_as p s) refl (sym i ∙ scan_as)
      where
        go : (a : Answer Deck) → read_as p s ≡ a → ◌≡◌ {A = Scan} (Ok (v, b, n, m)) (scanned a) → Tells p s b n m
        go (got k o) w z = let i = scan_parts z in record { deck = k; ends = o; is = w; base = i.base; rules = i.rules; elements = i.elements }
        go (refused k q) w z = absurd (let x : ◌≡◌ {A = ℕ} 0 1 = cc in omega arith)

    read_small : {v b n m : ℕ} → c ≡ Ok (v, b, n, m) → Bytes s → (length s ≤ 60000) × ((b ≤ length s) × (n ≤ 256))
    read_small i bs =
        let a = found i in
        let k = a.deck in
        let w = read_writes_back p s k a.ends bs a.is in
        (w.short, (omega (arith, a.base, ap length (w.is ∙ written_as k.version k.rules p), written_long k.version k.rules), omega (arith, a.rules, deck_small p k w.fit)))

    module _ (t e : List ℕ) where
      -- by what was read
      answered_as : {a : Answer Deck} {t₁ e₁ : List ℕ} {r : Outcome} → read_as p s ≡ a
          → (r ≡ tabled (length t) (length e) a) × ((t₁ ≡ rules_left p (tabled (length t) (length e) a) a t) × (e₁ ≡ elements_left p (tabled (length t) (length e) a) a e))
          → Promise (edition_of edition) s t t₁ e e₁ r
      answered_as w o = rw (← f, h, w) o

      -- it was handed on
      pub read_refused : {why : Refusal} {r : Outcome} → c ≡ Err why → r ≡ Err why → Promise (edition_of edition) s t t e e r
      read_refused {why} i y = rw y (go (read_as p s) refl (sym i ∙ scan_as))
        where
          go : (a : Answer Deck) → read_as p s ≡ a → Err why ≡ scanned a → Promise (edition_of edition) s t t e e (Err why)
          go (got y m) w z = absurd (let x : ◌≡◌ {A = ℕ} 0 1 = cc in omega arith)
          go (refused k q) w z = let same : why ≡ At k q = cc in answered_as w (rw same (refl, (refl, refl)))

      module _ {v b n m : ℕ} (i : c ≡ Ok (v, b, n, m)) where
        a : Tells p s b n m
        a = found i

        -- o is whether there is room
        module _ {o : Outcome} (z : o ≡ in_tables n m (length t) (length e)) where
          answer : o ≡ tabled (length t) (length e) (got a.deck a.ends)
          answer = rw (← a.rules, ← a.elements) z

          -- where there is none
          pub read_full : {why : Refusal} {r : Outcome} → o ≡ Err why → r ≡ Err why → Promise (edition_of edition) s t t e e r
          read_full {why} w y = answered_as a.is (rw (← answer, w, y) (go why))
            where
              go : (x : Refusal) → ◌≡◌ {A = Outcome} (Err x) (Err x) × ((t ≡ rules_left p (Err x) (got a.deck a.ends) t) × (e ≡ elements_left p (Err x) (got a.deck a.ends) e))
              go (At k q) = (refl, (refl, refl))
              go (Given k q) = (refl, (refl, refl))

          -- where there is some
          module _ {u : ℕ} (done : o ≡ Ok u) where
            fits : (rule_width * n ≤ length t) × (element_width * m ≤ length e)
            unfolding in_tables pick
            fits = go (leb (rule_width * n) (length t)) (leb (element_width * m) (length e)) refl refl (sym done ∙ z)
              where
                go : (x y : Bool) → leb (rule_width * n) (length t) ≡ x → leb (element_width * m) (length e) ≡ y → Ok u ≡ pick x (pick y (Ok n) (Err (At Fault.Table 1))) (Err (At Fault.Table 0)) → (rule_width * n ≤ length t) × (element_width * m ≤ length e)
                go true true f g w = (leb-true _ _ f, leb-true _ _ g)
                go true false f g w = absurd (let x : ◌≡◌ {A = ℕ} 0 1 = cc in omega arith)
                go false y f g w = absurd (let x : ◌≡◌ {A = ℕ} 0 1 = cc in omega arith)

            -- r is what the second pass answers
            module _ (bs : Bytes s) {t₁ e₁ : List ℕ} {r : Read} (x : RulesFill p s b n t t₁ e e₁ r) where
              abbrev rs : List Rule
              rs = a.deck.rules

              abbrev base : ℕ
              base = base_of a.deck.version (length rs)

              all : (r ≡ Ok (base + length (each_write (rule p) 0 rs), n)) × ((t₁ ≡ put t 0 (rule_rows p 0 base rs)) × (e₁ ≡ put e 0 (all_element_rows p 0 base rs)))
              all =
                  let w = read_writes_back p s a.deck a.ends bs a.is in
                  let few = read_small i bs in
                  let y = subst (λ (z : ℕ). RulesFill p s z n t t₁ e e₁ r) a.base x in
                  y few.0 (omega (arith, few.1.0, a.base)) few.1.1 rs [] (deck_row p s a.deck w.fit w.is) (sym a.rules) (omega (arith, fits.0, rule_rows_long p base rs, a.rules)) (omega (arith, fits.1, all_rows_long p base rs, a.elements))

              -- it refuses nothing
              pub read_unlike : {why : Refusal} {y : Outcome} → r ≡ Err why → Promise (edition_of edition) s t t₁ e e₁ y
              read_unlike w = unlike all.0 w

              pub read_done : Promise (edition_of edition) s t t₁ e e₁ (Ok u)
              read_done = answered_as a.is (rw (← answer, done) (refl, all.1))

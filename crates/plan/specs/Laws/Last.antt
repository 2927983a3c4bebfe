-- The last rule of a deck, which elements and words are added to.
use Rattle.std.specs.Prelude.{ℕ, ◌+◌, ◌-◌, ◌<◌, ◌≡◌, refl, List, [], ◌∷◌, ◌++◌, take, drop, Err}
use Rattle.std.proofs.Common.{arith, sym, ◌∙◌, length-drop}
use Rattle.std.proofs.Math.Path.{ap}
use Rattle.std.proofs.Math.ListN.{length}
use Rattle.format.specs.declared.Fault.{Fault}
use Rattle.format.specs.Answers.{Outcome}
use Rattle.format.specs.Laws.Answers.{Read}
use Rattle.format.specs.declared.Refusal.{Refusal}
use Rattle.format.specs.declared.Refusal.TheVariants.{At}
use Rattle.format.specs.ReadWrite.{each_write}
use Rattle.kind.specs.declared.Product.{Product}
use Rattle.rule.specs.Rule.{Rule}
use Rattle.rule.specs.Places.{enabled_at}
use Rattle.deck.specs.Laws.Written.{rules}
use Rattle.deck.specs.Written.{start_of}
use Rattle.locate.specs.Laws.Located.{last_of}
use Rattle.spot.specs.declared.Site.{Site}
use Rattle.steps.specs.Laws.Steps.{Here, here, name_read, name_end}
use Rattle.plan.specs.Edit.{Edit, Plan, edited, at_last}
use Rattle.plan.specs.Laws.Found.{Sits, MakesAs, Does}
use Rattle.plan.specs.Laws.Makes.{name_ends, name_there, replaced_long, at_last_lem, no_last, made_no}

pub rules_none : (i : ℕ) → rules i [] ≡ []
unfolding rules each_write
rules_none i = refl

module _ {p : Product} {v : ℕ} {s : List ℕ} {rs : List Rule} {k : ℕ} (h : Here p v s rs k) where
  pub among : k < length rs
  among = omega (arith, length-drop k rs, ap length h.from)

  -- nothing is behind it
  pub last_rule : length rs ≡ k + 1 → h.later ≡ []
  last_rule e = go h.later h.from
    where
      go : (ys : List Rule) → drop k rs ≡ h.r ∷ ys → ys ≡ []
      go [] f = refl
      go (y ∷ ys) f = absurd (omega (arith, length-drop k rs, ap length f))

  -- as many rules where it becomes x
  pub as_many : (x : Rule) → h.later ≡ [] → length (take k rs ++ (x ∷ [])) ≡ length rs
  as_many x z = replaced_long rs [] k h.r x (h.from ∙ rw z)

-- an edit that makes of the last rule what F says
module _ (p : Product) (f : Site) (d : List ℕ) (e : Edit) (F : List Rule → ℕ → Rule → Plan (List Rule)) (q : (rs : List Rule) → edited p e rs ≡ at_last (drop (length rs - 1) rs) (F rs (length rs - 1))) where
  pub on_none : f.rules ≡ 0 → MakesAs p last_of f e d (Err (At Fault.Last 0)) d
  unfolding MakesAs
  on_none z v rs o = made_no v f.bytes d (q rs ∙ no_last rs _ (omega (arith, o.many)))

  -- whatever the last rule is
  pub on_last : {t : ℕ} (r : Outcome) (d' : List ℕ) → (f.rules ≡ 0 → ⊥) → t ≡ name_end d f.start
      → ((v : ℕ) (rs : List Rule) (h : Here p v (take f.bytes d) rs (f.rules - 1)) → h.later ≡ [] → Sits last_of f d p v rs → t ≡ enabled_at (start_of v rs (f.rules - 1)) h.r → f.start ≡ start_of v rs (f.rules - 1) → Does v f.bytes (F rs (f.rules - 1) h.r) d r d')
      → MakesAs p last_of f e d r d'
  unfolding MakesAs
  on_last {t} r d' l g w v rs o = go (here p v (take f.bytes d) rs (f.rules - 1) o.sound (omega (arith, o.many))) (ap (λ (i : ℕ). i - 1) (sym o.many))
    where
      go : Here p v (take f.bytes d) rs (f.rules - 1) → length rs - 1 ≡ f.rules - 1 → Does v f.bytes (edited p e rs) d r d'
      go h ek =
          let a' : f.start ≡ start_of v rs (f.rules - 1) = o.starts ∙ ap (start_of v rs) ek in
          let t' : t ≡ enabled_at (start_of v rs (f.rules - 1)) h.r = g ∙ ap (name_end d) a' ∙ name_ends f.bytes d h in
          rw (q rs, ek, at_last_lem rs (f.rules - 1) _ h.from) (w v rs h (last_rule h (omega (arith, o.many))) o t' a')

-- its name can be read
pub last_unnamed : (p : Product) (f : Site) (d : List ℕ) (e : Edit) (r : Outcome) (d' : List ℕ) {t : Read} {why : Refusal} → (f.rules ≡ 0 → ⊥) → t ≡ name_read d f.start → t ≡ Err why → MakesAs p last_of f e d r d'
unfolding MakesAs
last_unnamed p f d e r d' l g h v rs o = name_there f.bytes d (here p v (take f.bytes d) rs (length rs - 1) o.sound (omega (arith, o.many))) (g ∙ ap (name_read d) o.starts) h

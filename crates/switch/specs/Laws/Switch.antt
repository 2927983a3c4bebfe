-- A rule switched on or off: its Enabled is written over.
use Rattle.format.specs.declared.Refusal.TheVariants.{At}
use Rattle.std.specs.Prelude.{ℕ, ◌+◌, ◌≤◌, ◌<◌, ◌≡◌, Bool, List, ◌++◌, length, take, Ok, Err}
use Rattle.std.proofs.Common.{arith, sym, ap, ◌∙◌, append_assoc, length-append, length-take-le}
use Rattle.format.specs.declared.Fault.TheVariants as Fault
use Rattle.format.specs.ReadWrite.{spelt, bit}
use Rattle.format.specs.Laws.ReadWrite.{length_spelt, length_before}
use Rattle.text.specs.Text.{string}
use Rattle.kind.specs.declared.Product.{Product}
use Rattle.kind.specs.declared.Product.TheVariants.{Studio}
use Rattle.rule.specs.Rule.{Rule, rule}
use Rattle.rule.specs.Places.{enabled_at}
use Rattle.rule.specs.Laws.Parts.{front, front_long, kept, back, rule_long}
use Rattle.deck.specs.Laws.Written.{before, rules}
use Rattle.deck.specs.Written.{start_of}
use Rattle.buffer.specs.Laid.{put_in}
use Rattle.buffer.specs.Laws.Holds.{Holds, holds_start, holds_put}
use Rattle.spot.specs.declared.Site.{Site}
use Rattle.steps.specs.Laws.Steps.{Here, here, name_end}
use Rattle.plan.specs.Edit.{switch, edited, switched}
use Rattle.plan.specs.Laws.Found.{Makes, Does, sits_within}
use Rattle.plan.specs.Laws.Makes.{name_ends, replaced_long, written_here, at_rule_lem, no_rule, made_no, made_is}

-- Enabled is written over
switched_holds : (d : List ℕ) (n : ℕ) (on : Bool) (p : Product) (v : ℕ) (rs : List Rule) (k : ℕ) {e : ℕ} {y : List ℕ} (h : Here p v (take n d) rs k) → n ≤ length d → e ≡ enabled_at (start_of v rs k) h.r → y ≡ put_in d e (spelt 4 (bit on))
    → Holds y (before v rs k ++ (front (switched on h.r) ++ (back k h.r.elements ++ rules (k + 1) h.later))) n d
unfolding front kept
switched_holds d n on p v rs k {e} {y} h w g z =
    let r = h.r in
    let B = before v rs k in
    let P = B ++ (spelt 4 r.signature ++ string.write r.name) in
    let R = spelt 4 r.unknown2 ++ (spelt 4 r.unknown3 ++ (spelt 4 r.unknown4 ++ (spelt 4 r.unknown5 ++ (back k r.elements ++ rules (k + 1) h.later)))) in
    let i : take n d ≡ P ++ (spelt 4 (bit r.on) ++ R) = h.is ∙ simp append_assoc in
    let t : length P ≡ e = omega (arith, length-append B (spelt 4 r.signature ++ string.write r.name), length_before 4 r.signature (string.write r.name), h.starts, g) in
    let q : P ++ (spelt 4 (bit on) ++ R) ≡ B ++ (front (switched on r) ++ (back k r.elements ++ rules (k + 1) h.later)) = simp append_assoc in
    rw q at (holds_put P (spelt 4 (bit r.on)) R (spelt 4 (bit on)) (holds_start d n w) i t (length_spelt 4 (bit r.on) ∙ sym (length_spelt 4 (bit on))) z)

same_long : (n : ℕ) (d : List ℕ) (p : Product) (v : ℕ) (rs : List Rule) (k : ℕ) (on : Bool) (h : Here p v (take n d) rs k) → n ≤ length d
    → length (before v rs k ++ (front (switched on h.r) ++ (back k h.r.elements ++ rules (k + 1) h.later))) ≡ n
same_long n d p v rs k on h w =
    let B = before v rs k in
    let L = back k h.r.elements ++ rules (k + 1) h.later in
    omega (arith, length-append B (front (switched on h.r) ++ L), length-append (front (switched on h.r)) L, front_long (switched on h.r), front_long h.r, ap length h.is, length-append B (front h.r ++ L), length-append (front h.r) L, length-take-le n d w)

as_long : (k : ℕ) (on : Bool) (r : Rule) → length ((rule Studio k).write (switched on r)) ≡ length ((rule Studio k).write r)
as_long k on r = omega (arith, rule_long Studio k (switched on r), rule_long Studio k r)

module _ (edition k : ℕ) (f : Site) (on : Bool) (d : List ℕ) where
  pub switch_absent : f.rules ≤ k → Makes edition (λ rs. k) f (switch k on) d (Err (At Fault.Absent 0)) d
  unfolding Makes edited
  switch_absent l p v rs x o = made_no v f.bytes d (no_rule rs k _ (omega (arith, o.many)))

  pub switch_done : (e : ℕ) {y : List ℕ} → k < f.rules → e ≡ name_end d f.start → y ≡ put_in d e (spelt 4 (bit on)) → Makes edition (λ rs. k) f (switch k on) d (Ok f.bytes) y
  unfolding Makes edited
  switch_done e {y} l g z p v rs x o = go (here p v (take f.bytes d) rs k o.sound (omega (arith, o.many)))
    where
      go : Here p v (take f.bytes d) rs k → Does v f.bytes (edited p (switch k on) rs) d (Ok f.bytes) y
      go h =
          let e' : e ≡ enabled_at (start_of v rs k) h.r = rw o.starts at g ∙ name_ends f.bytes d h in
          let b = sits_within f d o in
          made_is v f.bytes d (switched_holds d f.bytes on p v rs k h o.within e' z) (at_rule_lem rs k _ h.from) (sym (written_here v rs h.later k h.r (switched on h.r) h.from (omega (arith, o.many)) (λ z. as_long k on h.r)))
          (same_long f.bytes d p v rs k on h o.within) (omega arith) (omega (arith, replaced_long rs h.later k h.r (switched on h.r) h.from, o.many, b.few)) b.short

-- Values that are known to stand at a place: what the code reads there.
use Rattle.std.specs.Prelude.{ℕ, ◌+◌, ◌-◌, ◌≤◌, ◌≡◌, List, drop, Ok, Err}
use Rattle.std.proofs.Common.{arith, sym, ap, ◌∙◌, length-append}
use Rattle.std.proofs.Math.ListN.{length, length-drop}
use Rattle.format.specs.declared.Fault.{Fault}
use Rattle.format.specs.Laws.Answers.{Read}
use Rattle.format.specs.declared.Refusal.{Refusal}
use Rattle.format.specs.declared.Refusal.TheVariants.{At}
use Rattle.format.specs.Format.{got, refused, end_of, Bytes, Format}
use Rattle.format.specs.Laws.Format.{bytes_drop}
use Rattle.format.specs.Laws.Seen.{seen, told_got, told_no, ok_parts, unlike}
use Rattle.format.specs.Laws.Written.{seen_back, Stands, Held}

module _ {A : Type 0} (g : A → ℕ) (a : Format A) (s : List ℕ) (at : ℕ) where
  -- it is seen
  pub stands_seen : {x : A} {u : List ℕ} → Stands a s at x u → seen g a s at ≡ Ok (at + length (a.write x), g x)
  stands_seen {x} {u} b = seen_back g a x s at u b.fit b.is

  pub back_got : {x : A} {u : List ℕ} {r : Read} {v m : ℕ} → Stands a s at x u → r ≡ seen g a s at → r ≡ Ok (m, v) → (v ≡ g x) × (m ≡ at + length (a.write x))
  back_got {x} {v = v} {m = m} b h k = let o : ◌≡◌ {A = Read} (Ok (m, v)) (Ok (at + length (a.write x), g x)) = sym k ∙ h ∙ stands_seen b in let w = ok_parts o in (w.1, w.0)

  pub back_no : {B : Type 0} {x : A} {u : List ℕ} {r : Read} {why : Refusal} → Stands a s at x u → r ≡ seen g a s at → r ≡ Err why → B
  back_no b h k = unlike (h ∙ stands_seen b) k

  -- what is seen fits, and ends, or is refused, within the list
  pub seen_fits : {r : Read} {v m : ℕ} → Bytes s → r ≡ seen g a s at → r ≡ Ok (m, v) → (x : A) × (a.Fit x × (v ≡ g x))
  unfolding seen
  seen_fits bs e k =
      let o = told_got at g (a.read (drop at s)) e k in
      (o.x, ((a.forth (drop at s) o.x o.n (bytes_drop at s bs) o.is).fit, o.tells))

  pub seen_ends : {r : Read} {v m : ℕ} → r ≡ seen g a s at → r ≡ Ok (m, v) → m ≤ at + (length s - at)
  unfolding seen end_of
  seen_ends e k =
      let o = told_got at g (a.read (drop at s)) e k in
      let i : end_of (got o.x o.n) ≤ length (drop at s) = rw o.is at (a.inside (drop at s)) in
      omega (arith, o.ends, i, length-drop at s)

  pub seen_stops : {r : Read} {c : Fault} {m : ℕ} → r ≡ seen g a s at → r ≡ Err (At c m) → m ≤ at + (length s - at)
  unfolding seen end_of
  seen_stops {c = c} e k =
      let o = told_no at g (a.read (drop at s)) e k in
      let i : end_of {A = A} (refused c o.o) ≤ length (drop at s) = rw o.is at (a.inside (drop at s)) in
      omega (arith, o.ends, i, length-drop at s)

-- it has room there
pub stands_room : {A : Type 0} (a : Format A) (s : List ℕ) (at : ℕ) {x : A} {u : List ℕ} → Stands a s at x u → length (a.write x) ≤ length s - at
stands_room a s at {x} {u} b = omega (arith, length-drop at s, ap length b.is, length-append (a.write x) u)

-- whatever value stands at a place, v is f of it
unfoldable pub Where : {A W : Type 0} → Format A → List ℕ → ℕ → (A → W) → W → Type 0
Where {A} a s at f v = (x : A) → Held a s at x → v ≡ f x

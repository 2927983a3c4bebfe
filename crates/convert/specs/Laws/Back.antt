-- Laws of ../Convert.antt. Document 02, W10: a conversion keeps the rules, "there and back gives the same bytes, each way"; "A reader of the
-- first release answers 5 to version 2".
use Prim.Native.Nat.{ℕ, ◌≤◌, max}
use Rattle.std.proofs.Common.{zero-mul, arith, ap₂, ◌∙◌, Ok, Some, None}
use Rattle.std.specs.Prelude.{◌≡◌, Bool, List, leb, eqb, length, take, drop}
use Rattle.std.proofs.Math.Path.{refl, sym, ap}
use Rattle.std.proofs.Math.Bool.{true, false}
use borrow.Author.Tests.{le-leb, leb-true, eq-eqb, ne_eqb, eqb-true}
use Rattle.format.specs.declared.Fault.{Fault}
use Rattle.kind.specs.Answers.{Edition}
use Rattle.format.specs.Answers.{Outcome}
use Rattle.format.specs.Format.{Answer, got, refused, pick, whole, Bytes}
use Rattle.format.specs.Laws.Format.{apart, went, mapped_got}
use Rattle.format.specs.ReadWrite.{pair_read}
use Rattle.format.specs.Combinators.{pair, via}
use Rattle.kind.specs.declared.Product.{Product}
use Rattle.kind.specs.Kinds.{edition_of}
use Rattle.rule.specs.Rule.{Rule}
use Rattle.deck.specs.Deck.{Deck, version, rule_list, deck, read_as}
use Rattle.deck.specs.Written.{deck_of, written, afresh}
use Rattle.deck.specs.Laws.Deck.{wide_none, base_is, deck_small, read_writes_back, written_reads_back}
use Rattle.deck.specs.Laws.Written.{written_as, written_long, base_least}
use Rattle.buffer.specs.Laid.{laid}
use Rattle.buffer.specs.Laws.Laid.{take_laid, drop_laid}
use Rattle.room.specs.Laws.Room.{room_is}
use Rattle.steps.specs.Laws.Steps.{sound_read}
use Rattle.plan.specs.Edit.{Plan, become, refuse, refuse_given, says, leaves}
use Rattle.plan.specs.Laws.Fits.{deck_fits, fits_deck, version_fits}
use Rattle.plan.specs.Laws.Kept.{in_room_lem}
use Rattle.convert.specs.Convert.{only_in, read_only, in_other, plan_other, other_plan, Converts, Converted}

-- ---- a reading of one version alone

-- what was chosen and is no refusal
picked : (b : Bool) (a : Answer Deck) (c : Fault) (q : ℕ) {n : ℕ} {k : Deck} → pick b a (refused c q) ≡ got k n → (b ≡ true) × (a ≡ got k n)
unfolding pick
picked true a c q e = (refl, e)
picked false a c q e = apart (sym e)

-- the version of a deck that was read is the one that stands in it
pub version_told : (p : Product) (s : List ℕ) {k : Deck} {n : ℕ} → read_as p s ≡ got k n → (length s ≤ 60000) × ((m : ℕ) × (version.read s ≡ got k.version m))
unfolding read_as whole deck via pair pair_read
version_told p s {k} {n} e =
    let l = picked (leb (length s) 60000) (whole (length s) ((deck p).read s)) _ _ e in
    let x = mapped_got _ (pair_read version (rule_list p) s) k n (all ((deck p).read s) l.1) in
    let y = went (version.read s) _ x.0 n x.1.0 in
    let z = mapped_got _ ((rule_list p y.x).read (drop y.n s)) x.0 y.j y.rest in
    let v : y.x ≡ k.version = sym (ap (λ (k : Deck). k.version) x.1.1 ∙ ap (λ (q : ℕ × List Rule). q.0) z.1.1) in
    (leb-true (length s) 60000 l.0, (y.n, y.first ∙ ap (λ (v : ℕ). got v y.n) v))
  where
    all : (a : Answer Deck) → whole (length s) a ≡ got k n → a ≡ got k n
    all (got x m) e = (picked (eqb m (length s)) (got x m) _ _ e).1
    all (refused c q) e = apart (sym e)

module _ (p : Product) (v : ℕ) (s : List ℕ) where
  -- another version is 5 at 3, whatever follows
  pub only_refuses : {u n : ℕ} → length s ≤ 60000 → version.read s ≡ got u n → (u ≡ v → ⊥) → read_only p v s ≡ refused Fault.Version 3
  unfolding read_only pick
  only_refuses {u} l e h = rw (le-leb (length s) 60000 l, e, ne_eqb u v h)

  -- where its own stands it answers what the reading of both does
  pub only_same : {u n : ℕ} → version.read s ≡ got u n → u ≡ v → read_only p v s ≡ read_as p s
  unfolding read_only read_as pick
  only_same {u} e h = rw (e, eq-eqb u v h) (twice (leb (length s) 60000))
    where
      twice : (b : Bool) → pick b (pick b (whole (length s) ((deck p).read s)) (refused Fault.Long 60000)) (refused Fault.Long 60000) ≡ pick b (whole (length s) ((deck p).read s)) (refused Fault.Long 60000)
      twice true = refl
      twice false = refl

  module _ {k : Deck} {n : ℕ} where
    -- so is a deck of another version
    pub only_other_deck : read_as p s ≡ got k n → (k.version ≡ v → ⊥) → read_only p v s ≡ refused Fault.Version 3
    only_other_deck e h = let t = version_told p s e in only_refuses t.0 t.1.1 h

    -- a deck of its own version is taken
    pub only_takes : read_as p s ≡ got k n → k.version ≡ v → read_only p v s ≡ got k n
    only_takes e h = let t = version_told p s e in only_same t.1.1 h ∙ e

    -- and it takes no other
    pub only_took : read_only p v s ≡ got k n → (read_as p s ≡ got k n) × (k.version ≡ v)
    unfolding read_only
    only_took e = go (version.read s) refl (picked (leb (length s) 60000) (only_in v (version.read s) (read_as p s)) _ _ e).1
      where
        go : (a : Answer ℕ) → version.read s ≡ a → only_in v a (read_as p s) ≡ got k n → (read_as p s ≡ got k n) × (k.version ≡ v)
        go (got u m) r e =
            let w = picked (eqb u v) (read_as p s) _ _ e in
            let i : got u m ≡ got k.version (version_told p s w.1).1.0 = sym r ∙ (version_told p s w.1).1.1 in
            let j : u ≡ k.version = cc i in
            (w.1, sym j ∙ eqb-true u v w.0)
        go (refused c q) r e = apart (sym (version_told p s e).1.1 ∙ r)

-- ---- a conversion that is done

-- a plan that was done
done : (q : Plan Deck) {m : ℕ} → Ok m ≡ says q → (k : Deck) × ((q ≡ become k) × (m ≡ length (afresh k)))
unfolding says
done (become k) e = (k, (refl, cc))
done (refuse c q) e = absurd (let z : ◌≡◌ {A = ℕ} 0 1 = cc in omega arith)
done (refuse_given c q) e = absurd (let z : ◌≡◌ {A = ℕ} 0 1 = cc in omega arith)

module _ (edition v u : ℕ) (s d : List ℕ) {m : ℕ} {d' : List ℕ} (c : Converts edition v u s d (Ok m) d') where
  -- the deck that was put
  put : (x : Deck) × ((other_plan edition v u (length d) s ≡ become x) × (m ≡ length (afresh x)))
  put = done (other_plan edition v u (length d) s) c.0

  put_there : d' ≡ laid (afresh put.0) m d
  unfolding leaves
  put_there =
      let x = put.0 in
      let n : max 0 (length (afresh x)) ≡ m = omega (arith, put.1.1) in
      c.1 ∙ ap (leaves 0 d) put.1.0 ∙ ap (λ (n : ℕ). laid (afresh x) n d) n

  -- bytes past it stay
  pub past_kept : drop m d' ≡ drop m d
  past_kept = ap (drop m) put_there ∙ drop_laid (afresh put.0) m d (omega (arith, put.1.1))

  -- the deck of the same rules
  pub converted : Bytes s → version.Fit u → Converted edition v u s m d'
  unfolding other_plan
  converted bs fu = by (edition_of edition) refl put.1.0
    where
      x : Deck
      x = put.0

      t : take m d' ≡ afresh x
      t = ap (take m) put_there ∙ take_laid (afresh x) m d (sym put.1.1)

      read : (p : Product) (a : Answer Deck) → edition_of edition ≡ Some p → read_only p v s ≡ a → in_other u (length d) a ≡ become x → Converted edition v u s m d'
      read p (got k n) ed r q =
          let o = only_took p v s r in
          let w = read_writes_back p s k n bs o.0 in
          let i = in_room_lem (length d) u (become k.rules) q in
          let rs : k.rules ≡ x.rules = cc in
          let f : (deck p).Fit x = deck_fits p x (rw i.1.0 fu) (rw rs at (fits_deck p k w.fit)) i.1.1.0 i.1.1.1.0 in
          let a = written_as x.version x.rules p in
          let b : read_as p (afresh x) ≡ got x (length (afresh x)) = rw a at (written_reads_back p x f (rw a i.1.1.1.0)) in
          let was : k ≡ deck_of v x.rules = ap₂ deck_of o.1 rs in
          let is : x ≡ deck_of u x.rules = ap (λ (v : ℕ). deck_of v x.rules) i.1.0 in
          record {
            product = p;
            rules = x.rules;
            known = ed;
            was = o.0 ∙ ap₂ got was w.ends;
            is = ap (read_as p) t ∙ b ∙ ap₂ got is (sym put.1.1);
          }
      read p (refused h o) ed r q = absurd (let z : ◌≡◌ {A = ℕ} 0 1 = cc in omega arith)

      by : (o : Edition) → edition_of edition ≡ o → plan_other o v u (length d) s ≡ become x → Converted edition v u s m d'
      by (Some p) ed q = read p (read_only p v s) ed refl q
      by None ed q = absurd (let z : ◌≡◌ {A = ℕ} 0 1 = cc in omega arith)

-- ---- and back

-- into any buffer that has room for the deck that there was
pub there_and_back : (edition v u : ℕ) (s d e : List ℕ) {m : ℕ} {d' e' : List ℕ} {r : Outcome} → Bytes s → version.Fit u
    → Converts edition v u s d (Ok m) d' → Converts edition u v (take m d') e r e' → length s ≤ length e → (r ≡ Ok (length s)) × (take (length s) e' ≡ s)
unfolding other_plan says leaves
there_and_back edition v u s d e {m} {d'} {e'} {r} bs fu c b l =
    let x = converted edition v u s d c bs fu in
    let p = x.product in
    let rs = x.rules in
    let w = sound_read p s (deck_of v rs) (length s) bs x.was in
    let n : length (written v rs) ≡ length s = sym (ap length w.is) in
    let o = only_takes p u (take m d') x.is refl in
    let j = room_is (length rs) (length (written v rs)) (length e) (deck_small p (deck_of v rs) w.fit) (omega (arith, w.short)) (omega arith) in
    let q : other_plan edition u v (length e) (take m d') ≡ become (deck_of v rs) = rw (x.known, o, ← j) in
    (b.0 ∙ ap says q ∙ ap Ok n, ap (take (length s)) (b.1 ∙ ap (leaves 0 e) q) ∙ take_laid (written v rs) _ e n ∙ sym w.is)

-- each way
module _ (edition : ℕ) (s d e : List ℕ) {m : ℕ} {d' e' : List ℕ} {r : Outcome} (bs : Bytes s) where
  pub up_and_down : Converts edition 1 2 s d (Ok m) d' → Converts edition 2 1 (take m d') e r e' → length s ≤ length e → (r ≡ Ok (length s)) × (take (length s) e' ≡ s)
  up_and_down = there_and_back edition 1 2 s d e bs (version_fits 2 (omega arith) (omega arith))

  pub down_and_up : Converts edition 2 1 s d (Ok m) d' → Converts edition 1 2 (take m d') e r e' → length s ≤ length e → (r ≡ Ok (length s)) × (take (length s) e' ≡ s)
  down_and_up = there_and_back edition 2 1 s d e bs (version_fits 1 (omega arith) (omega arith))

-- ---- in version 1 rules take the fewest bytes
pub first_shortest : (v : ℕ) (rs : List Rule) → length (written 1 rs) ≤ length (written v rs)
first_shortest v rs =
    let n = length rs in
    omega (arith, written_long 1 rs, written_long v rs, base_least v n, base_is 1 n (wide_none (λ e. omega arith)), zero-mul n)

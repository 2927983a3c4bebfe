-- What one product takes, Studio takes; and a product that takes a written deck reads the list that it was written from.
use Rattle.std.specs.Prelude.{ℕ, ◌+◌, ◌≤◌, ◌≡◌, length}
use Rattle.std.proofs.Common.{sym, ◌∙◌}
use Rattle.std.proofs.Math.Path.{ap}
use mathlib.Core.List.{List, [], ◌∷◌}
use Rattle.format.specs.Format.{got}
use Rattle.format.specs.ReadWrite.{AllFit}
use Rattle.format.specs.Combinators.{pair, judged}
use Rattle.kind.specs.declared.Product.{Product}
use Rattle.kind.specs.declared.Product.TheVariants.{Studio}
use Rattle.kind.specs.Kinds.{kinds, row_in, row_of}
use Rattle.kind.specs.Laws.Kinds.{all_offered}
use Rattle.element.specs.Element.{Element, element, identifier, is_row}
use Rattle.rule.specs.Rule.{Rule, placed}
use Rattle.rule.specs.Laws.Rule.{placed_fits, fits_placed}
use Rattle.deck.specs.Deck.{Deck, deck, read_as}
use Rattle.deck.specs.Laws.Deck.{deck_small, read_writes_back, written_reads_back}
use Rattle.deck.specs.Written.{afresh}
use Rattle.deck.specs.Laws.Written.{written_as, written_bytes}
use Rattle.plan.specs.Laws.Fits.{Every, Fits, deck_fits, fits_deck, fits_version}

module _ (p : Product) where
  element_studio : (x : Element) → (element p).Fit x → (element Studio).Fit x
  unfolding element pair identifier judged row_of
  element_studio x f = ((f.0.0, ap is_row (all_offered (row_in kinds x.0)) ∙ f.0.0.1), f.1)

  all_studio : (i : ℕ) (xs : List Element) → AllFit (placed p) i xs → AllFit (placed Studio) i xs
  unfolding AllFit
  all_studio i [] f = tt
  all_studio i (x ∷ xs) f = (placed_fits Studio i x (element_studio x (fits_placed p i x f.0)), all_studio (i + 1) xs f.1)

  rules_studio : (rs : List Rule) → Every (Fits p) rs → Every (Fits Studio) rs
  unfolding Every
  rules_studio [] f = tt
  rules_studio (r ∷ rs) f =
      let g = f.0 in
      (record { signature = g.signature; name = g.name; unknown2 = g.unknown2; unknown3 = g.unknown3; unknown4 = g.unknown4; unknown5 = g.unknown5; some = g.some; few = g.few; elements = all_studio 0 r.elements g.elements }, rules_studio rs f.1)

  pub deck_studio : (k : Deck) → (deck p).Fit k → length (afresh k) ≤ 60000 → (deck Studio).Fit k
  deck_studio k f l = deck_fits Studio k (fits_version p k f) (rules_studio k.rules (fits_deck p k f)) (deck_small p k f) l

  pub reads_back : (k : Deck) → (deck p).Fit k → length (afresh k) ≤ 60000 → read_as p (afresh k) ≡ got k (length (afresh k))
  reads_back k f l =
      let w = written_as k.version k.rules p in
      let s : length ((deck p).write k) ≤ 60000 = rw w l in
      rw w at (written_reads_back p k f s)

pub reads_same : (p : Product) (k x : Deck) (m : ℕ) → (deck Studio).Fit k → length (afresh k) ≤ 60000 → read_as p (afresh k) ≡ got x m → (x ≡ k) × (deck p).Fit k
reads_same p k x m f l r =
    let w = read_writes_back p (afresh k) x m (written_bytes k.version k.rules) r in
    let e : afresh x ≡ afresh k = sym (w.is ∙ written_as x.version x.rules p) in
    let n : length (afresh x) ≤ 60000 = rw e l in
    let a : got x (length (afresh x)) ≡ read_as Studio (afresh x) = sym (reads_back Studio x (deck_studio p x w.fit n) n) in
    let b : got x (length (afresh x)) ≡ got k (length (afresh k)) = a ∙ ap (read_as Studio) e ∙ reads_back Studio k f l in
    let z : x ≡ k = cc b in
    (z, rw z at w.fit)

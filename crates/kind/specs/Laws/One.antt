-- Two rows that the promise of an identifier allows coincide: what a row says gives it back. Assumes nothing.
use Rattle.std.specs.Prelude.{ℕ, ◌≡◌, refl, [], ◌∷◌, eqb, Ok, Err}
use Rattle.std.proofs.Common.{sym, ap, ◌∙◌}
use Rattle.format.specs.declared.Fault.TheVariants as Fault
use Rattle.kind.specs.Answers.{Row}
use Rattle.format.specs.declared.Refusal.TheVariants.{At}
use Rattle.format.specs.Fault.{Said}
use Rattle.format.specs.Format.{pick}
use Rattle.kind.specs.declared.Role.{Role}
use Rattle.kind.specs.declared.Role.TheVariants.{Condition, Action, Exception}
use Rattle.kind.specs.declared.Kind.{Kind}
use Rattle.kind.specs.declared.Kind.TheVariants.{Marker, Simple, WordList, Size, Dates}
use Rattle.kind.specs.Kinds.{kind_says}

abbrev role_at : ℕ → Role
role_at n = pick (eqb n 1) Condition (pick (eqb n 2) Action Exception)

abbrev kind_at : ℕ → ℕ → Kind
kind_at n role =
    pick (eqb n 0) Marker
    (pick (eqb n 4) WordList
    (pick (eqb n 5) (Size (role_at role))
    (pick (eqb n 6) (Dates (role_at role))
    (Simple (role_at role)))))

abbrev row_from : Said → Row
row_from (Ok n, []) = Err (At Fault.Unknown 0)
row_from (Ok n, (x ∷ [])) = Err (At Fault.Unknown 0)
row_from (Ok n, (x ∷ (y ∷ ys))) = Ok (kind_at x y)
row_from (Err why, vs) = Err why

row_from_lem : (r : Row) → row_from (kind_says r) ≡ r
unfolding pick
row_from_lem (Ok Marker) = refl
row_from_lem (Ok (Simple Condition)) = refl
row_from_lem (Ok (Simple Action)) = refl
row_from_lem (Ok (Simple Exception)) = refl
row_from_lem (Ok WordList) = refl
row_from_lem (Ok (Size Condition)) = refl
row_from_lem (Ok (Size Action)) = refl
row_from_lem (Ok (Size Exception)) = refl
row_from_lem (Ok (Dates Condition)) = refl
row_from_lem (Ok (Dates Action)) = refl
row_from_lem (Ok (Dates Exception)) = refl
row_from_lem (Err why) = refl

pub kind_one : (r q : Row) → kind_says r ≡ kind_says q → r ≡ q
kind_one r q e = sym (row_from_lem r) ∙ ap row_from e ∙ row_from_lem q

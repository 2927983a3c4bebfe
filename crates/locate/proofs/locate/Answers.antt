use mathlib.Core.Path.{refl}
use Rattle.std.specs.Prelude.{◌≡◌, Ok}
use Rattle.format.specs.Laws.Format.{bytes_all}
use Rattle.scan.specs.Answers.{Scan}
use Rattle.deck.specs.Deck.{read_deck, scanned}
use Rattle.locate.specs.Laws.Spots.{located_is}
use Rattle.locate.proofs.locate.Goals as goal

pub returns : goal.returns
returns c =
    let o = c.in_ok-version in
    let e : ◌≡◌ {A = Scan} (Ok (o.version, o.base, o.n, o.field-0-3)) (scanned (read_deck c.args.edition c.args.s.now)) = cc o.was in
    located_is _ _ _ _ (bytes_all c.args.s.now c.shared_slice_known-1.given) e refl c.spot_of.ensures refl (λ rs e. refl)

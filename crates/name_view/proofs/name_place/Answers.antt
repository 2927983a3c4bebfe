use Rattle.view.specs.Laws.View.{placed_as}
use Rattle.name_view.proofs.name_place.Goals as goal

pub returns : goal.returns
returns c = placed_as c.place_of.ensures c.find_name-v.ensures.0

use Rattle.element.specs.Laws.Element.{data_is, simple_is}
use Rattle.element.proofs.data_at.Goals as goal

pub returns-in-Marker : goal.returns-in-Marker
returns-in-Marker c = data_is _ _ _ _ c.in-Marker.is c.marker_at.ensures

pub returns-in-Simple : goal.returns-in-Simple
returns-in-Simple c = simple_is _ _ _ _ c.in-Simple.is c.one_zero_at.ensures

pub returns-in-WordList : goal.returns-in-WordList
returns-in-WordList c = data_is _ _ _ _ c.in-WordList.is c.word_list_at.ensures

pub returns-in-Size : goal.returns-in-Size
returns-in-Size c = data_is _ _ _ _ c.in-Size.is c.size_at.ensures

pub returns-in-Dates : goal.returns-in-Dates
returns-in-Dates c = data_is _ _ _ _ c.in-Dates.is c.dates_at.ensures

use Rattle.value.specs.Laws.Places.{holds_none, words_number}
use Rattle.value.proofs.words_in.Goals as goal

pub returns-in_err-n : goal.returns-in_err-n
returns-in_err-n c = holds_none _ _ _ _ _ _ _ (λ d x. (_, words_number _ d x)) c.u32_at.ensures c.in_err-n.was

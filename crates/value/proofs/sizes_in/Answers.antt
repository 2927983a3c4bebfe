use Rattle.value.specs.Laws.Places.{holds_none, sizes_numbers}
use Rattle.value.proofs.sizes_in.Goals as goal

pub returns-in_err-minimum : goal.returns-in_err-minimum
returns-in_err-minimum c = holds_none _ _ _ _ _ _ _ (λ d x. (_, (sizes_numbers _ d x).0)) c.u32_at.ensures c.in_err-minimum.was

pub returns-in_err-maximum : goal.returns-in_err-maximum
returns-in_err-maximum c = holds_none _ _ _ _ _ _ _ (λ d x. (_, (sizes_numbers _ d x).1)) c.u32_at-2.ensures c.in_err-maximum.was

use Rattle.value.specs.Laws.Places.{holds_none, span_starts, span_ends, span_is}
use Rattle.value.proofs.span_in.Goals as goal

pub returns-in_err-starts : goal.returns-in_err-starts
returns-in_err-starts c = holds_none _ _ _ _ _ _ _ (λ d x. (_, (span_starts _ d x).0)) c.flag_at.ensures c.in_err-starts.was

pub returns-in_err-after : goal.returns-in_err-after
returns-in_err-after c = holds_none _ _ _ _ _ _ _ (λ d x. (_, (span_starts _ d x).1)) c.date_at.ensures c.in_err-after.was

pub returns-in_err-ends : goal.returns-in_err-ends
returns-in_err-ends c = holds_none _ _ _ _ _ _ _ (λ d x. (_, (span_ends _ d x).0)) c.flag_at-2.ensures c.in_err-ends.was

pub returns-in_err-before : goal.returns-in_err-before
returns-in_err-before c = holds_none _ _ _ _ _ _ _ (λ d x. (_, (span_ends _ d x).1)) c.date_at-2.ensures c.in_err-before.was

pub returns : goal.returns
returns c = span_is _ c.flag_at.ensures c.in_ok-starts.was c.date_at.ensures c.in_ok-after.was c.flag_at-2.ensures c.in_ok-ends.was c.date_at-2.ensures c.in_ok-before.was

use Rattle.std.proofs.Common.{◌≡◌, ◌+◌, ◌-◌, ◌∙◌, ℕ, ap, arith, length, take, drop, length-drop, length-take-le}
use Rattle.format.specs.ReadWrite.{spelt}
use Rattle.format.specs.Laws.ReadWrite.{length_spelt}
use Rattle.buffer.specs.Laws.Laid.{put_out}
use Rattle.buffer.proofs.Parts.{put_part}
use Rattle.buffer.proofs.put_number.Goals as goal

pub returns-then-buf-at : goal.returns-then-buf-at
returns-then-buf-at c = put_out _ _ _ (simp length_spelt (λ h. omega arith))

pub returns-then-buf-at-2 : goal.returns-then-buf-at-2
returns-then-buf-at-2 c = put_out _ _ _ (simp length_spelt (λ h. omega arith))

pub returns : goal.returns
returns c =
    let d = c.args.buf.now in
    let at = c.args.at in
    let n : length (take (at + c.args.k - at) (drop at d)) ≡ c.args.k = length-take-le (at + c.args.k - at) (drop at d) (omega (arith, length-drop at d)) ∙ omega arith in
    put_part _ _ _ _ _ (c.spell.ensures ∙ ap (λ (k : ℕ). spelt k c.args.n) n) (length_spelt _ _) (omega arith)

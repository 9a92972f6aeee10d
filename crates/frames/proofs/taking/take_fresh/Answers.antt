-- The box is replaced only by one that was made.
use Prim.Native.Nat.{ℕ}
use mathlib.Core.Path.{ap, ◌∙◌}
use Rattle.tpg.specs.Calls.{fresh_call}
use Rattle.frames.proofs.Calling.{fresh_taken, fresh_kept}
use Rattle.frames.proofs.taking.take_fresh.Goals as goal

pub returns-in-Accepted : goal.returns-in-Accepted
returns-in-Accepted c =
    let k = c.args in
    c.frame_outcome.ensures ∙ fresh_taken k.state k.byte _ (c.fresh-made.ensures ∙ ap (λ (n : ℕ). fresh_call n 0) c.model_number.ensures) c.in-Accepted.is

pub returns-in_default : goal.returns-in_default
returns-in_default c =
    let k = c.args in
    c.handed.ensures ∙ rw c.number.ensures (fresh_kept k.state k.byte _ (c.fresh-made.ensures ∙ ap (λ (n : ℕ). fresh_call n 0) c.model_number.ensures) c.in_default.not-Accepted)

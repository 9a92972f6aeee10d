-- What was read gives the reply of the whole line; a line that gave nothing is a frame of other form.
use mathlib.Core.Path.{refl, sym, ap, ◌∙◌}
use Rattle.frames.specs.Frames.{framed}
use Rattle.frames.proofs.Answering.{read_enough}
use Rattle.frames.proofs.Forms.{handed_on, unsent}
use Rattle.frames.proofs.taking.take_line.Goals as goal

pub returns-in-Some : goal.returns-in-Some
returns-in-Some c =
    let a = c.args in
    handed_on _ _ (sym (ap (framed a.state) c.in-Some.ensures.1 ∙ read_enough a.state a.line.now)) _ _ _ c.take.ensures

pub returns-in-None : goal.returns-in-None
unfolding framed
returns-in-None c =
    let a = c.args in
    handed_on _ _ (sym (read_enough a.state a.line.now) ∙ ap (framed a.state) c.in-None.ensures) _ _ _ (unsent _ _ a.out.now refl c.no_frame.ensures)

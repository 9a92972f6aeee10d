-- What was taken and turned, one after the other.
use mathlib.Core.Path.{◌∙◌}
use native.Mathlib.Omega.{arith}
use Rattle.frames.proofs.Answering.{refused, few, kept, answered}
use Rattle.frames.proofs.answer.Goals as goal

pub returns-then-out-lt-LONGEST_LINE : goal.returns-then-out-lt-LONGEST_LINE
returns-then-out-lt-LONGEST_LINE c =
    let a = c.args in
    let h = refused a.state a.line.now a.out.now c.if-out-lt-LONGEST_LINE.true in
    (rw c.number.ensures at c.handed.ensures ∙ h.0, h.1)

pub spread-written-requires : goal.spread-written-requires
spread-written-requires c =
    let a = c.args in
    let room = c.if-out-lt-LONGEST_LINE.false in
    let told = c.take_line-told in
    (few a.state a.line.now a.out.now room told.result _ told.ensures, omega (arith, room, kept a.state a.line.now a.out.now room told.result _ told.ensures))

pub returns : goal.returns
returns c =
    let a = c.args in
    let told = c.take_line-told in
    answered a.state a.line.now a.out.now c.if-out-lt-LONGEST_LINE.false told.result _ told.ensures _ _ _ c.handed-2.ensures c.spread-written.ensures.0 c.spread-written.ensures.1

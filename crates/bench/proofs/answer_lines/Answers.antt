-- What is answered from here on is what was to be answered at the start.
use mathlib.Core.Path.{refl}
use native.Mathlib.Omega.{arith}
use Rattle.bench.proofs.Answering.{start, no_room, no_line, to_inside, step}
use Rattle.bench.proofs.answer_lines.Goals as goal

pub loop-to-init : goal.loop-to-init
loop-to-init c =
    let a = c.args in
    start a.state a.block.now a.out.now c.end_of-to.result c.end_of-to.ensures

pub overflow_sub-out : goal.overflow_sub-out
overflow_sub-out c = omega (arith, c.loop-to.invariant.inside)

pub shape_of-out-then-out-at-lt-LONGEST_LINE : goal.shape_of-out-then-out-at-lt-LONGEST_LINE
shape_of-out-then-out-at-lt-LONGEST_LINE c = c.loop-to.invariant.same

pub returns-then-out-at-lt-LONGEST_LINE : goal.returns-then-out-at-lt-LONGEST_LINE
returns-then-out-at-lt-LONGEST_LINE c = no_room c.loop-to.invariant c.if-out-at-lt-LONGEST_LINE.true

pub slice_bounds-answer-count : goal.slice_bounds-answer-count
slice_bounds-answer-count c = (to_inside c.loop-to.invariant).0

pub slice_bounds-answer-start : goal.slice_bounds-answer-start
slice_bounds-answer-start c = (to_inside c.loop-to.invariant).0

pub slice_bounds-answer-end : goal.slice_bounds-answer-end
slice_bounds-answer-end c = (to_inside c.loop-to.invariant).1

pub slice_bounds-answer-count-in-loop-to : goal.slice_bounds-answer-count-in-loop-to
slice_bounds-answer-count-in-loop-to c = c.loop-to.invariant.inside

pub slice_bounds-answer-start-in-loop-to : goal.slice_bounds-answer-start-in-loop-to
slice_bounds-answer-start-in-loop-to c = omega (arith, c.loop-to.invariant.inside)

pub overflow_add-at : goal.overflow_add-at
overflow_add-at c =
    let g = step c.loop-to.invariant c.loop-to-test.true c.if-out-at-lt-LONGEST_LINE.false c.answer-answered.result c.answer-answered.new.out c.answer-answered.ensures _ refl in
    omega (arith, g.inside, g.same)

pub overflow_add-from : goal.overflow_add-from
overflow_add-from c =
    omega (arith, c.loop-to-test.true)

pub loop-to-smaller : goal.loop-to-smaller
loop-to-smaller c =
    omega (arith, (to_inside c.loop-to.invariant).0, c.loop-to-test.true)

pub loop-to-preserved : goal.loop-to-preserved
loop-to-preserved c =
    step c.loop-to.invariant c.loop-to-test.true c.if-out-at-lt-LONGEST_LINE.false c.answer-answered.result c.answer-answered.new.out c.answer-answered.ensures c.end_of-to-in-loop-to.result c.end_of-to-in-loop-to.ensures

pub shape_of-out : goal.shape_of-out
shape_of-out c = c.loop-to.invariant.same

pub returns : goal.returns
returns c = no_line c.loop-to.invariant c.loop-to-test.false

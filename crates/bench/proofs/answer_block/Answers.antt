-- The lines from here on are those that are left of the block.
use mathlib.Core.Path.{sym, ◌∙◌}
use native.Mathlib.Omega.{arith}
use lib.Seq.{length-take-le}
use Rattle.bench.proofs.WholeBlocks.{start, text_inside, ended, step}
use Rattle.bench.proofs.answer_block.Goals as goal

pub loop-answered-init : goal.loop-answered-init
loop-answered-init c =
    let a = c.args in
    start a.state a.block.now a.out.now c.requires

pub slice_bounds-answer_lines-count : goal.slice_bounds-answer_lines-count
slice_bounds-answer_lines-count c = c.loop-answered.invariant.low

pub slice_bounds-answer_lines-start : goal.slice_bounds-answer_lines-start
slice_bounds-answer_lines-start c = omega (arith, c.loop-answered.invariant.low)

pub shape_of-out-then-answered-eq0 : goal.shape_of-out-then-answered-eq0
shape_of-out-then-answered-eq0 c =
    c.answer_lines-answered.auto.out ∙ c.loop-answered.invariant.same

pub returns-then-answered-eq0 : goal.returns-then-answered-eq0
returns-then-answered-eq0 c =
    let a = c.answer_lines-answered in
    ended c.loop-answered.invariant a.result a.new.out a.ensures c.if-answered-eq0.true

pub slice_bounds-send-end : goal.slice_bounds-send-end
slice_bounds-send-end c =
    let a = c.answer_lines-answered in
    text_inside c.loop-answered.invariant a.result a.new.out a.ensures

pub slice_bounds-send-end-in-loop-answered : goal.slice_bounds-send-end-in-loop-answered
slice_bounds-send-end-in-loop-answered c =
    let a = c.answer_lines-answered in
    sym (length-take-le a.result.written a.new.out (text_inside c.loop-answered.invariant a.result a.new.out a.ensures))

pub overflow_add-from : goal.overflow_add-from
overflow_add-from c =
    let a = c.answer_lines-answered in
    omega (arith, (step c.loop-answered.invariant a.result a.new.out a.ensures a.auto.out).low)

pub loop-answered-smaller : goal.loop-answered-smaller
loop-answered-smaller c =
    let a = c.answer_lines-answered in
    omega (arith, (step c.loop-answered.invariant a.result a.new.out a.ensures a.auto.out).low, c.if-answered-eq0.false)

pub loop-answered-preserved : goal.loop-answered-preserved
loop-answered-preserved c =
    let a = c.answer_lines-answered in
    step c.loop-answered.invariant a.result a.new.out a.ensures a.auto.out

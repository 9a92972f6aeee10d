-- What is kept of a block lies in it (`left_inside`), and a line is written whole (`written_few`).
use mathlib.Core.Path.{sym}
use native.Mathlib.Omega.{arith}
use lib.Seq.{length-take-le}
use Rattle.bench.proofs.WholeBlocks.{left_inside, written_few}
use Rattle.bench.proofs.main.Goals as goal

pub keep-held-requires : goal.keep-held-requires
keep-held-requires c =
    let f = c.fill-end in
    let a = c.answer_block-answered in
    (omega (arith, left_inside _ _ a.result a.ensures, length-take-le f.result f.new.block f.ensures.1), f.ensures.1)

pub slice_bounds-out-end : goal.slice_bounds-out-end
slice_bounds-out-end c =
    let a = c.answer-answered in
    omega (arith, written_few _ _ c.loop.out a.result a.ensures.0, a.auto.out)

pub slice_bounds-send-end : goal.slice_bounds-send-end
slice_bounds-send-end c =
    let a = c.answer-answered in
    sym (length-take-le a.result.written a.new.out (omega (arith, written_few _ _ c.loop.out a.result a.ensures.0, a.auto.out)))

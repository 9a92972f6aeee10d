-- The lines from here on are those that are left of the block.
use Prim.Native.Nat.{◌-◌}
use lib.ListN.{length}
use Rattle.bench.proofs.WholeBlocks.{Writing}
use Rattle.bench.proofs.answer_block.Given as goal

abbrev pub invariant-loop-answered : goal.invariant-loop-answered
invariant-loop-answered l = Writing l.initial.now l.block l.initial.out l.now l.out l.from

abbrev pub decreases-loop-answered : goal.decreases-loop-answered
decreases-loop-answered l = length l.block - l.from

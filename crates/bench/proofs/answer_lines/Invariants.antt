-- What is answered from here on is what was to be answered at the start.
use Prim.Native.Nat.{◌-◌}
use lib.ListN.{length}
use Rattle.bench.proofs.Answering.{Answering}
use Rattle.bench.proofs.answer_lines.Given as goal

abbrev pub invariant-loop-to : goal.invariant-loop-to
invariant-loop-to l = Answering l.initial.now l.block l.initial.out l.now l.out l.from l.at l.to

abbrev pub decreases-loop-to : goal.decreases-loop-to
decreases-loop-to l = length l.block - l.from

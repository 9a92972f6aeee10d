-- What is left to take from here is what was left at the start, less what was taken; the writer stands at the lent output.
use Prim.Native.Nat.{◌-◌}
use mathlib.Core.Path.{◌≡◌}
use lib.ListN.{length}
use Rattle.tpg.proofs.HostRun.{Going}
use Rattle.tpg.proofs.State.run.Given as goal

abbrev pub invariant-loop-taken : goal.invariant-loop-taken
invariant-loop-taken l = record {
  same_output : l.sent.bytes.ghost_name ≡ l.initial.sent.bytes.ghost_name;
  going : Going (record { instrument = l.initial.instrument; port = l.initial.port }) l.input l.fn.out l.instrument l.port l.sent.bytes.now l.taken l.sent.at;
}

abbrev pub decreases-loop-taken : goal.decreases-loop-taken
decreases-loop-taken l = length l.input - l.taken

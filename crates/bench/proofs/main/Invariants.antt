-- The line that is kept has its bound.
use Prim.Native.Nat.{◌≤◌}
use Rattle.bench.specs.Walk.{most_kept}
use Rattle.bench.proofs.main.Given as goal

abbrev pub invariant-loop : goal.invariant-loop
invariant-loop l = l.held ≤ most_kept

-- `rounding::climb`: the tens counted, and those still to count, are those of the definition.
use Prim.Native.Nat.{◌+◌, ◌-◌, ◌*◌, ◌^◌}
use mathlib.Core.Path.{◌≡◌}
use Rattle.numbers.specs.Rounding.{climb_within, climb}
use Rattle.numbers.proofs.rounding.climb.Given as goal

abbrev pub invariant-loop-tens : goal.invariant-loop-tens
invariant-loop-tens l = (l.size ≡ l.n * 10 ^ l.tens) × (l.tens + climb_within (18 - l.tens) l.size l.to ≡ climb l.n l.to)

-- `runs::value`: what the digits from here on make behind what was read is what all of them make.
use Prim.Native.Nat.{◌≤◌, ◌+◌, ◌-◌, ◌*◌, ◌^◌}
use mathlib.Core.Path.{◌≡◌}
use lib.ListN.{length, drop}
use Rattle.numerals.specs.Runs.{value}
use Rattle.numerals.proofs.runs.value.Given as goal

abbrev pub invariant-loop-b : goal.invariant-loop-b
invariant-loop-b l = record {
  bounded : (l.n + 23) * 10 ^ (length l.digits - l.b-index) ≤ (l.m + 23) * 10 ^ length l.digits;
  read : value l.n (drop l.b-index l.digits) ≡ value l.m l.digits;
}

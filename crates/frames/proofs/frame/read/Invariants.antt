-- The pairs read so far are the first bytes; the rest of the line is read from here.
use Prim.Native.Nat.{◌/◌}
use lib.ListN.{length}
use Rattle.frames.proofs.HexReading.{Read}
use Rattle.frames.proofs.frame.read.Given as goal

abbrev pub invariant-loop-i : goal.invariant-loop-i
invariant-loop-i l = Read l.line l.bytes (length l.line / 2) l.i

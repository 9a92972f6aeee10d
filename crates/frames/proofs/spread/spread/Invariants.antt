-- From the last byte on each is turned into its digits; the bytes before it still stand.
use Rattle.frames.proofs.Spreading.{Spread}
use Rattle.frames.proofs.spread.spread.Given as goal

abbrev pub invariant-loop-i : goal.invariant-loop-i
invariant-loop-i l = Spread l.initial.out l.out l.count l.i

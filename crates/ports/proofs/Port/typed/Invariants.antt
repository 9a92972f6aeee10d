-- Where the port stands before the rest of the run.
use Rattle.ports.proofs.Characters.{Gathered}
use Rattle.ports.proofs.Port.typed.Given as goal

abbrev pub invariant-loop-b : goal.invariant-loop-b
invariant-loop-b l = Gathered l.fn.self l.run l.port l.b-index

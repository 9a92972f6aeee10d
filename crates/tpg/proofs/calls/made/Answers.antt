-- A box started with the defaults of its model, handed back with the answer.
use Rattle.tpg.proofs.calls.made.Goals as goal

pub returns : goal.returns
returns c = rw (c.with_answer.ensures, c.start.ensures, c.defaults.ensures)

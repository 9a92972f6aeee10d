-- The number gives the model or none; the serial number is tested where there is a model.
use borrow.Author.Tests.{le-leb, lt-leb}
use Rattle.tpg.specs.Calls.{fresh_call}
use Rattle.tpg.proofs.State.fresh.Goals as goal
use Rattle.tpg.proofs.State.fresh.Goals.{in_default-via-in-Ok+else-serial-le-MOST_SERIAL, in_default-via-in_default}

pub returns-in-Ok : goal.returns-in-Ok
unfolding fresh_call
returns-in-Ok c = rw (c.made.ensures, c.in-Ok.ensures, le-leb _ _ c.if-serial-le-MOST_SERIAL.true)

pub returns-in_default : goal.returns-in_default
unfolding fresh_call
returns-in_default c =
    elim c.in_default.branch [
      | in_default-via-in-Ok+else-serial-le-MOST_SERIAL w ↦ rw (c.made-in_default.ensures, w.in-Ok.ensures, lt-leb _ _ w.if-serial-le-MOST_SERIAL.false)
      | in_default-via-in_default w ↦ rw (c.made-in_default.ensures, w.in_default.ensures)
    ]

-- The row of a choice, and past the last row there is none (`stored_past`).
use mathlib.Core.Path.{◌∙◌, sym, ap}
use native.Mathlib.Omega.{arith}
use Rattle.settings.specs.Table.{on, stored_entry}
use Rattle.settings.proofs.Tabled.{stored_past}
use Rattle.settings.proofs.model.Model.stored_entry.Goals as goal

pub returns-in-2 : goal.returns-in-2
unfolding stored_entry
returns-in-2 c = rw (c.in-2.is, c.on_newer.ensures, c.choosing.ensures)

pub returns-in_default : goal.returns-in_default
returns-in_default c =
    let a = c.args in
    c.nothing.ensures ∙ ap (on a.self) (sym (stored_past a.k (omega arith)))

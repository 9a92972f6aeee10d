-- A tick is one of several.
use Prim.Native.Nat.{ℕ}
use mathlib.Core.Path.{ap, ◌∙◌}
use mathlib.Core.List.{List}
use lib.ListN.{length}
use Rattle.tpg.specs.Steps.{over}
use Rattle.tpg.proofs.Ticking.{ticks_one, ticks_one_bytes}
use Rattle.tpg.proofs.State.tick.Goals as goal

pub returns : goal.returns
returns c =
    let a = c.args in
    let out = a.out.now in
    let e = c.ticks.ensures in
    (e.0 ∙ ticks_one a.self (length out), e.1 ∙ ap (λ (x : List ℕ). over x out) (ticks_one_bytes a.self (length out)))

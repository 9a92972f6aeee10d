-- A byte is one of several.
use Prim.Native.Nat.{ℕ}
use mathlib.Core.Path.{ap, ◌∙◌}
use mathlib.Core.List.{List}
use lib.ListN.{length}
use Rattle.tpg.specs.Steps.{over}
use Rattle.tpg.proofs.Deciding.{byte_hosted}
use Rattle.tpg.proofs.State.byte.Goals as goal

pub returns : goal.returns
returns c =
    let a = c.args in
    let out = a.out.now in
    let e = c.host.ensures in
    let one = byte_hosted a.self a.b (length out) in
    (e.0 ∙ one.0, e.1 ∙ ap (λ (x : List ℕ). over x out) one.1)

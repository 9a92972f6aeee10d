-- The places are tested one after the other (`all_every`).
use Rattle.std.proofs.Common.{◌∙◌, rules, tests}
use Rattle.std.proofs.lemmas.Iterator.{YieldsList-from_slice}
use Rattle.std.proofs.lemmas.Iterator.Search.{all_from_yields_List}
use Rattle.ground.specs.Ranges.{in_range}
use Rattle.settings.proofs.Names.{all_every}
use Rattle.ports.proofs.limits.all_within.Goals as goal

pub returns : goal.returns
returns c =
    let a = c.args in
    let p = in_range a.low a.high in
    all_from_yields_List p _ _ c.all.result c.all.ensures.ran (YieldsList-from_slice a.places.now cc) (λ x b q k. search (rules, tests))
    ∙ all_every p a.places.now

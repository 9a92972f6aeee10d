-- Each function is in the other unit (`array_mapped`).
use mathlib.Core.Path.{◌≡◌}
use mathlib.Core.List.{map}
use lib.ListN.{length}
use borrow.Author.Rules.{rules}
use borrow.Author.Tests.{tests}
use Rattle.settings.specs.Rows.{no_switching, switching_in}
use Rattle.settings.proofs.Arrays.{array_mapped, length-mapped}
use Rattle.settings.proofs.Settings.with_unit.Goals as goal

pub returns : goal.returns
returns c =
    let a = c.args in
    let four : length a.self.switching ≡ 4 = search (rules, length-mapped) in
    let e : c.map.result ≡ map (switching_in a.self.unit a.unit) a.self.switching =
    array_mapped _ _ (switching_in a.self.unit a.unit) (λ x y q k. search (rules, tests)) a.self.switching c.map.result 4 no_switching four c.map.ensures.items in
    rw e

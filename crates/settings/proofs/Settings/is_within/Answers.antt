-- The settings that are held are tested one after the other (`all_every`).
use mathlib.Core.Path.{◌∙◌}
use borrow.Author.Rules.{rules}
use borrow.Author.Tests.{tests}
use Rattle.std.proofs.lemmas.Iterator.{YieldsList-from_slice}
use Rattle.std.proofs.lemmas.Iterator.Search.{all_from_yields_List}
use Rattle.settings.specs.Mnemonics.{settings_held}
use Rattle.settings.specs.Limits.{row_within, within}
use Rattle.settings.proofs.Names.{all_every}
use Rattle.settings.proofs.Settings.is_within.Goals as goal

pub returns : goal.returns
unfolding within
returns c =
    let a = c.args in
    all_from_yields_List (row_within a.model a.self) _ _ c.all.result c.all.ensures.ran (YieldsList-from_slice settings_held cc) (λ x b q k. search (rules, tests))
    ∙ all_every (row_within a.model a.self) settings_held

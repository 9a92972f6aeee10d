-- The line is that of the settings that the model takes (`filter_those`).
use mathlib.Core.Path.{◌≡◌, sym, ap, ◌∙◌}
use mathlib.Core.List.{List}
use lib.ListN.{get_or}
use borrow.Author.Rules.{rules}
use borrow.Author.Tests.{tests}
use Rattle.std.specs.List.{slice_get, filter}
use Rattle.std.specs.Option.{unwrap_or}
use Rattle.std.specs.Prelude.{Option}
use Rattle.std.proofs.lemmas.Option.{unwrap_or-slice_get}
use Rattle.std.proofs.lemmas.Iterator.{YieldsList-from_slice}
use Rattle.std.proofs.lemmas.Iterator.Adapters.{option_map_id}
use Rattle.std.proofs.lemmas.Iterator.Consumers.{YieldsList-from_copied, YieldsList-from_filter, YieldsList-at, nth_from_yields_List}
use Rattle.settings.specs.Mnemonics.{settings_held, takes, sheet}
use Rattle.settings.specs.declared.mnemonic.Setting.{Setting}
use Rattle.settings.specs.declared.mnemonic.Setting.TheVariants.{Uni}
use Rattle.settings.proofs.Names.{filter_those}
use Rattle.settings.proofs.model.Model.sheet_at.Goals as goal

pub returns : goal.returns
unfolding sheet
returns c =
    let a = c.args in
    let e : c.nth.result ≡ slice_get (filter (takes a.self) settings_held) a.i =
    sym (option_map_id c.nth.result)
    ∙ nth_from_yields_List c.nth.result _ a.i c.nth.ensures.ran
    (YieldsList-from_filter _ (takes a.self) (YieldsList-at c.filter.ensures.source (YieldsList-from_copied (YieldsList-from_slice settings_held cc))) c.filter.ensures.closure (λ x b q k. search (rules, tests))) in
    c.unwrap_or.ensures ∙ ap (λ (o : Option Setting). unwrap_or o Uni) e ∙ unwrap_or-slice_get (filter (takes a.self) settings_held) a.i Uni
    ∙ ap (λ (l : List Setting). get_or l a.i Uni) (filter_those (takes a.self) settings_held)

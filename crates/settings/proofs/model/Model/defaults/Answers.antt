-- Each number is the default of its row (`array_numbered`).
use mathlib.Core.Path.{◌≡◌, refl}
use borrow.Author.Rules.{rules}
use borrow.Author.Tests.{tests}
use lib.ListN.{get_or-map}
use Rattle.settings.specs.Rows.{no_pair, pair_of}
use Rattle.settings.specs.Table.{TableRow, nothing, stored_table, stored_entry, defaults}
use Rattle.settings.proofs.Arrays.{array_numbered}
use Rattle.settings.proofs.model.Model.defaults.Goals as goal

pub returns : goal.returns
unfolding stored_entry
returns c =
    let a = c.args in
    let e : c.from_fn.result ≡ (defaults a.self).stored =
    array_numbered _ _ (λ k. pair_of ((stored_entry k).default a.self)) (λ x y q k. search (rules, tests)) c.from_fn.result (defaults a.self).stored 16 no_pair refl (λ j l. get_or-map (λ (r : TableRow). pair_of (r.default a.self)) stored_table j nothing) c.from_fn.ensures.items in
    rw (e, c.preset.ensures, c.preset-cal.ensures)

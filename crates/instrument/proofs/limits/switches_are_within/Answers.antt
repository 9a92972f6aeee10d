-- Each of the four is tested beside its assignment (`all_from_yields_List`).
use Rattle.std.proofs.Common.{◌≡◌, length, get_or, List, [], ◌∷◌, Bool, false, sym, ap, ◌∙◌, rules, tests}
use mathlib.Core.Bool.{and-true}
use Rattle.std.specs.List.{list_all, zip}
use Rattle.std.proofs.lemmas.Iterator.{YieldsList-from_slice, YieldsList-from_zip}
use Rattle.std.proofs.lemmas.Iterator.Search.{all_from_yields_List}
use Rattle.ground.proofs.Tables.{entries, entries_all}
use Rattle.settings.specs.Models.{agrees}
use Rattle.settings.specs.Rows.{no_switching}
use Rattle.settings.specs.declared.model.Model.{Model}
use Rattle.settings.specs.declared.Switching.{Switching}
use Rattle.instrument.specs.Limits.{switches_within}
use Rattle.instrument.proofs.limits.switches_are_within.Goals as goal

four : {A : Type 0} (l : List A) (d : A) → length l ≡ 4 → l ≡ get_or l 0 d ∷ get_or l 1 d ∷ get_or l 2 d ∷ get_or l 3 d ∷ []
four l d e = sym (entries_all l d) ∙ ap (λ n. entries (λ k. get_or l k d) n 0) e

abbrev test : Model → Switching × Bool → Bool
test model p = agrees model p.0.assignment p.1

all_four : (model : Model) (ws : List Switching) (on : List Bool) → length ws ≡ 4 → length on ≡ 4 → list_all (test model) (zip ws on) ≡ switches_within model ws on
all_four model ws on e f =
    ap (λ (l : List Switching). list_all (test model) (zip l on)) (four ws no_switching e)
    ∙ ap (λ (l : List Bool). list_all (test model) (zip (get_or ws 0 no_switching ∷ get_or ws 1 no_switching ∷ get_or ws 2 no_switching ∷ get_or ws 3 no_switching ∷ []) l)) (four on false f)
    ∙ rw (and-true (agrees model (get_or ws 3 no_switching).assignment (get_or on 3 false)))

pub returns : goal.returns
returns c =
    let a = c.args in
    let n : length a.w ≡ 4 = search rules in
    let m : length a.on ≡ 4 = search rules in
    all_from_yields_List (test a.model) c.all.new.self _ c.all.result c.all.ensures.ran (YieldsList-from_zip (YieldsList-from_slice a.w cc) (YieldsList-from_slice a.on cc)) (λ x b q k. search (rules, tests))
    ∙ all_four a.model a.w a.on n m

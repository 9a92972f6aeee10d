-- The place of the first comma splits the line (`comma_at`, `comma_none`).
use Rattle.std.proofs.Common.{rules, tests}
use mathlib.Core.Path.{sym, ◌∙◌}
use Rattle.std.proofs.lemmas.Iterator.{YieldsList-from_slice}
use Rattle.std.proofs.lemmas.Iterator.Search.{position_from_yields_List}
use Rattle.std.proofs.lemmas.List.{take_rest}
use Rattle.lines.proofs.Walking.{is_comma, comma_at, comma_none}
use Rattle.lines.proofs.fields.first_field.Goals as goal

pub returns-in-Some : goal.returns-in-Some
returns-in-Some c =
    let p = position_from_yields_List is_comma _ _ c.position.result c.position.ensures.ran (YieldsList-from_slice c.args.s.now cc) (λ x b q k. search (rules, tests)) in
    let k = comma_at c.args.s.now c.in-Some.i (sym p ∙ c.in-Some.is) in
    record { first = k.0; others = rw take_rest k.1 }

pub returns-in-None : goal.returns-in-None
returns-in-None c =
    let p = position_from_yields_List is_comma _ _ c.position.result c.position.ensures.ran (YieldsList-from_slice c.args.s.now cc) (λ x b q k. search (rules, tests)) in
    let k = comma_none c.args.s.now (sym p ∙ c.in-None.is) in
    record { first = k.0; others = k.1 }

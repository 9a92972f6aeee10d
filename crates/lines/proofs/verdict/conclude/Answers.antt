-- A malformed field is a fault of the line, whatever the others are (`all_formed`); then the first fault of value is.
use Rattle.std.proofs.Common.{rules, tests}
use mathlib.Core.Path.{sym, ◌∙◌}
use mathlib.Core.List.{[], ◌∷◌}
use Rattle.std.proofs.lemmas.Iterator.{YieldsList-from_slice}
use Rattle.std.proofs.lemmas.Iterator.Search.{any_from_yields_List}
use Rattle.std.proofs.lemmas.Result.{err_from_is_err_and}
use Rattle.lines.specs.Judging.{valued}
use Rattle.lines.proofs.Walking.{malformed, all_formed}
use Rattle.lines.proofs.verdict.conclude.Goals as goal

pub returns-then-any : goal.returns-then-any
returns-then-any c =
    let a = c.args in
    let any = any_from_yields_List malformed _ _ c.any.result c.any.ensures.ran (YieldsList-from_slice (a.a ∷ a.b ∷ a.c ∷ []) cc) (λ x b q k. search (rules, tests)) in
    rw (all_formed, sym any ∙ c.if-any.true)

pub returns-in_err-a : goal.returns-in_err-a
unfolding valued
returns-in_err-a c =
    let a = c.args in
    let any = any_from_yields_List malformed _ _ c.any.result c.any.ensures.ran (YieldsList-from_slice (a.a ∷ a.b ∷ a.c ∷ []) cc) (λ x b q k. search (rules, tests)) in
    let p = err_from_is_err_and c.from_residual.result c.from_residual.ensures.1 in
    rw (all_formed, sym any ∙ c.if-any.false, p.1, p.2, c.in_err-a.was)

pub returns-in_err-b : goal.returns-in_err-b
unfolding valued
returns-in_err-b c =
    let a = c.args in
    let any = any_from_yields_List malformed _ _ c.any.result c.any.ensures.ran (YieldsList-from_slice (a.a ∷ a.b ∷ a.c ∷ []) cc) (λ x b q k. search (rules, tests)) in
    let p = err_from_is_err_and c.from_residual-in_err-b.result c.from_residual-in_err-b.ensures.1 in
    rw (all_formed, sym any ∙ c.if-any.false, p.1, p.2, c.in_ok-a.was, c.in_err-b.was)

pub returns-in_err-c : goal.returns-in_err-c
unfolding valued
returns-in_err-c c =
    let a = c.args in
    let any = any_from_yields_List malformed _ _ c.any.result c.any.ensures.ran (YieldsList-from_slice (a.a ∷ a.b ∷ a.c ∷ []) cc) (λ x b q k. search (rules, tests)) in
    let p = err_from_is_err_and c.from_residual-in_err-c.result c.from_residual-in_err-c.ensures.1 in
    rw (all_formed, sym any ∙ c.if-any.false, p.1, p.2, c.in_ok-a.was, c.in_ok-b.was, c.in_err-c.was)

pub returns : goal.returns
unfolding valued
returns c =
    let a = c.args in
    let any = any_from_yields_List malformed _ _ c.any.result c.any.ensures.ran (YieldsList-from_slice (a.a ∷ a.b ∷ a.c ∷ []) cc) (λ x b q k. search (rules, tests)) in
    rw (all_formed, sym any ∙ c.if-any.false, c.in_ok-a.was, c.in_ok-b.was, c.in_ok-c.was)

-- `spans::end_of`: as many bytes as are not the mark (`until_length`).
use mathlib.Core.Path.{◌≡◌, refl, ap, ◌∙◌}
use mathlib.Core.List.{List}
use Prim.Native.Nat.{ℕ}
use native.Mathlib.Omega.{arith}
use mathlib.Core.Bool.{not}
use borrow.Author.Rules.{rules}
use borrow.Author.Tests.{tests}
use lib.Dec.{eqb}
use lib.ListN.{length, drop}
use Rattle.text.specs.Spans.{until}
use Rattle.std.proofs.lemmas.Iterator.{YieldsList-from_slice}
use Rattle.std.proofs.lemmas.Iterator.Consumers.{count_from_yields_List}
use Rattle.std.proofs.lemmas.Iterator.Search.{YieldsList-from_take_while}
use Rattle.std.proofs.lemmas.List.Folds.{length-prefix_len}
use Rattle.text.proofs.Marks.{until_length, rest_is}
use Rattle.text.proofs.spans.end_of.Goals as goal

pub returns : goal.returns
returns c =
    let a = c.args in
    let s = c.unwrap_or-rest.result.now in
    let other = λ (b : ℕ). not (eqb b a.mark) in
    let n = count_from_yields_List c.take_while.result c.count.result c.count.ensures.ran
    (YieldsList-from_take_while _ other (YieldsList-from_slice s cc) c.take_while.ensures.closure c.take_while.ensures.done (λ x b q k. search (rules, tests))) in
    let rest : s ≡ drop a.from a.s.now = ap (λ x. x.now) c.unwrap_or-rest.ensures ∙ rest_is a.s.now a.from c.get.result _ refl c.get.ensures.lookup.0 in
    omega (arith, n ∙ length-prefix_len other s, until_length a.mark s, ap (λ (l : List ℕ). length (until a.mark l)) rest)

-- `digits::zeros`: as many as there are zeros in front of the last digit (`bare_zeros`).
use mathlib.Core.Path.{◌∙◌}
use Prim.Native.Nat.{ℕ}
use borrow.Author.Rules.{rules}
use borrow.Author.Tests.{tests}
use lib.Dec.{eqb}
use lib.ListN.{take}
use Rattle.std.proofs.lemmas.Iterator.{YieldsList-from_slice}
use Rattle.std.proofs.lemmas.Iterator.Consumers.{count_from_yields_List}
use Rattle.std.proofs.lemmas.Iterator.Search.{YieldsList-from_take_while}
use Rattle.std.proofs.lemmas.List.Folds.{length-prefix_len}
use Rattle.text.proofs.Decimals.{bare_zeros}
use Rattle.text.proofs.digits.zeros.Goals as goal

pub returns : goal.returns
returns c =
    let s = take 9 c.args.d in
    let zero = λ (b : ℕ). eqb b 48 in
    let n = count_from_yields_List c.take_while.result c.count.result c.count.ensures.ran
    (YieldsList-from_take_while _ zero (YieldsList-from_slice s cc) c.take_while.ensures.closure c.take_while.ensures.done (λ x b q k. search (rules, tests))) in
    (search rules, rw (n ∙ length-prefix_len zero s) (bare_zeros c.args.d 9 (search rules)))

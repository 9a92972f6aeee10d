-- One more than commas (`more_commas`).
use Rattle.std.proofs.Common.{rules, tests}
use mathlib.Core.Path.{ap, ◌∙◌}
use Prim.Native.Nat.{ℕ, ◌+◌}
use Rattle.std.proofs.lemmas.Iterator.{YieldsList-from_slice}
use Rattle.std.proofs.lemmas.Iterator.Consumers.{count_from_yields_List, YieldsList-from_filter}
use Rattle.lines.proofs.Walking.{is_comma, more_commas}
use Rattle.lines.proofs.fields.count_fields.Goals as goal

pub returns : goal.returns
returns c =
    let s = c.args.s.now in
    let n = count_from_yields_List c.filter.result c.count.result c.count.ensures.ran
    (YieldsList-from_filter _ is_comma (YieldsList-from_slice s cc) c.filter.ensures.closure (λ x r q k. search (rules, tests))) in
    ap (λ (k : ℕ). k + 1) n ∙ more_commas s

-- The place of the first byte that is not typed, or the end, is where the run ends (`typed_part`).
use Rattle.std.proofs.Common.{not, rules, tests}
use Rattle.std.proofs.lemmas.Iterator.{YieldsList-from_slice}
use Rattle.std.proofs.lemmas.Iterator.Search.{position_from_yields_List}
use Rattle.ports.specs.Walk.{is_typed}
use Rattle.ports.proofs.Characters.{typed_part}
use Rattle.ports.proofs.typing.typed_run.Goals as goal

pub returns : goal.returns
returns c =
    rw c.unwrap_or-count.ensures
    (typed_part c.args.input.now c.position.result
    (position_from_yields_List (λ b. not (is_typed b)) _ _ c.position.result c.position.ensures.ran (YieldsList-from_slice _ c.iter.ensures.rest) (λ x b q k. search (rules, tests))))

-- The first mnemonic of all that has the name and is known is the first of the known ones that has it (`find_found`).
use mathlib.Core.Path.{sym, ◌∙◌}
use mathlib.Core.Bool.{◌&&◌}
use borrow.Author.Rules.{rules}
use borrow.Author.Tests.{tests}
use Rattle.std.proofs.lemmas.Iterator.{YieldsList-from_slice, YieldsList-from_map}
use Rattle.std.proofs.lemmas.Iterator.Adapters.{option_map_id}
use Rattle.std.proofs.lemmas.Iterator.Consumers.{YieldsList-from_copied, YieldsList-from_chain, YieldsList-at}
use Rattle.std.proofs.lemmas.Iterator.Search.{find_from_yields_List}
use Rattle.settings.specs.Mnemonics.{settings_held, others, setting, knows, mnemonics, known, name, same, recognised}
use Rattle.settings.proofs.Names.{find_found}
use Rattle.settings.proofs.model.Model.named.Goals as goal

pub returns : goal.returns
unfolding recognised known
returns c =
    let a = c.args in
    sym (option_map_id c.find.result)
    ∙ find_from_yields_List (λ m. same (name m) a.word && knows a.self m) _ _ c.find.result c.find.ensures.ran
    (YieldsList-from_chain
    (YieldsList-at c.chain.ensures.first (YieldsList-from_map _ setting (YieldsList-from_slice settings_held cc) c.map.ensures.closure (λ x r q k. search (rules, tests))))
    (YieldsList-at c.chain.ensures.second (YieldsList-from_copied (YieldsList-from_slice others cc))) (cc) (cc))
    (λ x b q k. search (rules, tests))
    ∙ find_found a.word (knows a.self) mnemonics

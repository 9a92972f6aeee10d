-- Of all that have a reply only one is named ERR (`err_is`).
use mathlib.Core.Path.{◌≡◌, ◌∙◌}
use mathlib.Core.Bool.{true, false}
use borrow.Author.Rules.{rules}
use Rattle.settings.proofs.Answerable.{error_word, err_is}
use Rattle.settings.proofs.mnemonic.Replying.is_err.Goals as goal

pub returns-in-OfQuery-Err : goal.returns-in-OfQuery-Err
returns-in-OfQuery-Err c = let e : true ≡ error_word c.args.self = search rules in e ∙ err_is c.args.self

pub returns-in_default : goal.returns-in_default
returns-in_default c = let e : false ≡ error_word c.args.self = search rules in e ∙ err_is c.args.self

pub returns-in_default-2 : goal.returns-in_default-2
returns-in_default-2 c = let e : false ≡ error_word c.args.self = search rules in e ∙ err_is c.args.self

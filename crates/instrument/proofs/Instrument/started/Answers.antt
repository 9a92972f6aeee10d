-- The settings are the saved set, there is no reading, and each switch is as its assignment starts.
use Rattle.std.proofs.Common.{◌≡◌, arith}
use Rattle.std.proofs.lemmas.Grind.{common_steps}
use Rattle.settings.specs.Models.{starts_on}
use Rattle.instrument.specs.Events.{each_four, function_at}
use Rattle.instrument.proofs.Instrument.started.Goals as goal

pub returns : goal.returns
returns c =
    let on : c.map.result ≡ each_four (λ i. starts_on c.args.model (function_at c.args.saved i).assignment) = grind (arith, common_steps) in
    rw (c.none.ensures, on)

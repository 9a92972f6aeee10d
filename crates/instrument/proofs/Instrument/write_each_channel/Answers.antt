-- The first channel, and behind a comma the second where there is one (`puts_two`, `puts_one`).
use mathlib.Core.Path.{ap, ◌∙◌}
use mathlib.Core.List.{[], ◌∷◌}
use native.Mathlib.Omega.{arith}
use Rattle.text.specs.Page.{Page, puts}
use Rattle.text.specs.Writing.{page_of}
use Rattle.instrument.proofs.Channels.{puts_two, puts_one}
use Rattle.instrument.proofs.Instrument.write_each_channel.Goals as goal

pub returns-then-channels-lt2 : goal.returns-then-channels-lt2
returns-then-channels-lt2 g c = λ text writes.
    let a = c.args in
    let n = c.channels in
    let first = writes _ _ _ _ c.write.ensures in
    record { same_output = first.same_output; written = first.written ∙ puts_one a.self.now.model text (page_of a.out.now) n.result n.ensures (omega arith) }

pub returns : goal.returns
returns g c = λ text writes.
    let a = c.args in
    let n = c.channels in
    let first = writes _ _ _ _ c.write.ensures in
    let comma = c.put.ensures in
    let second = writes _ _ _ _ c.write-2.ensures in
    let both = comma.written ∙ ap (λ (p : Page). puts p (44 ∷ [])) first.written in
    record {
      same_output = second.same_output ∙ (comma.same_output ∙ first.same_output);
      written = second.written ∙ ap (λ (p : Page). puts p (text 1)) both ∙ puts_two a.self.now.model text (page_of a.out.now) n.result n.ensures c.if-channels-lt2.false;
    }

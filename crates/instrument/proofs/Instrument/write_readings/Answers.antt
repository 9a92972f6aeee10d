-- Each channel's reading by the writer of one.
use Rattle.std.proofs.Common.{rules}
use Rattle.instrument.specs.Replies.{shown_at}
use Rattle.instrument.proofs.Instrument.write_readings.Goals as goal

pub returns : goal.returns
returns c =
    let s = c.args.self.now in
    c.write_each_channel.ensures (shown_at s.settings.unit s.readings) (λ out k nothing after h. search rules)

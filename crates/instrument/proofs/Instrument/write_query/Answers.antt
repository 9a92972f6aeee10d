-- Each channel's kind by the writer of one.
use Rattle.std.proofs.Common.{rules}
use Rattle.instrument.specs.Replies.{kind_at}
use Rattle.instrument.proofs.Instrument.write_query.Goals as goal

pub returns-in-Tid : goal.returns-in-Tid
returns-in-Tid c =
    let s = c.args.self.now in
    rw c.in-Tid.is (c.write_each_channel.ensures (kind_at s.model s.readings) (λ out k nothing after h. search rules))

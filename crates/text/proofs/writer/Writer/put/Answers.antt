-- One more byte where there is room for it.
use Rattle.std.proofs.Common.{refl, sym}
use Rattle.text.proofs.Pages.{put_more, put_full}
use Rattle.text.proofs.writer.Writer.put.Goals as goal

pub returns-then-self : goal.returns-then-self
returns-then-self c =
    let w = c.args.self.now in
    record { same_output = refl; written = sym (put_more w.bytes.now w.at c.args.b c.if-self.true) }

pub returns-else-self : goal.returns-else-self
returns-else-self c =
    let w = c.args.self.now in
    record { same_output = refl; written = sym (put_full w.bytes.now w.at c.args.b c.if-self.false) }

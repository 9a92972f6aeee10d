-- One digit is the whole number; of more the digits behind the leading zeros.
use Rattle.std.proofs.Common.{sym, ap, ◌∙◌}
use Rattle.text.specs.Page.{puts}
use Rattle.text.specs.Writing.{page_of}
use Rattle.text.proofs.Decimals.{whole_digit}
use Rattle.text.proofs.writer.Writer.whole.Goals as goal

pub returns-then-n-lt10 : goal.returns-then-n-lt10
returns-then-n-lt10 c =
    let a = c.args in
    let w = c.put.ensures in
    record { same_output = w.same_output; written = w.written ∙ ap (puts (page_of a.self.now)) (sym (whole_digit a.n c.if-n-lt10.true)) }

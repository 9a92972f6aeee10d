-- Behind what is written the digits that are left make what all of them make.
use Rattle.std.proofs.Common.{◌≡◌, min}
use Rattle.text.specs.Page.{puts}
use Rattle.text.specs.Writing.{page_of}
use Rattle.text.specs.Digits.{dig}
use Rattle.text.proofs.writer.Writer.padded.Given as goal

abbrev pub invariant-loop-k : goal.invariant-loop-k
invariant-loop-k l = record {
  same_output : l.self.bytes.ghost_name ≡ l.initial.self.bytes.ghost_name;
  left : puts (page_of l.self) (dig l.k l.n) ≡ puts (page_of l.initial.self) (dig (min l.width 10) l.n);
}

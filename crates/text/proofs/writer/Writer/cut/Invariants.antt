-- Behind what is written the bytes that are left make what all of them make.
use Rattle.std.proofs.Common.{◌≡◌, drop}
use Rattle.text.specs.Page.{puts}
use Rattle.text.specs.Writing.{page_of}
use Rattle.text.proofs.writer.Writer.cut.Given as goal

abbrev pub invariant-loop-b : goal.invariant-loop-b
invariant-loop-b l = record {
  same_output : l.self.bytes.ghost_name ≡ l.initial.self.bytes.ghost_name;
  left : puts (page_of l.self) (drop l.b-index l.s) ≡ puts (page_of l.initial.self) l.s;
}

-- The line of the stream is made once, since ticks change the port alone; the writer stands at the lent output.
use mathlib.Core.Path.{◌≡◌}
use Prim.Native.Nat.{◌≤◌}
use lib.ListN.{length, take}
use Rattle.instrument.specs.Replies.{stream_text}
use Rattle.tpg.proofs.Ticking.{Counting}
use Rattle.tpg.proofs.State.advance.Given as goal

abbrev pub invariant-loop : goal.invariant-loop
invariant-loop l = record {
  same_output : l.sent.bytes.ghost_name ≡ l.initial.sent.bytes.ghost_name;
  short : l.n ≤ 64;
  room : length l.line ≡ 64;
  line : take l.n l.line ≡ stream_text l.self.instrument;
  counting : Counting (record { instrument = l.self.instrument; port = l.initial.port }) l.count l.fn.out l.port l.sent.bytes.now l.counter l.sent.at;
}

-- The line of the stream is made once, since ticks change the port alone.
use mathlib.Core.Path.{refl, ap, sym, ◌∙◌}
use native.Mathlib.Nat.{min-eq_left}
use Prim.Native.Nat.{◌≤◌}
use native.Mathlib.Omega.{arith}
use lib.ListN.{length, length-take}
use borrow.Author.Rules.{rules}
use Rattle.text.specs.Page.{Page, puts}
use Rattle.text.specs.Writing.{page_of}
use Rattle.instrument.specs.Replies.{stream_text}
use Rattle.instrument.proofs.Lengths.{stream_length}
use Rattle.tpg.proofs.Laying.{copied, fronted}
use Rattle.tpg.proofs.Ticking.{start, due, idle, ended}
use Rattle.tpg.proofs.State.advance.Goals as goal
use Rattle.tpg.proofs.State.advance.Goals.{then-t, else-t}

pub loop-init : goal.loop-init
loop-init c =
    let k = c.stream_line-n in
    let a = c.args in
    let text = stream_text a.self.instrument in
    let short = stream_length a.self.instrument in
    let w = copied text _ k.new.line 0 k.result k.ensures (omega (arith, short)) in
    let e = c.new-sent.ensures.page in record {
      same_output = refl;
      short = omega (arith, short, w.0);
      room = search rules;
      line = fronted text _ k.new.line k.result k.ensures (omega (arith, short));
      counting = rw (ap (λ (p : Page). p.bytes) e, ap (λ (p : Page). p.at) e) (start a.self a.count a.out.now);
    }

pub slice_bounds-append-end : goal.slice_bounds-append-end
slice_bounds-append-end c =
    let l = c.loop in
    let k = c.stream_line-n in
    let low : k.result ≤ length k.new.line = omega (arith, l.invariant.short, l.invariant.room) in
    sym (length-take k.result k.new.line ∙ min-eq_left low)

pub loop-preserved : goal.loop-preserved
loop-preserved c =
    let l = c.loop in
    let i = l.invariant in
    let t = c.tick-t in
    elim c.if-t.branch [
      | then-t w ↦ rw w.sent-is (record {
        same_output = w.append.ensures.same_output ∙ i.same_output;
        short = i.short;
        room = i.room;
        line = i.line;
        counting = due i.counting c.requires t.result c.loop-test.true t.ensures w.if-t.true _ _ (w.append.ensures.written ∙ ap (puts (page_of l.sent)) i.line);
      })
      | else-t w ↦ rw w.sent-is (record {
        same_output = i.same_output;
        short = i.short;
        room = i.room;
        line = i.line;
        counting = idle i.counting c.requires t.result c.loop-test.true t.ensures w.if-t.false;
      })
    ]

pub returns : goal.returns
returns c =
    let e = ended c.loop.invariant.counting c.loop-test.false in
    (rw c.at.ensures at c.finished.ensures ∙ e.0, search rules)

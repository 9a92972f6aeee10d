-- What is left to take from here is what was left at the start, less what was taken.
use mathlib.Core.Path.{◌≡◌, refl, sym, ap, ◌∙◌}
use borrow.Author.Rules.{rules}
use Prim.Native.Nat.{◌-◌, ◌<◌}
use native.Mathlib.Omega.{arith}
use lib.ListN.{length}
use Rattle.text.specs.Page.{Page}
use Rattle.ports.specs.Hearing.{asked}
use Rattle.ports.proofs.Characters.{enq_heard, repeats_stays}
use Rattle.tpg.specs.Answers.{least_output}
use Rattle.tpg.specs.Steps.{event_text}
use Rattle.tpg.proofs.HostRun.{start, silent, answered, refused_stays, typed, farther, ended, length_kept, taken_full, taken_end}
use Rattle.tpg.proofs.State.run.Goals as goal
use Rattle.tpg.proofs.State.run.Goals.{then-repeats, else-repeats}

pub loop-taken-init : goal.loop-taken-init
loop-taken-init c =
    let a = c.args in
    let e = c.new-sent.ensures.page in record {
      same_output = refl;
      going = rw (ap (λ (p : Page). p.bytes) e, ap (λ (p : Page). p.at) e) (start a.self a.input.now a.out.now);
    }

pub returns-then-free-lt-LEAST_OUTPUT : goal.returns-then-free-lt-LEAST_OUTPUT
returns-then-free-lt-LEAST_OUTPUT c =
    let l = c.loop-taken in
    let g = l.invariant.going in
    let full = rw c.free.ensures at c.if-free-lt-LEAST_OUTPUT.true in
    let n : length c.args.out.now - l.sent.at < least_output = omega (arith, length_kept g, full) in
    let e = ended g (taken_full _ _ _ n) in
    (rw c.at.ensures at c.finished.ensures ∙ e.0, search rules)

pub loop-taken-smaller-then-is_typed : goal.loop-taken-smaller-then-is_typed
loop-taken-smaller-then-is_typed c =
    let h = farther c.loop-taken.invariant.going c.typed-typed.result c.typed-typed.ensures c.loop-taken-test.true (sym c.is_typed.ensures ∙ c.if-is_typed.true) in
    omega (arith, h, c.loop-taken-test.true)

pub loop-taken-preserved-then-is_typed : goal.loop-taken-preserved-then-is_typed
loop-taken-preserved-then-is_typed c =
    let free = rw c.free.ensures at c.if-free-lt-LEAST_OUTPUT.false in record {
      same_output = c.loop-taken.invariant.same_output;
      going = typed c.loop-taken.invariant.going c.typed-typed.result c.typed-typed.ensures free;
    }

pub loop-taken-smaller-in-5 : goal.loop-taken-smaller-in-5
loop-taken-smaller-in-5 c = omega (arith, c.loop-taken-test.true)

pub loop-taken-preserved-in-5 : goal.loop-taken-preserved-in-5
unfolding event_text
loop-taken-preserved-in-5 c =
    let free = rw c.free.ensures at c.if-free-lt-LEAST_OUTPUT.false in
    let port : c.if-repeats.port ≡ (asked c.settled-asking.result).port =
    elim c.if-repeats.branch [
      | then-repeats w ↦ w.port-is ∙ repeats_stays c.settled-asking.result (sym w.if-repeats.ensures)
      | else-repeats w ↦ w.port-is ∙ w.enquired-port.ensures
    ] in record {
      same_output = c.reply.ensures.same_output ∙ c.loop-taken.invariant.same_output;
      going = answered c.loop-taken.invariant.going _ c.loop-taken-test.true free
          (enq_heard _ _ _ _ _ _ c.in-5.is c.settled-asking.ensures c.enquiry.ensures port) _ _ _ _ refl refl c.reply.ensures.written;
    }

pub loop-taken-preserved-in-Silent : goal.loop-taken-preserved-in-Silent
loop-taken-preserved-in-Silent c =
    let free = rw c.free.ensures at c.if-free-lt-LEAST_OUTPUT.false in record {
      same_output = c.loop-taken.invariant.same_output;
      going = silent c.loop-taken.invariant.going c.byte-heard.result c.loop-taken-test.true free c.byte-heard.ensures c.in-Silent.is;
    }

pub loop-taken-preserved-then-is_ok : goal.loop-taken-preserved-then-is_ok
unfolding event_text
loop-taken-preserved-then-is_ok c =
    let free = rw c.free.ensures at c.if-free-lt-LEAST_OUTPUT.false in record {
      same_output = c.write_line_text.ensures.same_output ∙ c.loop-taken.invariant.same_output;
      going = answered c.loop-taken.invariant.going c.byte-heard.result c.loop-taken-test.true free c.byte-heard.ensures _ _ _ _
          c.in-Line.is c.applied-instrument.ensures c.write_line_text.ensures.written;
    }

pub loop-taken-preserved-else-is_ok : goal.loop-taken-preserved-else-is_ok
unfolding event_text
loop-taken-preserved-else-is_ok c =
    let free = rw c.free.ensures at c.if-free-lt-LEAST_OUTPUT.false in
    let stays = refused_stays c.loop-taken.instrument _ (sym c.is_ok.ensures.value ∙ c.if-is_ok.false) in record {
      same_output = c.write_line_text.ensures.same_output ∙ c.loop-taken.invariant.same_output;
      going = answered c.loop-taken.invariant.going c.byte-heard.result c.loop-taken-test.true free c.byte-heard.ensures _ _ _ _
          c.in-Line.is stays c.write_line_text.ensures.written;
    }

pub loop-taken-smaller : goal.loop-taken-smaller
loop-taken-smaller c = omega (arith, c.loop-taken-test.true)

pub loop-taken-preserved : goal.loop-taken-preserved
unfolding event_text
loop-taken-preserved c =
    let free = rw c.free.ensures at c.if-free-lt-LEAST_OUTPUT.false in record {
      same_output = c.reply-in-Reply.ensures.same_output ∙ c.loop-taken.invariant.same_output;
      going = answered c.loop-taken.invariant.going c.byte-heard.result c.loop-taken-test.true free c.byte-heard.ensures _ _ _ _
          c.in-Reply.is refl c.reply-in-Reply.ensures.written;
    }

pub returns : goal.returns
returns c =
    let l = c.loop-taken in
    let e = ended l.invariant.going (taken_end _ _ _ _ c.loop-taken-test.false) in
    (rw c.at-2.ensures at c.finished-2.ensures ∙ e.0, search rules)

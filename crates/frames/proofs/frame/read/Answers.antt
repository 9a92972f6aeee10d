-- The pairs read so far are the first bytes; the rest of the line is read from here.
use mathlib.Core.Path.{◌≡◌, sym, ◌∙◌}
use native.Mathlib.Omega.{arith}
use lib.ListN.{length}
use Rattle.std.proofs.lemmas.Bool.Decides.{nat_tests}
use Prim.Native.Nat.{◌%◌}
use Rattle.text.proofs.HexDigits.{odd_not_hex, value_below}
use Rattle.frames.proofs.HexReading.{step, spoilt_high, spoilt_low, ended, not_read, too_long}
use Rattle.frames.proofs.frame.read.Goals as goal
use Rattle.frames.proofs.frame.read.Goals.{then-not-is_empty-via-then-not-is_empty, then-not-is_empty-via-else-not-is_empty+then-pairs-gt-LONGEST_FRAME}

pub returns-then-not-is_empty : goal.returns-then-not-is_empty
returns-then-not-is_empty c =
    let line = c.args.line.now in
    elim c.then-not-is_empty.branch [
      | then-not-is_empty-via-then-not-is_empty w ↦ not_read line (odd_not_hex line (let x : length line % 2 ≡ 1 = grind (arith, nat_tests) in x))
      | then-not-is_empty-via-else-not-is_empty+then-pairs-gt-LONGEST_FRAME w ↦ too_long line (omega (arith, c.as_chunks.ensures.front_len, w.if-pairs-gt-LONGEST_FRAME.true))
    ]

pub overflow_mul-bytes : goal.overflow_mul-bytes
overflow_mul-bytes c = omega (arith, value_below _ _ (sym c.value_of.ensures ∙ c.in_ok-value_of.was))

pub overflow_add-bytes : goal.overflow_add-bytes
overflow_add-bytes c =
    omega (arith, value_below _ _ (sym c.value_of.ensures ∙ c.in_ok-value_of.was), value_below _ _ (sym c.value_of-in-loop-i.ensures ∙ c.in_ok-bytes.was))

pub loop-i-preserved : goal.loop-i-preserved
loop-i-preserved c =
    step c.loop-i.invariant (omega (arith, c.loop-i-test.true, c.as_chunks.ensures.front_len)) _ c.as_chunks.ensures.front _ _
    (sym c.value_of.ensures ∙ c.in_ok-value_of.was) (sym c.value_of-in-loop-i.ensures ∙ c.in_ok-bytes.was)

pub returns-in_err-value_of : goal.returns-in_err-value_of
returns-in_err-value_of c =
    rw c.from_residual.ensures (spoilt_high c.loop-i.invariant (omega (arith, c.loop-i-test.true, c.as_chunks.ensures.front_len)) _ c.as_chunks.ensures.front
    (sym c.value_of.ensures ∙ c.in_err-value_of.was))

pub returns-in_err-bytes : goal.returns-in_err-bytes
returns-in_err-bytes c =
    rw c.from_residual-in_err-bytes.ensures (spoilt_low c.loop-i.invariant (omega (arith, c.loop-i-test.true, c.as_chunks.ensures.front_len)) _ c.as_chunks.ensures.front
    (sym c.value_of-in-loop-i.ensures ∙ c.in_err-bytes.was))

pub returns : goal.returns
returns c =
    let r = c.loop-i.invariant in
    let e : length c.as_chunks.result.0.now ≡ c.loop-i.i = omega (arith, r.low, c.loop-i-test.false, c.as_chunks.ensures.front_len) in
    rw e (omega (arith, r.low, r.short), ended r (omega (arith, e, c.as_chunks.ensures.front_len)))

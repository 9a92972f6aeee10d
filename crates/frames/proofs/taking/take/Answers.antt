-- Each arm's pattern is the test of its form.
use Prim.Native.Nat.{ℕ, ◌≤◌, ◌<◌}
use mathlib.Core.List.{List}
use mathlib.Core.Path.{◌≡◌, refl, ap, ◌∙◌}
use native.Mathlib.Omega.{arith}
use Rattle.std.proofs.lemmas.Bool.Decides.{nat_tests}
use mir.Syntax.{w32}
use mir.Facts.{to_z-of_z}
use lib.ListN.{length, get_or, drop}
use Rattle.tpg.specs.Steps.{over}
use Rattle.tpg.specs.Calls.{cycle_call}
use Rattle.frames.specs.Frames.{no_frame, silent, host_frame, reading_frame, ticks_frame, fresh_frame, framed}
use Rattle.frames.proofs.Calling.{behind, told_call, host_told, ticks_told, cycle_told, reading_told}
use Rattle.frames.proofs.Forms.{handed_on, unsent, reading_unsent, fresh_unsent}
use Rattle.frames.proofs.taking.take.Goals as goal
use Rattle.frames.proofs.taking.take.Goals.{in-1, in-2, in-3, in-5}

pub returns-in-4 : goal.returns-in-4
unfolding framed
returns-in-4 c =
    let a = c.args in
    let form : framed a.state a.frame.now ≡ fresh_frame a.state (get_or a.frame.now 1 0) = grind (arith, nat_tests) in
    handed_on _ _ form _ _ _ (unsent _ _ a.out.now (fresh_unsent a.state _) c.take_fresh.ensures)

pub returns-in_default : goal.returns-in_default
unfolding framed reading_frame
returns-in_default c =
    let a = c.args in
    let form : framed a.state a.frame.now ≡ no_frame a.state = grind (arith, nat_tests) in
    handed_on _ _ form _ _ _ (unsent _ _ a.out.now refl c.no_frame.ensures)

pub returns : goal.returns
unfolding framed
returns c =
    let a = c.args in
    elim c.if-frame-lt2.branch [
      | in-1 w ↦
          let form : framed a.state a.frame.now ≡ host_frame a.state (drop 1 a.frame.now) = grind (arith, nat_tests) in
          let few : length (drop 1 a.frame.now) < 61 = rw (behind a.frame.now) at w.if-host-lt-LONGEST_FRAME.true in
          let h = host_told a.state (drop 1 a.frame.now) (length a.out.now) (omega (arith, few, c.requires)) (omega (arith, c.requires)) in
          let e = rw (behind a.frame.now) at w.host-told.ensures in
          handed_on _ _ form _ _ _ (c.frame_outcome.ensures ∙ ap told_call (w.told-is ∙ e.0) ∙ h.0, w.out-is ∙ e.1 ∙ ap (λ (x : List ℕ). over x a.out.now) h.1)
      | in-2 w ↦
          let form : framed a.state a.frame.now ≡ reading_frame a.state a.frame.now = grind (arith, nat_tests) in
          let plus_or_minus : get_or a.frame.now 4 0 ≤ 1 = grind (arith, nat_tests) in
          let m = w.mantissa_of-mantissa in
          let e = w.exponent_of in
          let told = c.frame_outcome.ensures ∙ ap told_call (w.told-is ∙ w.reading-told.ensures)
          ∙ reading_told a.state a.frame.now _ _ plus_or_minus (to_z-of_z {w = w32} (record { sfits = m.type_inv }) ∙ m.ensures) (to_z-of_z {w = w32} (record { sfits = e.type_inv }) ∙ e.ensures) in
          let u = unsent _ _ a.out.now (reading_unsent a.state a.frame.now) told in
          handed_on _ _ form _ _ _ (u.0, w.out-is ∙ u.1)
      | in-3 w ↦
          let form : framed a.state a.frame.now ≡ ticks_frame a.state (get_or a.frame.now 1 0) = grind (arith, nat_tests) in
          let h = ticks_told a.state (get_or a.frame.now 1 0) (length a.out.now) (omega (arith, c.requires, c.type_inv.frame 1)) in
          let e = w.ticks-told.ensures in
          handed_on _ _ form _ _ _ (c.frame_outcome.ensures ∙ ap told_call (w.told-is ∙ e.0) ∙ h.0, w.out-is ∙ e.1 ∙ ap (λ (x : List ℕ). over x a.out.now) h.1)
      | in-5 w ↦
          let form : framed a.state a.frame.now ≡ silent (cycle_call a.state) = grind (arith, nat_tests) in
          let u = unsent _ _ a.out.now refl (c.frame_outcome.ensures ∙ ap told_call (w.told-is ∙ w.power_cycle-told.ensures) ∙ cycle_told a.state) in
          handed_on _ _ form _ _ _ (u.0, w.out-is ∙ u.1)
    ]

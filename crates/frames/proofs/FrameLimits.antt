-- A frame keeps the limits of the state, so that every line of a run is answered in a box within them.
use Prim.Native.Nat.{ℕ}
use mathlib.Core.List.{List}
use lib.ListN.{get_or, drop}
use lib.Dec.{leb, eqb}
use Rattle.ground.proofs.Cases.{cond_cases}
use Rattle.tpg.specs.Answers.{number}
use Rattle.tpg.specs.States.{state_within, Sound}
use Rattle.tpg.specs.Calls.{fresh_call}
use Rattle.tpg.specs.declared.State.{State}
use Rattle.tpg.proofs.StateLimits.{after_sound, after_ticks_sound, fresh_call_sound, reading_sound, cycle_sound}
use Rattle.frames.specs.Frames.{Exchange, bytes_of, sending_frame, host_frame, reading_of, reading_frame, ticks_frame, model_number, fresh_frame, framed, line_reply}
use Rattle.frames.proofs.Forms.{framed_cases}

abbrev Keeps : Exchange → Type 0
Keeps r = Sound r.state

module _ (s : State) (k : Sound s) where
  sending_keeps : (next : State) (bytes : List ℕ) → Sound next → Keeps (sending_frame s next bytes)
  sending_keeps next bytes n = cond_cases Keeps (state_within s) _ _ (λ e. n) (λ e. k)

  reading_frame_keeps : (f : List ℕ) → Keeps (reading_frame s f)
  unfolding reading_frame
  reading_frame_keeps f = cond_cases Keeps (leb (get_or f 4 0) 1) _ _ (λ e. reading_sound s k (get_or f 1 0) (reading_of f)) (λ e. k)

  fresh_keeps : (b : ℕ) → Keeps (fresh_frame s b)
  unfolding fresh_frame
  fresh_keeps b = cond_cases Sound (eqb (number (fresh_call (model_number b) 0).answer) 0) _ _ (λ e. fresh_call_sound (model_number b) 0) (λ e. k)

  framed_keeps : (f : List ℕ) → Keeps (framed s f)
  unfolding host_frame ticks_frame
  framed_keeps f =
      framed_cases Keeps s f (λ h. sending_keeps _ _ (after_sound (drop 1 f) s k)) (reading_frame_keeps f) (sending_keeps _ _ (after_ticks_sound (get_or f 1 0) s k)) (fresh_keeps (get_or f 1 0))
      (cycle_sound s k) k

  pub reply_sound : (line : List ℕ) → Sound (line_reply s line).state
  reply_sound line = framed_keeps (bytes_of line)

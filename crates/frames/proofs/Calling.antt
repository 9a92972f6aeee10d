-- A frame's call, with room for all that it sends.
use Prim.Native.Nat.{ℕ, ◌*◌, ◌-◌, ◌≤◌}
use mathlib.Core.Path.{◌≡◌, refl, sym, ap, ◌∙◌}
use mathlib.Core.List.{List}
use mathlib.Core.Bool.{true, false}
use native.Mathlib.Omega.{arith}
use borrow.Author.Tests.{le-leb}
use lib.ListN.{length, get_or, take, drop, length-drop}
use lib.Seq.{take_all, take-length}
use lib.Dec.{eqb}
use lib.IntN.{ℤ}
use mathlib.Core.Logic.{◌⊎◌, inl, inr}
use mathlib.Mathlib.Data.Bool.Basic.{dichotomy}
use Rattle.std.specs.Prelude.{Option, Some, None}
use Rattle.ground.proofs.Cases.{cond_cases}
use Rattle.gauges.specs.declared.reading.Reading.{Reading}
use Rattle.settings.specs.Models.{model_of}
use Rattle.settings.specs.declared.model.Model.{Model}
use Rattle.instrument.specs.Limits.{gauge_within, serial_within}
use Rattle.tpg.specs.Answers.{number, done, least_output}
use Rattle.tpg.specs.States.{state_within}
use Rattle.tpg.specs.Steps.{after, said}
use Rattle.tpg.specs.Calls.{admits, turned_away, roomed, roomed_bytes, host_text, hosted, made, fresh_call, host_call, host_bytes, is_channel, reading_call, cycle_call, after_ticks, ticks_text, ticks_call, ticks_bytes}
use Rattle.tpg.specs.declared.State.{State}
use Rattle.tpg.specs.declared.answers.Answer.{Answer}
use Rattle.tpg.specs.declared.answers.Answer.TheVariants.{Accepted, BrokenState, NoModel, ShortOutput, NoChannel, BadReading}
use Rattle.tpg.specs.declared.answers.Outcome.{Outcome}
use Rattle.tpg.proofs.Counts.{all_taken}
use Rattle.frames.specs.Encoding.{exponent_of, mantissa_of}
use Rattle.frames.specs.Frames.{silent, sending_frame, host_frame, reading_of, reading_frame, ticks_frame, model_number, fresh_frame}
use Rattle.frames.specs.Walk.{frame_outcome}
use Rattle.frames.specs.declared.FrameOutcome.{FrameOutcome}

-- what stands behind the first byte
pub behind : (f : List ℕ) → take (length f - 1) (drop 1 f) ≡ drop 1 f
behind f = take_all (length f - 1) (drop 1 f) (omega (arith, length-drop 1 f))

-- ---- all host bytes of a frame are taken, where there is room for what they send

pub host_all : (s : State) (l : List ℕ) (room : ℕ) → least_output * length l ≤ room
    → (hosted s l room ≡ done (after s l) (length l) (length (said s l))) × (host_text s l room ≡ said s l)
unfolding hosted
host_all s l room h = rw (all_taken l s room h, take-length l) (refl, refl)

-- ---- a call with room for all that it sends

abbrev pub told_call : Outcome → FrameOutcome
told_call o = record { number = number o.answer; state = o.state; written = o.written }

pub told_roomed : (s next : State) (least room count : ℕ) (bytes : List ℕ) → least ≤ room
    → (told_call (roomed s least room (done next count (length bytes))) ≡ frame_outcome (sending_frame s next bytes)) × (roomed_bytes s least room bytes ≡ (sending_frame s next bytes).bytes)
unfolding roomed roomed_bytes admits turned_away
told_roomed s next least room count bytes h = go (dichotomy (state_within s))
  where
    go : (state_within s ≡ false) ⊎ (state_within s ≡ true)
        → (told_call (roomed s least room (done next count (length bytes))) ≡ frame_outcome (sending_frame s next bytes)) × (roomed_bytes s least room bytes ≡ (sending_frame s next bytes).bytes)
    go (inl e) = rw e (refl, refl)
    go (inr e) = rw (e, le-leb least room h) (refl, refl)

pub host_told : (s : State) (l : List ℕ) (room : ℕ) → least_output * length l ≤ room → least_output ≤ room
    → (told_call (host_call s l room) ≡ frame_outcome (host_frame s l)) × (host_bytes s l room ≡ (host_frame s l).bytes)
unfolding host_frame
host_told s l room all some =
    let h = host_all s l room all in
    rw (h.0, h.1) (told_roomed s (after s l) least_output room (length l) (said s l) some)

pub ticks_told : (s : State) (n room : ℕ) → least_output * n ≤ room
    → (told_call (ticks_call s n room) ≡ frame_outcome (ticks_frame s n)) × (ticks_bytes s n room ≡ (ticks_frame s n).bytes)
unfolding ticks_frame
ticks_told s n room all = told_roomed s (after_ticks s n) (least_output * n) room 0 (ticks_text s n) all

-- ---- a fresh box, or the one there was

abbrev Unwritten : Outcome → Type 0
Unwritten o = o.written ≡ 0

made_unwritten : (m : Option Model) (serial : ℕ) → Unwritten (made m serial)
made_unwritten (Some m) serial = cond_cases Unwritten (serial_within serial) _ _ (λ e. refl) (λ e. refl)
made_unwritten None serial = refl

refused : (a : Answer) → (a ≡ Accepted → ⊥) → eqb (number a) 0 ≡ false
refused Accepted n = absurd (n refl)
refused BrokenState n = refl
refused NoModel n = refl
refused ShortOutput n = refl
refused NoChannel n = refl
refused BadReading n = refl

module _ (s : State) (b : ℕ) (o : Outcome) (e : o ≡ fresh_call (model_number b) 0) where
  pub fresh_taken : o.answer ≡ Accepted → told_call o ≡ frame_outcome (fresh_frame s b)
  unfolding fresh_frame fresh_call
  fresh_taken a = rw (e, sym (ap (λ (x : Outcome). x.answer) e) ∙ a, made_unwritten (model_of (model_number b)) 0)

  pub fresh_kept : (o.answer ≡ Accepted → ⊥) → record { number = number o.answer; state = s; written = 0 } ≡ frame_outcome (fresh_frame s b)
  unfolding fresh_frame
  fresh_kept n = rw (← e, refused o.answer n)

-- ---- the calls that send nothing

quiet_told : (o : Outcome) → o.written ≡ 0 → told_call o ≡ frame_outcome (silent o)
quiet_told o e = rw e

pub cycle_told : (s : State) → told_call (cycle_call s) ≡ frame_outcome (silent (cycle_call s))
unfolding cycle_call
cycle_told s = quiet_told (cycle_call s) (cond_cases Unwritten (state_within s) _ _ (λ e. refl) (λ e. refl))

reading_unwritten : (s : State) (channel : ℕ) (r : Reading) → Unwritten (reading_call s channel r)
unfolding reading_call
reading_unwritten s channel r =
    cond_cases Unwritten (state_within s) _ _
    (λ e. cond_cases Unwritten (is_channel s.instrument.model channel) _ _ (λ c. cond_cases Unwritten (gauge_within s.instrument.model r) _ _ (λ w. refl) (λ w. refl)) (λ c. refl))
    (λ e. refl)

pub reading_told : (s : State) (f : List ℕ) (m e : ℤ) → get_or f 4 0 ≤ 1 → m ≡ mantissa_of (eqb (get_or f 4 0) 1) (get_or f 5 0) (get_or f 6 0) (get_or f 7 0)
    → e ≡ exponent_of (get_or f 8 0)
    → told_call (reading_call s (get_or f 1 0) (record { kind = get_or f 2 0; status = get_or f 3 0; value = record { mantissa = m; exponent = e } })) ≡ frame_outcome (reading_frame s f)
unfolding reading_frame
reading_told s f m e sign p q = rw (le-leb (get_or f 4 0) 1 sign, p, q) (quiet_told (reading_call s (get_or f 1 0) (reading_of f)) (reading_unwritten s (get_or f 1 0) (reading_of f)))

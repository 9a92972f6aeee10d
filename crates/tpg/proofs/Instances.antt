-- What the definitions give where docs/promises/ names a wrong answer.
use Rattle.std.specs.Prelude.{Option, Some, None, Ok, Err}
use Prim.Native.Nat.{ℕ, ◌+◌, ◌≤◌, ◌<◌}
use mathlib.Core.Path.{◌≡◌, refl, sym}
use mathlib.Core.List.{[], ◌∷◌, append-nil}
use mathlib.Core.Bool.{true, false, and-false}
use native.Mathlib.Omega.{arith}
use borrow.Author.Tests.{le-leb, lt-leb, lt-ltb, ne_eqb}
use lib.ListN.{length}
use Rattle.text.specs.Control.{ack, cr, cr_lf}
use Rattle.gauges.specs.declared.reading.Reading.{Reading}
use Rattle.settings.specs.Models.{model_of}
use Rattle.settings.specs.declared.model.Model.{Model}
use Rattle.settings.specs.declared.model.Model.TheVariants.{Tpg361}
use Rattle.settings.specs.declared.mnemonic.Mnemonic.{Mnemonic}
use Rattle.settings.specs.declared.rows.Row.{Row}
use Rattle.lines.specs.Judging.{judged}
use Rattle.ports.specs.Line.{held}
use Rattle.ports.specs.Hearing.{kind_of, by_kind, heard}
use Rattle.ports.specs.Limits.{port_within}
use Rattle.ports.specs.Stream.{ticked}
use Rattle.ports.specs.declared.Event.TheVariants.{Line}
use Rattle.instrument.specs.Limits.{instrument_within}
use Rattle.tpg.specs.Answers.{answer, handed, least_output}
use Rattle.tpg.specs.States.{state_within, fresh_box}
use Rattle.tpg.specs.Steps.{line_text, event_text, hearing, sent, said, taken}
use Rattle.tpg.specs.Calls.{made, fresh_call, admits, turned_away, roomed, hosted, host_call, counted, tick_call, reading_call, cycle_call}
use Rattle.tpg.specs.declared.State.{State}
use Rattle.tpg.specs.declared.answers.Outcome.{Outcome}
use Rattle.tpg.proofs.Deciding.{elsewhere}
use Rattle.lines.specs.declared.verdict.Order.TheVariants.{Asks, Writes}
use Rattle.lines.specs.Verdicts.{Verdict}

-- ---- a fresh box

pub fresh_made : (n serial : ℕ) (model : Model) → model_of n ≡ Some model → serial ≤ 99999999 → fresh_call n serial ≡ handed (answer 0) (fresh_box model serial)
unfolding fresh_call
fresh_made n serial model e h = rw (e, le-leb serial 99999999 h)

-- whatever the model that was asked for
pub serial_refused : (n serial : ℕ) → 99999999 < serial → fresh_call n serial ≡ handed (answer 2) (fresh_box Tpg361 0)
unfolding fresh_call
serial_refused n serial h = by (model_of n)
  where
    by : (m : Option Model) → made m serial ≡ handed (answer 2) (fresh_box Tpg361 0)
    by (Some model) = rw (lt-leb serial 99999999 h)
    by None = refl

module _ (s : State) where
  -- ---- the limits

  pub instrument_refused : instrument_within s.instrument ≡ false → state_within s ≡ false
  unfolding state_within
  instrument_refused e = rw e

  pub port_refused : port_within s.instrument.model s.port ≡ false → state_within s ≡ false
  unfolding state_within
  port_refused e = rw (e, and-false (instrument_within s.instrument))

  -- ---- a call with an output, by its state and its room

  module _ (least room : ℕ) (o : Outcome) where
    pub broken_state : state_within s ≡ false → roomed s least room o ≡ handed (answer 1) s
    unfolding roomed admits turned_away
    broken_state e = rw e

    pub short_output : state_within s ≡ true → room < least → roomed s least room o ≡ handed (answer 3) s
    unfolding roomed admits turned_away
    short_output e h = rw (e, lt-leb least room h)

    pub enough_output : state_within s ≡ true → least ≤ room → roomed s least room o ≡ o
    unfolding roomed admits
    enough_output e h = rw (e, le-leb least room h)

  -- ---- bytes of the host

  pub accepted_ack : (b : ℕ) (m : Mnemonic) (r : Row) → (hearing s b).event ≡ Line (Ok (Writes m r)) → sent s b ≡ ack ∷ cr_lf
  unfolding sent event_text
  accepted_ack b m r e = rw e

  -- ACK or NAK, and the end of the line
  cr_sends : length (sent s cr) ≡ 3
  unfolding sent event_text heard kind_of by_kind
  cr_sends = rw (and-false s.port.ended) (by (judged s.instrument.model (held s.port)))
    where
      by : (v : Verdict) → length (line_text v) ≡ 3
      by (Ok (Asks m)) = refl
      by (Ok (Writes m r)) = refl
      by (Err x) = refl

  -- a CR is one byte, and three are sent for it
  pub cr_counts : (room : ℕ) → state_within s ≡ true → least_output ≤ room → ((host_call s (cr ∷ []) room).taken ≡ 1) × ((host_call s (cr ∷ []) room).written ≡ 3)
  unfolding hosted taken said
  cr_counts room e h =
      rw (enough_output least_output room (hosted s (cr ∷ []) room) e h, le-leb least_output room h, append-nil (sent s cr)) (refl, cr_sends)

  -- ---- ticks, a reading, a power cycle

  pub tick_counted : (room : ℕ) → state_within s ≡ true → least_output ≤ room → s.port.ticks + 1 < s.port.interval
      → (tick_call s room).state.port.ticks ≡ s.port.ticks + 1
  unfolding counted ticked
  tick_counted room e h l =
      let n = s.port.interval in
      rw (enough_output least_output room (counted s) e h, ne_eqb n 0 (λ (z : n ≡ 0). omega arith), lt-ltb (s.port.ticks + 1) n l)

  pub channel_zero : (r : Reading) → state_within s ≡ true → reading_call s 0 r ≡ handed (answer 4) s
  channel_zero r e = sym (elsewhere s 0 r e refl)

  pub broken_cycle : state_within s ≡ false → cycle_call s ≡ handed (answer 1) s
  unfolding cycle_call
  broken_cycle e = rw e

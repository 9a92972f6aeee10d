-- Every call keeps the limits of the state, and a fresh box has them.
use Rattle.std.specs.Prelude.{Option, Some, None, Ok, Err}
use Prim.Native.Nat.{ℕ, zero, suc, ◌-◌, ◌*◌}
use mathlib.Core.Path.{◌≡◌, refl, sym, ◌∙◌, subst}
use mathlib.Core.List.{List, [], ◌∷◌}
use mathlib.Core.Bool.{true, and-eq-true_iff}
use native.Mathlib.Omega.{arith}
use Rattle.ground.proofs.Cases.{cond_cases, in_range_lem}
use Rattle.gauges.specs.declared.reading.Reading.{Reading}
use Rattle.settings.specs.Models.{model_of, channels}
use Rattle.settings.specs.Table.{defaults}
use Rattle.settings.specs.declared.model.Model.{Model}
use Rattle.settings.specs.declared.model.Model.TheVariants.{Tpg361}
use Rattle.settings.proofs.StoredLimits.{defaults_within, defaults_shaped}
use Rattle.ports.specs.Line.{held}
use Rattle.ports.specs.Limits.{port_within}
use Rattle.ports.specs.declared.Event.{Event}
use Rattle.ports.specs.declared.Event.TheVariants.{Silent, Line, Reply}
use Rattle.ports.proofs.PortLimits.{fresh_shaped, fresh_within, heard_line, heard_shaped, heard_within, ticked_shaped, ticked_within}
use Rattle.instrument.specs.Events.{measured, written, applied}
use Rattle.instrument.specs.Limits.{gauge_within, instrument_within, serial_within, InstrumentShaped}
use Rattle.instrument.specs.declared.Instrument.{Instrument}
use Rattle.instrument.proofs.InstrumentLimits.{applied_shaped, applied_within, measured_shaped, measured_within, instrument_parts, started_shaped, started_within}
use Rattle.tpg.specs.Answers.{answer, handed, least_output}
use Rattle.tpg.specs.States.{state_within, fresh_box, cycled, Sound}
use Rattle.tpg.specs.Steps.{acted, hearing, next, after}
use Rattle.tpg.specs.Calls.{made, fresh_call, admits, turned_away, roomed, taken_bytes, hosted, host_call, counted, tick_call, after_ticks, all_counted, ticks_call, is_channel, with_reading, reading_call, cycle_call}
use Rattle.tpg.specs.declared.State.{State}
use Rattle.tpg.specs.declared.answers.Outcome.{Outcome}
use Rattle.lines.specs.declared.verdict.Order.TheVariants.{Asks, Writes}
use Rattle.lines.specs.Verdicts.{Verdict}

parts : (s : State) → state_within s ≡ true → (instrument_within s.instrument ≡ true) × (port_within s.instrument.model s.port ≡ true)
unfolding state_within
parts s e = (and-eq-true_iff (instrument_within s.instrument) (port_within s.instrument.model s.port)).0 e

together : (s : State) → instrument_within s.instrument ≡ true → port_within s.instrument.model s.port ≡ true → state_within s ≡ true
unfolding state_within
together s a b = rw (a, b)

-- ---- what starts

module _ (model : Model) (serial : ℕ) (h : serial_within serial ≡ true) where
  pub fresh_sound : Sound (fresh_box model serial)
  fresh_sound = record {
    shaped = record { instrument = started_shaped model serial (defaults model) (defaults_shaped model); port = fresh_shaped model };
    within = together (fresh_box model serial) (started_within model serial (defaults model) h (defaults_within model)) (fresh_within model);
  }

-- ---- one byte, and a run of bytes

-- an event leaves the model, and the lengths of the arrays
pub heard_model : (s : Instrument) (v : Verdict) → (applied s v).model ≡ s.model
unfolding written
heard_model s (Ok (Asks m)) = refl
heard_model s (Ok (Writes m r)) = refl
heard_model s (Err x) = refl

acted_model : (s : Instrument) (e : Event) → (acted s e).model ≡ s.model
acted_model s Silent = refl
acted_model s (Line v) = heard_model s v
acted_model s (Reply m error) = refl

-- so do bytes
pub after_model : (bs : List ℕ) (s : State) → (after s bs).instrument.model ≡ s.instrument.model
unfolding after next
after_model [] s = refl
after_model (b ∷ bs) s = after_model bs (next s b) ∙ acted_model s.instrument (hearing s b).event

acted_shaped : (s : Instrument) (e : Event) → InstrumentShaped s → InstrumentShaped (acted s e)
acted_shaped s Silent w = w
acted_shaped s (Line v) w = applied_shaped s v w
acted_shaped s (Reply m error) w = w

module _ (s : State) (b : ℕ) (k : Sound s) where
  acted_within : (e : Event) → (hearing s b).event ≡ e → instrument_within (acted s.instrument e) ≡ true
  acted_within Silent q = (parts s k.within).0
  acted_within (Line v) q =
      subst (λ u. instrument_within (applied s.instrument u) ≡ true) (sym (heard_line s.instrument.model s.port b v q))
      (applied_within s.instrument (held s.port) k.shaped.instrument (parts s k.within).0)
  acted_within (Reply m error) q = (parts s k.within).0

  pub next_sound : Sound (next s b)
  unfolding next
  next_sound =
      let e = (hearing s b).event in
      record {
        shaped = record {
          instrument = acted_shaped s.instrument e k.shaped.instrument;
          port = heard_shaped s.instrument.model s.port b k.shaped.port;
        };
        within = together _ (acted_within e refl)
            (rw (acted_model s.instrument e) (heard_within s.instrument.model s.port b k.shaped.port (parts s k.within).1));
      }

pub after_sound : (bs : List ℕ) (s : State) → Sound s → Sound (after s bs)
unfolding after
after_sound [] s k = k
after_sound (b ∷ bs) s k = after_sound bs (next s b) (next_sound s b k)

-- ---- one tick, and a run of ticks

pub counted_sound : (s : State) → Sound s → Sound (counted s).state
unfolding counted
counted_sound s k = record {
  shaped = record { instrument = k.shaped.instrument; port = ticked_shaped s.port k.shaped.port };
  within = together _ (parts s k.within).0 (ticked_within s.instrument.model s.port (parts s k.within).1);
}

pub after_ticks_sound : (n : ℕ) (s : State) → Sound s → Sound (after_ticks s n)
unfolding after_ticks
after_ticks_sound zero s k = k
after_ticks_sound (suc n) s k = after_ticks_sound n (counted s).state (counted_sound s k)

-- ---- the calls

pub fresh_call_sound : (n serial : ℕ) → Sound (fresh_call n serial).state
unfolding fresh_call
fresh_call_sound n serial = by (model_of n)
  where
    by : (m : Option Model) → Sound (made m serial).state
    by (Some model) =
        cond_cases (λ o. Sound o.state) (serial_within serial) (handed (answer 0) (fresh_box model serial)) (handed (answer 2) (fresh_box Tpg361 0))
        (λ h. fresh_sound model serial h) (λ _. fresh_sound Tpg361 0 refl)
    by None = fresh_sound Tpg361 0 refl

module _ (s : State) (k : Sound s) where
  roomed_sound : (least room : ℕ) (o : Outcome) → Sound o.state → Sound (roomed s least room o).state
  unfolding roomed turned_away
  roomed_sound least room o h =
      cond_cases (λ o. Sound o.state) (admits s least room) o (turned_away s) (λ _. h)
      (λ _. cond_cases (λ o. Sound o.state) (state_within s) (handed (answer 3) s) (handed (answer 1) s) (λ _. k) (λ _. k))

  pub host_sound : (input : List ℕ) (room : ℕ) → Sound (host_call s input room).state
  unfolding hosted
  host_sound input room = roomed_sound least_output room (hosted s input room) (after_sound (taken_bytes s input room) s k)

  pub tick_sound : (room : ℕ) → Sound (tick_call s room).state
  tick_sound room = roomed_sound least_output room (counted s) (counted_sound s k)

  pub ticks_sound : (n room : ℕ) → Sound (ticks_call s n room).state
  ticks_sound n room = roomed_sound (least_output * n) room (all_counted s n) (after_ticks_sound n s k)

  read_sound : (channel : ℕ) (r : Reading) → is_channel s.instrument.model channel ≡ true → gauge_within s.instrument.model r ≡ true → Sound (with_reading s (channel - 1) r)
  unfolding measured
  read_sound channel r c w =
      let low = in_range_lem 1 (channels s.instrument.model) channel c in
      record {
        shaped = record { instrument = measured_shaped s.instrument (channel - 1) r k.shaped.instrument; port = k.shaped.port };
        within = together _
            (measured_within s.instrument (channel - 1) r k.shaped.instrument (parts s k.within).0 (omega arith) w) (parts s k.within).1;
      }

  pub reading_sound : (channel : ℕ) (r : Reading) → Sound (reading_call s channel r).state
  unfolding reading_call
  reading_sound channel r =
      let P : Outcome → Type 0 = λ o. Sound o.state in
      cond_cases P (state_within s) _ (handed (answer 1) s)
      (λ _. cond_cases P (is_channel s.instrument.model channel) _ (handed (answer 4) s)
      (λ c. cond_cases P (gauge_within s.instrument.model r) (handed (answer 0) (with_reading s (channel - 1) r)) (handed (answer 5) s) (λ w. read_sound channel r c w) (λ _. k)) (λ _. k)) (λ _. k)

  pub cycle_sound : Sound (cycle_call s).state
  unfolding cycle_call
  cycle_sound =
      let p = instrument_parts s.instrument (parts s k.within).0 in
      let model = s.instrument.model in
      cond_cases (λ o. Sound o.state) (state_within s) (handed (answer 0) (cycled s)) (handed (answer 1) s)
      (λ _. record {
        shaped = record { instrument = started_shaped model s.instrument.serial s.instrument.saved k.shaped.instrument.saved; port = fresh_shaped model };
        within = together (cycled s) (started_within model s.instrument.serial s.instrument.saved p.serial p.saved) (fresh_within model);
      })
      (λ _. k)

-- Demand 1: what every call answers, what a refusal leaves alone, and the limits that every state keeps (01, "Answer numbers of the calls").
use Rattle.std.specs.Prelude.{Option, Some, None, Ok, Err}
use Prim.Native.Nat.{ℕ, zero, suc, ◌-◌, ◌*◌}
use mathlib.Core.Path.{◌≡◌, refl, sym, ap, subst, ◌∙◌}
use mathlib.Core.List.{List, [], ◌∷◌}
use mathlib.Core.Bool.{Bool, true, false, cond, not, ◌&&◌, ◌||◌}
use mathlib.Core.Logic.{◌≢◌}
use lib.ListN.{length, drop}
use lib.Seq.{drop-append_seam}
use lib.Dec.{eqb, ltb}
use Rattle.ground.specs.Members.{Each}
use Rattle.ground.proofs.Cases.{never, cond_cases, at_most}
use Rattle.text.specs.Control.{cr}
use Rattle.gauges.specs.declared.reading.Reading.{Reading}
use Rattle.settings.specs.Models.{model_of}
use Rattle.settings.specs.declared.model.Model.{Model}
use Rattle.settings.specs.declared.model.Model.TheVariants.{Tpg361, Tpg362, Tpg262}
use Rattle.lines.specs.Judging.{judged}
use Rattle.ports.specs.Line.{held}
use Rattle.ports.specs.declared.Event.{Event}
use Rattle.ports.proofs.PortLimits.{heard_event}
use Rattle.instrument.specs.Events.{measured, applied}
use Rattle.instrument.specs.Limits.{gauge_within, serial_within}
use Rattle.instrument.specs.declared.Instrument.{Instrument}
use Rattle.tpg.specs.Answers.{number, answer, handed, least_output}
use Rattle.tpg.specs.States.{state_within, fresh_box, cycled, Sound}
use Rattle.tpg.specs.Steps.{line_text, event_text, acted, next, sent, after, over}
use Rattle.tpg.specs.Calls.{made, fresh_call, admits, turned_away, roomed, roomed_bytes, byte_taken, taken_bytes, hosted, host_text, counted, tick_text, after_ticks, ticks_text, all_counted, is_channel, with_reading, reading_call, cycle_call}
use Rattle.tpg.specs.declared.State.{State}
use Rattle.tpg.specs.declared.answers.Outcome.{Outcome}
use Rattle.tpg.proofs.Deciding.{byte_hosted}
use Rattle.tpg.proofs.Refusals.{roomed_back, reading_back, cycle_back, untouched}
use Rattle.tpg.proofs.StateLimits.{cycle_sound, fresh_call_sound, fresh_sound, host_sound, reading_sound, tick_sound, ticks_sound}
use Rattle.tpg.proofs.StateLimits.{after_model}
use Rattle.demands.specs.Calls.{Call, byte, host, reading, tick, ticks, cycle, outcome, call_bytes, Refusal, refuses, lent, refusals, fresh_refusals, first_given, after_calls}
use Rattle.demands.specs.Wire.{nak_line, by_cr, ended}
use Rattle.demands.specs.Sheets.{Boxes}
use Rattle.lines.specs.declared.verdict.Order.TheVariants.{Asks, Writes}
use Rattle.lines.specs.Verdicts.{Verdict}

-- ---- the table

-- one number is at most another where that one is not below it
-- the number and the count of a call are those of its rows and of the bytes that it sends
abbrev Tabled : Outcome → List Refusal → List ℕ → Type 0
Tabled o rows sent = (number o.answer ≡ first_given rows) × (o.written ≡ length sent)

module _ (s : State) where
  roomed_tabled : (least room : ℕ) (o : Outcome) (text : List ℕ) → o.answer ≡ answer 0 → o.written ≡ length text
      → Tabled (roomed s least room o) (lent s least room) (roomed_bytes s least room text)
  unfolding roomed roomed_bytes admits turned_away
  roomed_tabled least room o text e count = rw (at_most least room) (by (state_within s) (ltb room least))
    where
      by : (within short : Bool)
          → Tabled (cond (within && not short) o (cond within (handed (answer 3) s) (handed (answer 1) s))) (refuses 1 (not within) ∷ refuses 3 short ∷ [])
          (cond (within && not short) text [])
      by false short = (refl, refl)
      by true true = (refl, refl)
      by true false = (ap number e, count)

  reading_tabled : (channel : ℕ) (r : Reading) → Tabled (reading_call s channel r) (refusals s (reading channel r)) []
  unfolding reading_call
  reading_tabled channel r = by (state_within s) (is_channel s.instrument.model channel) (gauge_within s.instrument.model r)
    where
      by : (a b c : Bool)
          → Tabled (cond a (cond b (cond c (handed (answer 0) (with_reading s (channel - 1) r)) (handed (answer 5) s)) (handed (answer 4) s)) (handed (answer 1) s))
          (refuses 1 (not a) ∷ refuses 4 (not b) ∷ refuses 5 (not c) ∷ []) []
      by false b c = (refl, refl)
      by true false c = (refl, refl)
      by true true false = (refl, refl)
      by true true true = (refl, refl)

  cycle_tabled : Tabled (cycle_call s) (refusals s cycle) []
  unfolding cycle_call
  cycle_tabled = by (state_within s)
    where
      by : (a : Bool) → Tabled (cond a (handed (answer 0) (cycled s)) (handed (answer 1) s)) (refuses 1 (not a) ∷ []) []
      by false = (refl, refl)
      by true = (refl, refl)

  in_table : (c : Call) → Tabled (outcome s c) (refusals s c) (call_bytes s c)
  unfolding byte_taken hosted counted
  in_table (byte b room) = roomed_tabled least_output room (byte_taken s b) (sent s b) refl refl
  in_table (host input room) = roomed_tabled least_output room (hosted s input room) (host_text s input room) refl refl
  in_table (reading channel r) = reading_tabled channel r
  in_table (tick room) = roomed_tabled least_output room (counted s) (tick_text s) refl refl
  in_table (ticks n room) = roomed_tabled (least_output * n) room (all_counted s n) (ticks_text s n) refl refl
  in_table cycle = cycle_tabled

-- every call answers with the number of the table, "Tested in the order 1 to 5"
pub table_holds : (s : State) (c : Call) → number (outcome s c).answer ≡ first_given (refusals s c)
table_holds s c = (in_table s c).0

made_number : (model : Model) (serial : ℕ) → number (made (Some model) serial).answer ≡ cond (ltb 99999999 serial) 2 0
made_number model serial = rw (at_most serial 99999999) (by (ltb 99999999 serial))
  where
    by : (above : Bool) → number (cond (not above) (handed (answer 0) (fresh_box model serial)) (handed (answer 2) (fresh_box Tpg361 0))).answer ≡ cond above 2 0
    by true = refl
    by false = refl

-- and so does the call that makes a box
pub fresh_holds : (n serial : ℕ) → number (fresh_call n serial).answer ≡ first_given (fresh_refusals n serial)
unfolding fresh_call
fresh_holds n serial = by (eqb n 361) (eqb n 362) (eqb n 262)
  where
    by : (a b c : Bool)
        → number (made (cond a (Some Tpg361) (cond b (Some Tpg362) (cond c (Some Tpg262) None))) serial).answer
        ≡ first_given (refuses 2 (not (a || b || c) || ltb 99999999 serial) ∷ [])
    by true b c = made_number Tpg361 serial
    by false true c = made_number Tpg362 serial
    by false false true = made_number Tpg262 serial
    by false false false = refl

-- where it is refused, the box is "a fresh 361, serial 0"
pub fresh_refused : (n serial : ℕ) → number (fresh_call n serial).answer ≢ 0 → fresh_call n serial ≡ handed (answer 2) (fresh_box Tpg361 0)
unfolding fresh_call
fresh_refused n serial = by (model_of n)
  where
    by : (m : Option Model) → number (made m serial).answer ≢ 0 → made m serial ≡ handed (answer 2) (fresh_box Tpg361 0)
    by (Some model) =
        cond_cases (λ (o : Outcome). number o.answer ≢ 0 → o ≡ handed (answer 2) (fresh_box Tpg361 0)) (serial_within serial) _ _
        (λ _ given. absurd (given refl)) (λ _ _. refl)
    by None = λ _. refl

-- ---- what a refused call leaves alone, and what an accepted one writes

-- a refused call hands the state back, and sends nothing
back : (s : State) (c : Call) → number (outcome s c).answer ≢ 0 → (outcome s c ≡ handed (outcome s c).answer s) × (call_bytes s c ≡ [])
unfolding byte_taken hosted counted
back s (byte b room) = roomed_back s least_output room (byte_taken s b) (sent s b) refl
back s (host input room) = roomed_back s least_output room (hosted s input room) (host_text s input room) refl
back s (reading channel r) = λ given. (reading_back s channel r given, refl)
back s (tick room) = roomed_back s least_output room (counted s) (tick_text s) refl
back s (ticks n room) = roomed_back s (least_output * n) room (all_counted s n) (ticks_text s n) refl
back s cycle = λ given. (cycle_back s given, refl)

-- "that state, counts 0", and "A refusal writes nothing into the output"
pub call_refused : (s : State) (c : Call) (out : List ℕ) → number (outcome s c).answer ≢ 0
    → (outcome s c ≡ handed (outcome s c).answer s) × (over (call_bytes s c) out ≡ out)
call_refused s c out given = let b = back s c given in (b.0, rw b.1 (untouched out))

-- the bytes that a call counts as written are those that it sends
pub call_writes : (s : State) (c : Call) → (outcome s c).written ≡ length (call_bytes s c)
call_writes s c = (in_table s c).1

-- "an accepted call writes only the bytes it counts": behind them the output is as it was
pub call_beyond : (s : State) (c : Call) (out : List ℕ) → drop (outcome s c).written (over (call_bytes s c) out) ≡ drop (outcome s c).written out
unfolding over
call_beyond s c out = rw (call_writes s c) (drop-append_seam (call_bytes s c) (drop (length (call_bytes s c)) out))

-- ---- what a refused line leaves alone

-- a line that is answered NAK changes nothing
nak_keeps : (s : Instrument) (v : Verdict) → line_text v ≡ nak_line → applied s v ≡ s
nak_keeps s (Ok (Asks m)) e = refl
nak_keeps s (Ok (Writes m r)) e = never (cc)
nak_keeps s (Err x) e = refl

-- every byte but the CR of an accepted line leaves settings, saved set, readings and switches as they were
pub byte_keeps : (s : State) (b : ℕ) → (b ≡ cr → sent s b ≡ nak_line) → (next s b).instrument ≡ s.instrument
unfolding next sent event_text
byte_keeps s b =
    heard_event (λ (e : Event). (b ≡ cr → event_text s.instrument e ≡ nak_line) → acted s.instrument e ≡ s.instrument) s.instrument.model s.port b
    (λ _. refl) (λ by_cr refused. nak_keeps s.instrument (judged s.instrument.model (held s.port)) (refused by_cr)) (λ _. refl) (λ m _ _. refl)

-- "A refused line leaves settings, saved set and readings as they were", over all its bytes
pub refused_line : (s : State) (l : List ℕ) → Each (λ b. b ≢ cr) l → sent (after s l) cr ≡ nak_line → (after s (ended by_cr l)).instrument ≡ s.instrument
unfolding after
refused_line s [] others refused = byte_keeps s cr (λ _. refused)
refused_line s (b ∷ bs) others refused = refused_line (next s b) bs others.1 refused ∙ byte_keeps s b (λ by_cr. absurd (others.0 by_cr))

-- ---- the limits

-- every call keeps the limits of the state
pub call_sound : (s : State) → Sound s → (c : Call) → Sound (outcome s c).state
call_sound s k (byte b room) = subst Sound (ap (λ (o : Outcome). o.state) (byte_hosted s b room).0) (host_sound s k (b ∷ []) room)
call_sound s k (host input room) = host_sound s k input room
call_sound s k (reading channel r) = reading_sound s k channel r
call_sound s k (tick room) = tick_sound s k room
call_sound s k (ticks n room) = ticks_sound s k n room
call_sound s k cycle = cycle_sound s k

calls_sound : (cs : List Call) (s : State) → Sound s → Sound (after_calls s cs)
calls_sound [] s k = k
calls_sound (c ∷ cs) s k = calls_sound cs (outcome s c).state (call_sound s k c)

-- every state that calls can bring about from a fresh box is within the limits
pub history_sound : (n serial : ℕ) (cs : List Call) → Sound (after_calls (fresh_call n serial).state cs)
history_sound n serial cs = calls_sound cs (fresh_call n serial).state (fresh_call_sound n serial)

-- ---- the model

module _ (s : State) where
  abbrev SameModel : Outcome → Type 0
  SameModel o = o.state.instrument.model ≡ s.instrument.model

  roomed_model : (least room : ℕ) (o : Outcome) → SameModel o → SameModel (roomed s least room o)
  unfolding roomed turned_away
  roomed_model least room o same =
      cond_cases SameModel (admits s least room) o (turned_away s) (λ _. same) (λ _. cond_cases SameModel (state_within s) (handed (answer 3) s) (handed (answer 1) s) (λ _. refl) (λ _. refl))

  -- a reading, refused or not, leaves the port and the model alone
  pub reading_keeps : (channel : ℕ) (r : Reading) → ((reading_call s channel r).state.port ≡ s.port) × SameModel (reading_call s channel r)
  unfolding reading_call measured
  reading_keeps channel r = by (state_within s) (is_channel s.instrument.model channel) (gauge_within s.instrument.model r)
    where
      by : (a b c : Bool) → let o = cond a (cond b (cond c (handed (answer 0) (with_reading s (channel - 1) r)) (handed (answer 5) s)) (handed (answer 4) s)) (handed (answer 1) s) in
          (o.state.port ≡ s.port) × SameModel o
      by false b c = (refl, refl)
      by true false c = (refl, refl)
      by true true false = (refl, refl)
      by true true true = (refl, refl)

ticks_model : (n : ℕ) (s : State) → (after_ticks s n).instrument.model ≡ s.instrument.model
unfolding after_ticks counted
ticks_model zero s = refl
ticks_model (suc n) s = ticks_model n (counted s).state

call_model : (s : State) (c : Call) → (outcome s c).state.instrument.model ≡ s.instrument.model
unfolding byte_taken hosted counted cycle_call after
call_model s (byte b room) = roomed_model s least_output room (byte_taken s b) (after_model (b ∷ []) s)
call_model s (host input room) = roomed_model s least_output room (hosted s input room) (after_model (taken_bytes s input room) s)
call_model s (reading channel r) = (reading_keeps s channel r).1
call_model s (tick room) = roomed_model s least_output room (counted s) refl
call_model s (ticks n room) = roomed_model s (least_output * n) room (all_counted s n) (ticks_model n s)
call_model s cycle = cond_cases (SameModel s) (state_within s) (handed (answer 0) (cycled s)) (handed (answer 1) s) (λ _. refl) (λ _. refl)

calls_model : (cs : List Call) (s : State) → (after_calls s cs).instrument.model ≡ s.instrument.model
calls_model [] s = refl
calls_model (c ∷ cs) s = calls_model cs (outcome s c).state ∙ call_model s c

-- "two boxes of one model, each with any history"
pub any_history : (model : Model) (m n : ℕ) → serial_within m ≡ true → serial_within n ≡ true → (cs ds : List Call)
    → Boxes (after_calls (fresh_box model m) cs) (after_calls (fresh_box model n) ds)
any_history model m n p q cs ds =
    record {
      first = calls_sound cs (fresh_box model m) (fresh_sound model m p);
      second = calls_sound ds (fresh_box model n) (fresh_sound model n q);
      model = calls_model cs (fresh_box model m) ∙ sym (calls_model ds (fresh_box model n));
    }

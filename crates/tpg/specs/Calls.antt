-- The calls (01, "What the box answers to" and "Answer numbers of the calls"; 02, W-201): "Tested in the order 1 to 5."
use Rattle.std.specs.Prelude.{ℕ, zero, suc, ◌-◌, ◌*◌, List, [], ◌++◌, Bool, cond, ◌&&◌, length, take, leb, Option, Some, None}
use Rattle.ground.specs.Ranges.{in_range}
use Rattle.gauges.specs.declared.reading.Reading.{Reading}
use Rattle.settings.specs.Models.{model_of, channels}
use Rattle.settings.specs.declared.model.Model.{Model}
use Rattle.settings.specs.declared.model.Model.TheVariants.{Tpg361}
use Rattle.ports.specs.Stream.{ticked}
use Rattle.instrument.specs.Events.{measured}
use Rattle.instrument.specs.Limits.{gauge_within, serial_within}
use Rattle.instrument.specs.Replies.{stream_text}
use Rattle.instrument.specs.declared.Instrument.{Instrument}
use Rattle.tpg.specs.Answers.{answer, handed, done, least_output}
use Rattle.tpg.specs.States.{state_within, fresh_box, cycled}
use Rattle.tpg.specs.Steps.{next, sent, after, said, taken}
use Rattle.tpg.specs.declared.State.{State}
use Rattle.tpg.specs.declared.answers.Outcome.{Outcome}

-- "model not 361 or 362, or serial above 99999999": "a fresh 361, serial 0"
abbrev pub made : Option Model → ℕ → Outcome
made (Some model) serial = cond (serial_within serial) (handed (answer 0) (fresh_box model serial)) (handed (answer 2) (fresh_box Tpg361 0))
made None serial = handed (answer 2) (fresh_box Tpg361 0)

-- a fresh box from the model's number and the serial number
unfoldable pub fresh_call : ℕ → ℕ → Outcome
fresh_call number serial = made (model_of number) serial

-- the state is within its limits, and the output not shorter than the call asks for: "output shorter than 64 bytes"
unfoldable pub admits : State → ℕ → ℕ → Bool
admits s least room = state_within s && leb least room

-- "the state handed in breaks a limit": 1; where it breaks none, the output is too short: 3
unfoldable pub turned_away : State → Outcome
turned_away s = cond (state_within s) (handed (answer 3) s) (handed (answer 1) s)

-- a call with an output: what it answers where it is admitted, or the refusal
unfoldable pub roomed : State → ℕ → ℕ → Outcome → Outcome
roomed s least room accepted = cond (admits s least room) accepted (turned_away s)

-- what such a call sends: a refusal sends nothing
unfoldable pub roomed_bytes : State → ℕ → ℕ → List ℕ → List ℕ
roomed_bytes s least room bytes = cond (admits s least room) bytes []

-- one byte taken: "values handed in and handed back"
unfoldable pub byte_taken : State → ℕ → Outcome
byte_taken s b = done (next s b) 1 (length (sent s b))

-- the call that takes one byte of the host
abbrev pub byte_call : State → ℕ → ℕ → Outcome
byte_call s b room = roomed s least_output room (byte_taken s b)

-- and what it sends
abbrev pub byte_bytes : State → ℕ → ℕ → List ℕ
byte_bytes s b room = roomed_bytes s least_output room (sent s b)

-- the host's bytes that are taken
abbrev pub taken_bytes : State → List ℕ → ℕ → List ℕ
taken_bytes s input room = take (taken s input room) input

-- all that is sent for them
abbrev pub host_text : State → List ℕ → ℕ → List ℕ
host_text s input room = said s (taken_bytes s input room)

-- "answers how many were taken and written"
unfoldable pub hosted : State → List ℕ → ℕ → Outcome
hosted s input room = done (after s (taken_bytes s input room)) (taken s input room) (length (host_text s input room))

-- the call that takes host bytes
abbrev pub host_call : State → List ℕ → ℕ → Outcome
host_call s input room = roomed s least_output room (hosted s input room)

-- and what it sends
abbrev pub host_bytes : State → List ℕ → ℕ → List ℕ
host_bytes s input room = roomed_bytes s least_output room (host_text s input room)

-- a line of the stream, where one is due
abbrev pub due_text : Instrument → Bool → List ℕ
due_text s due = cond due (stream_text s) []

-- what one tick sends
unfoldable pub tick_text : State → List ℕ
tick_text s = due_text s.instrument (ticked s.port).due

-- one tick counted
unfoldable pub counted : State → Outcome
counted s = done (record { instrument = s.instrument; port = (ticked s.port).port }) 0 (length (tick_text s))

-- the call that takes a tick
abbrev pub tick_call : State → ℕ → Outcome
tick_call s room = roomed s least_output room (counted s)

-- and what it sends
abbrev pub tick_bytes : State → ℕ → List ℕ
tick_bytes s room = roomed_bytes s least_output room (tick_text s)

-- the state after ticks, "one tick of 100 ms" after the other
unfoldable pub after_ticks : State → ℕ → State
after_ticks s zero = s
after_ticks s (suc n) = after_ticks (counted s).state n

-- all that they send: "COM, 0, 1 or 2 streams every 1, 10 or 600 ticks"
unfoldable pub ticks_text : State → ℕ → List ℕ
ticks_text s zero = []
ticks_text s (suc n) = tick_text s ++ ticks_text (counted s).state n

-- so many ticks counted: "new state, counts, bytes written"
abbrev pub all_counted : State → ℕ → Outcome
all_counted s n = done (after_ticks s n) 0 (length (ticks_text s n))

-- the call that takes several ticks: "output shorter than 64 bytes" for each of them is refused
abbrev pub ticks_call : State → ℕ → ℕ → Outcome
ticks_call s n room = roomed s (least_output * n) room (all_counted s n)

-- and what it sends
abbrev pub ticks_bytes : State → ℕ → ℕ → List ℕ
ticks_bytes s n room = roomed_bytes s (least_output * n) room (ticks_text s n)

-- a channel of the model, counted from 1
abbrev pub is_channel : Model → ℕ → Bool
is_channel model channel = in_range 1 (channels model) channel

-- a reading of a channel, counted from 0
abbrev pub with_reading : State → ℕ → Reading → State
with_reading s k r = record { instrument = measured s.instrument k r; port = s.port }

-- "the state handed in breaks a limit": 1; "channel not on the model": 4; "reading outside its limits": 5
unfoldable pub reading_call : State → ℕ → Reading → Outcome
reading_call s channel r =
    cond (state_within s)
    (cond (is_channel s.instrument.model channel)
    (cond (gauge_within s.instrument.model r) (handed (answer 0) (with_reading s (channel - 1) r)) (handed (answer 5) s))
    (handed (answer 4) s))
    (handed (answer 1) s)

-- a power cycle
unfoldable pub cycle_call : State → Outcome
cycle_call s = cond (state_within s) (handed (answer 0) (cycled s)) (handed (answer 1) s)

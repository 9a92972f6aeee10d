-- The calls on a box and the table of their answers (01, "Answer numbers of the calls"; 02, W-201).
use Rattle.std.specs.Prelude.{ℕ, ◌*◌, List, [], ◌∷◌, Bool, cond, not, ◌||◌, eqb, ltb}
use Rattle.gauges.specs.declared.reading.Reading.{Reading}
use Rattle.instrument.specs.Limits.{gauge_within}
use Rattle.tpg.specs.Answers.{least_output}
use Rattle.tpg.specs.States.{state_within}
use Rattle.tpg.specs.Calls.{byte_call, byte_bytes, host_call, host_bytes, tick_call, tick_bytes, ticks_call, ticks_bytes, is_channel, reading_call, cycle_call}
use Rattle.tpg.specs.declared.State.{State}
use Rattle.tpg.specs.declared.answers.Outcome.{Outcome}

-- "take host bytes, take a gauge reading, take one tick of 100 ms, power cycle", and one byte or several ticks; where an output is lent, its length
-- comes last
pub data Call : Type 0 where
  byte : ℕ → ℕ → Call
  host : List ℕ → ℕ → Call
  reading : ℕ → Reading → Call
  tick : ℕ → Call
  ticks : ℕ → ℕ → Call
  cycle : Call

-- what the contract of the call promises
abbrev pub outcome : State → Call → Outcome
outcome s (byte b room) = byte_call s b room
outcome s (host input room) = host_call s input room
outcome s (reading channel r) = reading_call s channel r
outcome s (tick room) = tick_call s room
outcome s (ticks n room) = ticks_call s n room
outcome s cycle = cycle_call s

-- and the bytes that it sends
abbrev pub call_bytes : State → Call → List ℕ
call_bytes s (byte b room) = byte_bytes s b room
call_bytes s (host input room) = host_bytes s input room
call_bytes s (reading channel r) = []
call_bytes s (tick room) = tick_bytes s room
call_bytes s (ticks n room) = ticks_bytes s n room
call_bytes s cycle = []

-- a row of the table: its number, and whether what stands under "Given when" is so
pub record Refusal : Type 0 where
  pub number : ℕ
  pub given : Bool

abbrev pub refuses : ℕ → Bool → Refusal
refuses number given = record { number = number; given = given }

-- "the state handed in breaks a limit below", "output shorter than 64 bytes": the rows of a call with an output, and of how much it asks for
abbrev pub lent : State → ℕ → ℕ → List Refusal
lent s least room = refuses 1 (not (state_within s)) ∷ refuses 3 (ltb room least) ∷ []

-- of every call; "channel not on the model", "reading outside its limits"
abbrev pub refusals : State → Call → List Refusal
refusals s (byte b room) = lent s least_output room
refusals s (host input room) = lent s least_output room
refusals s (reading channel r) =
    refuses 1 (not (state_within s)) ∷ refuses 4 (not (is_channel s.instrument.model channel)) ∷ refuses 5 (not (gauge_within s.instrument.model r)) ∷ []
refusals s (tick room) = lent s least_output room
refusals s (ticks n room) = lent s (least_output * n) room
refusals s cycle = refuses 1 (not (state_within s)) ∷ []

-- the call that makes a box: "model not 361 or 362, or serial above 99999999"; W-201: "answer 2 now allows 262"
abbrev pub fresh_refusals : ℕ → ℕ → List Refusal
fresh_refusals model serial = refuses 2 (not (eqb model 361 || eqb model 362 || eqb model 262) || ltb 99999999 serial) ∷ []

-- "Tested in the order 1 to 5": the first that is given, and 0 "otherwise"
abbrev pub first_given : List Refusal → ℕ
first_given [] = 0
first_given (r ∷ rs) = cond r.given r.number (first_given rs)

-- the state after calls, one after the other
abbrev pub after_calls : State → List Call → State
after_calls s [] = s
after_calls s (c ∷ cs) = after_calls (outcome s c).state cs

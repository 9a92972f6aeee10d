-- The stream (01, "Readings, switching, streaming": "COM, 0, 1 or 2 streams every 1, 10 or 600 ticks").
use Rattle.std.specs.Prelude.{ℕ, ◌+◌, ◌-◌, ◌/◌, ◌≡◌, cond, eqb, replicate}
use mathlib.Core.List.{List, [], ◌∷◌, flat_map}
use Rattle.gauges.specs.declared.reading.Reading.{Reading}
use Rattle.instrument.specs.Replies.{stream_text}
use Rattle.tpg.specs.States.{Sound}
use Rattle.tpg.specs.Calls.{tick_text, counted, ticks_text, reading_call}
use Rattle.tpg.specs.declared.State.{State}

-- how many whole intervals end within n ticks: "The first line comes one whole interval later."; none while the stream is stopped
abbrev pub passed : State → ℕ → ℕ
passed s n = cond (eqb s.port.interval 0) 0 ((s.port.ticks + n) / s.port.interval)

-- the line of the readings as they are, so many times
abbrev pub stream_lines : State → ℕ → List ℕ
stream_lines s k = flat_map (λ (line : List ℕ). line) (replicate k (stream_text s.instrument))

-- in n ticks the line is sent as often as whole intervals pass
abbrev pub TicksStream : Type 0
TicksStream = (s : State) → Sound s → (n : ℕ) → ticks_text s n ≡ stream_lines s (passed s n)

-- what can come without a host byte: ticks, and readings between them, refused ones too
pub data Quiet : Type 0 where
  tick : Quiet
  reading : ℕ → Reading → Quiet

abbrev pub quietly : State → Quiet → State
quietly s tick = (counted s).state
quietly s (reading channel r) = (reading_call s channel r).state

-- the box after them, and how many ticks they are
abbrev pub after_quiet : State → List Quiet → State
after_quiet s [] = s
after_quiet s (q ∷ qs) = after_quiet (quietly s q) qs

abbrev pub ticks_in : List Quiet → ℕ
ticks_in [] = 0
ticks_in (tick ∷ qs) = ticks_in qs + 1
ticks_in (reading channel r ∷ qs) = ticks_in qs

-- whatever readings come between, a tick sends the line, of the readings as they are then, exactly where a whole interval ends with it
abbrev pub TickStreams : Type 0
TickStreams =
    (s : State) → Sound s → (qs : List Quiet)
    → let now = after_quiet s qs in
    tick_text now ≡ stream_lines now (passed s (ticks_in qs + 1) - passed s (ticks_in qs))

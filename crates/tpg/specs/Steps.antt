-- One byte of the host, and a run of bytes (01, "Bytes from the host" and "Answer numbers of the calls").
use Rattle.std.specs.Prelude.{ℕ, suc, ◌-◌, List, [], ◌∷◌, ◌++◌, cond, length, drop, leb, Ok, Err}
use Rattle.text.specs.Control.{ack, nak, cr_lf}
use Rattle.ports.specs.Hearing.{heard}
use Rattle.ports.specs.declared.Event.{Event}
use Rattle.ports.specs.declared.Event.TheVariants.{Silent, Line, Reply}
use Rattle.ports.specs.declared.Heard.{Heard}
use Rattle.instrument.specs.Events.{applied}
use Rattle.instrument.specs.Replies.{reply_text}
use Rattle.instrument.specs.declared.Instrument.{Instrument}
use Rattle.tpg.specs.Answers.{least_output}
use Rattle.tpg.specs.declared.State.{State}
use Rattle.lines.specs.Verdicts.{Verdict}

-- "An accepted line sends ACK CR LF", "A refused one sends NAK CR LF"
abbrev pub line_text : Verdict → List ℕ
line_text (Ok order) = ack ∷ cr_lf
line_text (Err fault) = nak ∷ cr_lf

-- what is sent at an event
unfoldable pub event_text : Instrument → Event → List ℕ
event_text s Silent = []
event_text s (Line v) = line_text v
event_text s (Reply m error) = reply_text s error m

-- what an event does to the instrument: only a line can change it
abbrev pub acted : Instrument → Event → Instrument
acted s Silent = s
acted s (Line v) = applied s v
acted s (Reply m error) = s

-- what the port makes of a byte
abbrev pub hearing : State → ℕ → Heard
hearing s b = heard s.instrument.model s.port b

-- the state after one byte
unfoldable pub next : State → ℕ → State
next s b = record { instrument = acted s.instrument (hearing s b).event; port = (hearing s b).port }

-- what is sent for it
unfoldable pub sent : State → ℕ → List ℕ
sent s b = event_text s.instrument (hearing s b).event

-- the state after bytes, one after the other
unfoldable pub after : State → List ℕ → State
after s [] = s
after s (b ∷ bs) = after (next s b) bs

-- all that is sent for them
unfoldable pub said : State → List ℕ → List ℕ
said s [] = []
said s (b ∷ bs) = sent s b ++ said (next s b) bs

-- how many bytes are taken: "it goes on while input remains and at least 64 output bytes are free before the byte"
unfoldable pub taken : State → List ℕ → ℕ → ℕ
taken s [] free = 0
taken s (b ∷ bs) free = cond (leb least_output free) (suc (taken (next s b) bs (free - length (sent s b)))) 0

-- the output at exit: "only the bytes it counts" are written, from its beginning on
unfoldable pub over : List ℕ → List ℕ → List ℕ
over bytes out = bytes ++ drop (length bytes) out

-- The frames of the bench (01, "The bench program").
use Rattle.std.specs.Prelude.{ℕ, ◌+◌, ◌*◌, List, [], ◌∷◌, ◌++◌, cond, ◌&&◌, length, get_or, drop, leb, eqb}
use Rattle.text.specs.Control.{lf}
use Rattle.text.specs.Hex.{is_hex, unhex, hex}
use Rattle.gauges.specs.declared.reading.Reading.{Reading}
use Rattle.tpg.specs.Answers.{number, least_output}
use Rattle.tpg.specs.States.{state_within}
use Rattle.tpg.specs.Steps.{after, said}
use Rattle.tpg.specs.Calls.{fresh_call, reading_call, cycle_call, after_ticks, ticks_text}
use Rattle.tpg.specs.declared.State.{State}
use Rattle.tpg.specs.declared.answers.Outcome.{Outcome}
use Rattle.frames.specs.Encoding.{exponent_of, mantissa_of}
use Rattle.frames.specs.declared.FrameOutcome.{FrameOutcome}

-- "one frame a line": its bytes; a line that is no hexadecimal has none
unfoldable pub bytes_of : List ℕ → List ℕ
bytes_of line = cond (is_hex line) (unhex line) []

-- the longest frame: its first byte and 60 host bytes
abbrev pub longest_frame : ℕ
longest_frame = 61

-- what a frame gives: an answer number, the box after it, the bytes sent
pub record Exchange : Type 0 where
  pub number : ℕ
  pub state : State
  pub bytes : List ℕ

-- "A frame of other form, or a sign above 01, gives FF and changes nothing."
abbrev pub no_frame : State → Exchange
no_frame s = record { number = 255; state = s; bytes = [] }

-- a call that sends nothing
abbrev pub silent : Outcome → Exchange
silent o = record { number = number o.answer; state = o.state; bytes = [] }

-- a call that sends, on a box within its limits: "the state handed in breaks a limit" is answer 1
abbrev pub sending_frame : State → State → List ℕ → Exchange
sending_frame s next bytes = cond (state_within s) (record { number = 0; state = next; bytes = bytes }) (record { number = 1; state = s; bytes = [] })

-- "01: up to 60 host bytes", all of them taken
unfoldable pub host_frame : State → List ℕ → Exchange
host_frame s host = sending_frame s (after s host) (said s host)

-- "channel, kind, status, sign (00 plus, 01 minus; minus zero is zero), mantissa in three bytes high first, exponent in two's complement"
abbrev pub reading_of : List ℕ → Reading
reading_of f = record {
  kind = get_or f 2 0;
  status = get_or f 3 0;
  value = record {
    mantissa = mantissa_of (eqb (get_or f 4 0) 1) (get_or f 5 0) (get_or f 6 0) (get_or f 7 0);
    exponent = exponent_of (get_or f 8 0);
  };
}

-- "02", "or a sign above 01, gives FF"
unfoldable pub reading_frame : State → List ℕ → Exchange
reading_frame s f = cond (leb (get_or f 4 0) 1) (silent (reading_call s (get_or f 1 0) (reading_of f))) (no_frame s)

-- "03: number of ticks in one byte."
unfoldable pub ticks_frame : State → ℕ → Exchange
ticks_frame s n = sending_frame s (after_ticks s n) (ticks_text s n)

-- "01 is a 361, 02 a 362"; W-201: "allows 262 (bench byte 03)"; no model has the number 0
unfoldable pub model_number : ℕ → ℕ
model_number b = cond (eqb b 1) 361 (cond (eqb b 2) 362 (cond (eqb b 3) 262 0))

-- "04: fresh box, serial 0 (..; another byte is answer 2 and keeps the box)"
unfoldable pub fresh_frame : State → ℕ → Exchange
fresh_frame s b =
    let o = fresh_call (model_number b) 0 in
    record { number = number o.answer; state = cond (eqb (number o.answer) 0) o.state s; bytes = [] }

-- "First byte 01: up to 60 host bytes. 02: .. 03: .. 04: .. 05: power cycle."; each with as many bytes as it names
unfoldable pub framed : State → List ℕ → Exchange
framed s f =
    let first = get_or f 0 0 in
    cond (eqb first 1 && leb (length f) longest_frame) (host_frame s (drop 1 f))
    (cond (eqb first 2 && eqb (length f) 9) (reading_frame s f)
    (cond (eqb first 3 && eqb (length f) 2) (ticks_frame s (get_or f 1 0))
    (cond (eqb first 4 && eqb (length f) 2) (fresh_frame s (get_or f 1 0))
    (cond (eqb first 5 && eqb (length f) 1) (silent (cycle_call s)) (no_frame s)))))

-- what an input line gives
abbrev pub line_reply : State → List ℕ → Exchange
line_reply s line = framed s (bytes_of line)

-- "answer number in two digits, then all bytes sent", and the end of the line
abbrev pub output_line : Exchange → List ℕ
output_line r = hex (r.number ∷ r.bytes) ++ lf ∷ []

-- the most bytes that a frame sends: 255 ticks, each with a line of the stream
abbrev pub most_sent : ℕ
most_sent = 255 * least_output

-- the longest output line: two digits for the answer number and for each byte sent, and the end of the line
abbrev pub longest_line : ℕ
longest_line = 2 * (1 + most_sent) + 1

-- what an input line is answered, with an output of so many bytes: one that is shorter than the longest line is answer 3
unfoldable pub answer_call : State → List ℕ → ℕ → FrameOutcome
answer_call s line room =
    cond (leb longest_line room)
    (record { number = (line_reply s line).number; state = (line_reply s line).state; written = length (output_line (line_reply s line)) })
    (record { number = 3; state = s; written = 0 })

-- and the output line
unfoldable pub answer_line : State → List ℕ → ℕ → List ℕ
answer_line s line room = cond (leb longest_line room) (output_line (line_reply s line)) []

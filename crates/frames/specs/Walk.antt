-- How the code hands a frame on: its bytes as they were read, and what it gave, its bytes in the output and their count beside it.
use Rattle.std.specs.Prelude.{ℕ, ◌*◌, List, [], cond, length, leb}
use Rattle.frames.specs.Frames.{bytes_of, longest_frame, Exchange}
use Rattle.frames.specs.declared.FrameOutcome.{FrameOutcome}

-- the bytes of a line that are not too many for every form
abbrev pub read_bytes : List ℕ → List ℕ
read_bytes line = cond (leb (length line) (2 * longest_frame)) (bytes_of line) []

-- an exchange as the crate hands it on: the bytes stand in the output, and their count beside it
abbrev pub frame_outcome : Exchange → FrameOutcome
frame_outcome r = record { number = r.number; state = r.state; written = length r.bytes }

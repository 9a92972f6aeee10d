-- No output line is longer than the longest line.
use Prim.Native.Nat.{ℕ, ◌*◌, ◌≤◌}
use mathlib.Core.List.{List, [], ◌∷◌}
use native.Mathlib.Omega.{arith}
use borrow.Author.Tests.{leb-true}
use lib.ListN.{length, get_or, drop, length-append, length-drop}
use lib.Dec.{leb}
use Rattle.ground.proofs.Cases.{cond_cases}
use Rattle.text.specs.Hex.{is_hex, unhex}
use Rattle.text.proofs.HexDigits.{hex_length, unhex_small}
use Rattle.tpg.specs.Answers.{least_output}
use Rattle.tpg.specs.States.{state_within}
use Rattle.tpg.specs.Steps.{next, said}
use Rattle.tpg.specs.Calls.{ticks_text}
use Rattle.tpg.specs.declared.State.{State}
use Rattle.tpg.proofs.Sending.{sent_length}
use Rattle.tpg.proofs.Ticking.{ticks_length}
use Rattle.frames.specs.Frames.{Exchange, bytes_of, longest_frame, sending_frame, host_frame, ticks_frame, framed, line_reply, output_line, most_sent, longest_line, answer_call}
use Rattle.frames.specs.declared.FrameOutcome.{FrameOutcome}
use Rattle.frames.proofs.Forms.{framed_cases, reading_unsent, fresh_unsent}

pub said_length : (l : List ℕ) (s : State) → length (said s l) ≤ least_output * length l
unfolding said
said_length [] s = omega arith
said_length (b ∷ bs) s = simp length-append (omega (arith, sent_length s b, said_length bs (next s b)))

-- the reply sends no more than so many bytes
abbrev pub Few : Exchange → Type 0
Few r = length r.bytes ≤ most_sent

sending_few : (s next : State) (bytes : List ℕ) → length bytes ≤ most_sent → Few (sending_frame s next bytes)
sending_few s next bytes h = cond_cases Few (state_within s) _ _ (λ e. h) (λ e. omega arith)

host_few : (s : State) (f : List ℕ) → length f ≤ longest_frame → length (said s (drop 1 f)) ≤ most_sent
host_few s f h = omega (arith, said_length (drop 1 f) s, length-drop 1 f)

pub framed_few : (s : State) (f : List ℕ) → get_or f 1 0 ≤ 255 → Few (framed s f)
unfolding host_frame ticks_frame
framed_few s f small =
    framed_cases Few s f (λ h. sending_few s _ (said s (drop 1 f)) (host_few s f h)) (rw (reading_unsent s f) (omega arith))
    (sending_few s _ (ticks_text s (get_or f 1 0)) (omega (arith, ticks_length (get_or f 1 0) s))) (rw (fresh_unsent s (get_or f 1 0)) (omega arith)) (omega arith) (omega arith)

pub bytes_small : (line : List ℕ) (i : ℕ) → get_or (bytes_of line) i 0 ≤ 255
unfolding bytes_of
bytes_small line i = cond_cases (λ (l : List ℕ). get_or l i 0 ≤ 255) (is_hex line) (unhex line) [] (λ e. unhex_small line e i) (λ e. omega arith)

-- every line that a frame is answered with has room
pub line_fits : (s : State) (line : List ℕ) → length (output_line (line_reply s line)) ≤ longest_line
line_fits s line = simp length-append (omega (arith, hex_length ((line_reply s line).number ∷ (line_reply s line).bytes), framed_few s (bytes_of line) (bytes_small line 1)))

pub written_fits : (s : State) (line : List ℕ) (room : ℕ) → (answer_call s line room).written ≤ room
unfolding answer_call
written_fits s line room =
    cond_cases (λ (a : FrameOutcome). a.written ≤ room) (leb longest_line room) _ _ (λ e. omega (arith, leb-true longest_line room e, line_fits s line)) (λ e. omega arith)

-- An input line answered: what was read of it is enough, and what was sent is turned into the output line.
use Prim.Native.Nat.{ℕ, ◌+◌, ◌*◌, ◌-◌, ◌≤◌, ◌<◌}
use mathlib.Core.Path.{◌≡◌, refl, sym, ap, ◌∙◌}
use mathlib.Core.List.{List, [], ◌∷◌, ◌++◌}
use mathlib.Core.Bool.{true, false, ◌&&◌, and-false, and-eq-true_iff}
use mathlib.Core.Logic.{◌⊎◌, inl, inr}
use mathlib.Mathlib.Data.Bool.Basic.{dichotomy}
use native.Mathlib.Omega.{arith}
use borrow.Author.Tests.{le-leb, lt-leb, leb-false, ne_eqb}
use lib.ListN.{length, get_or, take, drop, length-append}
use lib.Seq.{take-append_seam, drop-append-add, drop-drop}
use lib.Dec.{leb, eqb}
use Rattle.ground.proofs.Cases.{never}
use Rattle.text.specs.Hex.{is_hex_digit, is_hex, unhex, hex}
use Rattle.text.specs.Control.{lf}
use Rattle.text.proofs.HexDigits.{hex_length}
use Rattle.tpg.specs.Steps.{over}
use Rattle.tpg.specs.declared.State.{State}
use Rattle.tpg.proofs.Laying.{over_length}
use Rattle.frames.specs.Frames.{Exchange, bytes_of, longest_frame, no_frame, framed, line_reply, output_line, most_sent, longest_line, answer_call, answer_line}
use Rattle.frames.specs.Walk.{read_bytes, frame_outcome}
use Rattle.frames.specs.declared.FrameOutcome.{FrameOutcome}
use Rattle.frames.proofs.Bounds.{framed_few, bytes_small}

-- ---- a line that is too long to be read has no form

unhex_length : (l : List ℕ) → is_hex l ≡ true → 2 * length (unhex l) ≡ length l
unfolding is_hex unhex
unhex_length [] e = refl
unhex_length (a ∷ []) e = never (cc)
unhex_length (a ∷ b ∷ l) e = omega (arith, unhex_length l ((and-eq-true_iff (is_hex_digit a && is_hex_digit b) (is_hex l)).0 e).1)

pub too_many : (s : State) (f : List ℕ) → longest_frame < length f → framed s f ≡ no_frame s
unfolding framed
too_many s f h =
    let first = get_or f 0 0 in
    rw (
      lt-leb (length f) longest_frame h,
      ne_eqb (length f) 9 (λ (e : length f ≡ 9). never (omega (arith, e))),
      ne_eqb (length f) 2 (λ (e : length f ≡ 2). never (omega (arith, e))),
      ne_eqb (length f) 1 (λ (e : length f ≡ 1). never (omega (arith, e))),
      and-false (eqb first 1),
      and-false (eqb first 2),
      and-false (eqb first 3),
      and-false (eqb first 4),
      and-false (eqb first 5),
    )

-- what was read gives the reply of the whole line
pub read_enough : (s : State) (line : List ℕ) → framed s (read_bytes line) ≡ line_reply s line
unfolding bytes_of framed
read_enough s line = go (dichotomy (leb (length line) (2 * longest_frame))) (dichotomy (is_hex line))
  where
    go : (leb (length line) (2 * longest_frame) ≡ false) ⊎ (leb (length line) (2 * longest_frame) ≡ true) → (is_hex line ≡ false) ⊎ (is_hex line ≡ true)
        → framed s (read_bytes line) ≡ line_reply s line
    go (inr e) h = rw e
    go (inl e) (inr h) = rw (e, h) (sym (too_many s (unhex line) (omega (arith, leb-false (length line) (2 * longest_frame) e, unhex_length line h))))
    go (inl e) (inl h) = rw (e, h)

-- ---- an output that was laid over twice

over_over : (xs ys out : List ℕ) → length xs ≤ length ys → over ys (over xs out) ≡ over ys out
unfolding over
over_over xs ys out h =
    let n : ℕ = length ys - length xs in
    let e : length ys ≡ length xs + n = omega arith in
    rw e (ap (λ (l : List ℕ). ys ++ l) (drop-append-add xs (drop (length xs) out) n ∙ drop-drop n (length xs) out))

over_front : (xs out : List ℕ) → take (length xs) (over xs out) ≡ xs
unfolding over
over_front xs out = take-append_seam xs (drop (length xs) out)

output_length : (r : Exchange) → length (output_line r) ≡ 2 + 2 * length r.bytes + 1
output_length r = simp length-append (omega (arith, hex_length (r.number ∷ r.bytes)))

-- ---- the two ends of the call

module _ (s : State) (line out : List ℕ) where
  pub refused : length out < longest_line → (record { number = 3; state = s; written = 0 } ≡ answer_call s line (length out)) × (out ≡ over (answer_line s line (length out)) out)
  unfolding answer_call answer_line over
  refused h = rw (lt-leb longest_line (length out) h) (refl, refl)

  module _ (room : longest_line ≤ length out) (t : FrameOutcome) (sent : List ℕ)
      (e : (t ≡ frame_outcome (line_reply s line)) × (sent ≡ over (line_reply s line).bytes out)) where
    abbrev r : Exchange
    r = line_reply s line

    told : t ≡ frame_outcome r
    told = e.0

    laid : sent ≡ over r.bytes out
    laid = e.1

    pub few : t.written ≤ most_sent
    few = omega (arith, ap (λ (x : FrameOutcome). x.written) told, framed_few s (bytes_of line) (bytes_small line 1))

    pub kept : length sent ≡ length out
    kept = ap length laid ∙ over_length r.bytes out (omega (arith, room, framed_few s (bytes_of line) (bytes_small line 1)))

    pub answered : (a : FrameOutcome) (w : ℕ) (after : List ℕ) → a ≡ record { number = t.number; state = t.state; written = w } → w ≡ 2 + 2 * t.written + 1
        → after ≡ over (hex (t.number ∷ take t.written sent) ++ lf ∷ []) sent → (a ≡ answer_call s line (length out)) × (after ≡ over (answer_line s line (length out)) out)
    unfolding answer_call answer_line
    answered a w after p q u =
        let count : w ≡ length (output_line r) = q ∙ ap (λ (x : FrameOutcome). 2 + 2 * x.written + 1) told ∙ sym (output_length r) in
        rw (le-leb longest_line (length out) room) (
          p ∙ (λ i. record { number = (told i).number; state = (told i).state; written = count i }),
          u ∙ ap (λ (x : FrameOutcome). over (hex (x.number ∷ take x.written sent) ++ lf ∷ []) sent) told
              ∙ ap (λ (l : List ℕ). over (hex (r.number ∷ take (length r.bytes) l) ++ lf ∷ []) l) laid
              ∙ ap (λ (l : List ℕ). over (hex (r.number ∷ l) ++ lf ∷ []) (over r.bytes out)) (over_front r.bytes out)
              ∙ over_over r.bytes (output_line r) out (omega (arith, output_length r)),
        )

-- Lines answered into an output one after the other, while the longest line has room.
use Prim.Native.Nat.{ℕ, ◌+◌, ◌-◌, ◌≤◌, ◌<◌}
use mathlib.Core.Path.{◌≡◌, refl, sym, ap, ◌∙◌}
use mathlib.Core.List.{List, [], ◌∷◌, ◌++◌, append_assoc, append-nil}
use native.Mathlib.Omega.{arith}
use native.Mathlib.Nat.{zero-add, add-zero}
use borrow.Author.Tests.{le-leb, lt-leb}
use borrow.Rule.Slice.PartMut.{put_mid}
use lib.ListN.{length, take, drop, length-append, length-drop, drop_of_length-le}
use lib.Seq.{length-take-le, take_all, drop-drop}
use Rattle.text.specs.Spans.{until}
use Rattle.tpg.specs.Steps.{over}
use Rattle.tpg.specs.declared.State.{State}
use Rattle.tpg.proofs.Laying.{laid_at, laid_length, laid_more, laid_nothing}
use Rattle.frames.specs.Frames.{line_reply, output_line, longest_line, answer_call, answer_line}
use Rattle.frames.specs.declared.FrameOutcome.{FrameOutcome}
use Rattle.frames.proofs.Bounds.{line_fits}
use Rattle.bench.specs.Blocks.{finished, behind_lines, after_lines, lines_text, fitting}
use Rattle.bench.specs.declared.BlockOutcome.{BlockOutcome}
use Rattle.bench.proofs.Finished.{next_line, last_line, line_inside}

-- ---- lines that fit

module _ (s : State) where
  pub fitting_more : (l : List ℕ) (ls : List (List ℕ)) (free : ℕ) → longest_line ≤ free
      → fitting s (l ∷ ls) free ≡ l ∷ fitting (line_reply s l).state ls (free - length (output_line (line_reply s l)))
  unfolding fitting
  fitting_more l ls free room = rw (le-leb longest_line free room)

  fitting_full : (ls : List (List ℕ)) (free : ℕ) → free < longest_line → fitting s ls free ≡ []
  unfolding fitting
  fitting_full [] free full = refl
  fitting_full (l ∷ ls) free full = rw (lt-leb longest_line free full)

  -- with room a line is answered what its frame gives
  answered : (line : List ℕ) (room : ℕ) → longest_line ≤ room
      → (answer_call s line room ≡ record { number = (line_reply s line).number; state = (line_reply s line).state; written = length (output_line (line_reply s line)) })
      × (answer_line s line room ≡ output_line (line_reply s line))
  unfolding answer_call answer_line
  answered line room enough = rw (le-leb longest_line room enough) (refl, refl)

-- ---- bytes laid over an output from a place on

-- the part from the place on, with bytes over its front, back in its output
part_back : (at : ℕ) (xs out : List ℕ) → put_mid at (length out - at) out (over xs (take (length out - at) (drop at out))) ≡ laid_at at xs out
unfolding over laid_at
part_back at xs out =
    let k = length out - at in
    let d = drop at out in
    let low : length d ≤ k = omega (arith, length-drop at out) in
    rw (take_all k d low, drop_of_length-le d {i = k} low, append-nil (xs ++ drop (length xs) d), drop-drop (length xs) at out) (sym (append_assoc (take at out) xs (drop (at + length xs) out)))

-- ---- the lines of a block in turn

-- those of them that an output with so much room takes
abbrev pub first_lines : State → List ℕ → ℕ → List (List ℕ)
first_lines s block free = fitting s (finished block) free

-- what is left once lines are answered
abbrev pub left_by : State → List (List ℕ) → BlockOutcome
left_by s ls = record { state = after_lines s ls; from = behind_lines ls; written = length (lines_text s ls) }

-- the same from a place of the block on, and behind so much of the output
abbrev left_from : State → List (List ℕ) → ℕ → ℕ → BlockOutcome
left_from s ls from at = record { state = after_lines s ls; from = from + behind_lines ls; written = at + length (lines_text s ls) }

one_more : (s : State) (l : List ℕ) (ls : List (List ℕ)) (from at to : ℕ) → to ≡ from + length l
    → left_from (line_reply s l).state ls (to + 1) (at + length (output_line (line_reply s l))) ≡ left_from s (l ∷ ls) from at
unfolding after_lines behind_lines lines_text
one_more s l ls from at to end =
    let next = (line_reply s l).state in
    let text = output_line (line_reply s l) in
    let place : to + 1 + behind_lines ls ≡ from + (length l + 1 + behind_lines ls) = omega arith in
    let count : at + length text + length (lines_text next ls) ≡ at + length (text ++ lines_text next ls) = omega (arith, length-append text (lines_text next ls)) in
    λ i. record { state = after_lines next ls; from = place i; written = count i }

-- after some lines: the next one goes from a place to another, and what is answered from here on is what was to be answered at the start
pub record Answering (s : State) (block out₀ : List ℕ) (now : State) (out : List ℕ) (from at to : ℕ) : Type 0 where
  pub low : from ≤ length block
  pub end : to ≡ from + length (until 10 (drop from block))
  pub same : length out ≡ length out₀
  pub inside : at ≤ length out
  pub left : left_from now (first_lines now (drop from block) (length out - at)) from at ≡ left_by s (first_lines s block (length out₀))
  pub bytes : laid_at at (lines_text now (first_lines now (drop from block) (length out - at))) out ≡ over (lines_text s (first_lines s block (length out₀))) out₀

pub start : (s : State) (block out : List ℕ) (to : ℕ) → to ≡ 0 + length (until 10 block) → Answering s block out s out 0 0 to
unfolding laid_at over
start s block out to end =
    let free : length out - 0 ≡ length out = omega arith in
    let ls = first_lines s block (length out) in
    record {
      low = omega arith;
      end = end;
      same = refl;
      inside = omega arith;
      left = rw (free, zero-add (behind_lines ls), zero-add (length (lines_text s ls)));
      bytes = rw (free, zero-add (length (lines_text s ls)));
    }

module _ {s : State} {block out₀ : List ℕ} {now : State} {out : List ℕ} {from at to : ℕ} (a : Answering s block out₀ now out from at to) where
  pub to_inside : (from ≤ to) × (to ≤ length block)
  to_inside = line_inside block from to a.end a.low

  abbrev Ended : Type 0
  Ended =
      let ls = first_lines s block (length out₀) in
      (record { state = now; from = from; written = at } ≡ left_by s ls) × (out ≡ over (lines_text s ls) out₀)

  ended : first_lines now (drop from block) (length out - at) ≡ [] → Ended
  unfolding after_lines behind_lines lines_text
  ended none = (rw (none, add-zero from, add-zero at) at a.left, laid_nothing at out ∙ rw none at a.bytes)

  pub no_room : length out - at < longest_line → Ended
  no_room full = ended (fitting_full now (finished (drop from block)) (length out - at) full)

  pub no_line : length block ≤ to → Ended
  unfolding fitting
  no_line none = ended (ap (λ (ls : List (List ℕ)). fitting now ls (length out - at)) (last_line block from to a.end none))

  abbrev line : List ℕ
  line = take (to - from) (drop from block)

  abbrev next : State
  next = (line_reply now line).state

  abbrev text : List ℕ
  text = output_line (line_reply now line)

  abbrev part : List ℕ
  part = take (length out - at) (drop at out)

  -- one line more
  module _ (more : to < length block) (room : longest_line ≤ length out - at) where
    fits : at + length text ≤ length out
    fits = omega (arith, line_fits now line)

    kept : length (laid_at at text out) ≡ length out
    kept = laid_length at text out a.inside fits

    ahead : first_lines now (drop from block) (length out - at) ≡ line ∷ first_lines next (drop (to + 1) block) (length (laid_at at text out) - (at + length text))
    ahead =
        let free : length out - at - length text ≡ length (laid_at at text out) - (at + length text) = omega (arith, kept) in
        ap (λ (ls : List (List ℕ)). fitting now ls (length out - at)) (next_line block from to a.end more)
        ∙ fitting_more now line (finished (drop (to + 1) block)) (length out - at) room
        ∙ ap (λ (n : ℕ). line ∷ first_lines next (drop (to + 1) block) n) free

    laid : (to' : ℕ) → to' ≡ to + 1 + length (until 10 (drop (to + 1) block)) → Answering s block out₀ next (laid_at at text out) (to + 1) (at + length text) to'
    unfolding lines_text
    laid to' end =
        let ls = first_lines next (drop (to + 1) block) (length (laid_at at text out) - (at + length text)) in
        let size : length line ≡ to - from = length-take-le (to - from) (drop from block) (omega (arith, length-drop from block)) in
        record {
          low = omega arith;
          end = end;
          same = kept ∙ a.same;
          inside = omega (arith, kept, fits);
          left = one_more now line ls from at to (omega (arith, to_inside)) ∙ rw ahead at a.left;
          bytes = laid_more at text out a.inside (lines_text next ls) ∙ rw ahead at a.bytes;
        }

    pub step : (r : FrameOutcome) (put : List ℕ) → (r ≡ answer_call now line (length part)) × (put ≡ over (answer_line now line (length part)) part) → (to' : ℕ)
        → to' ≡ to + 1 + length (until 10 (drop (to + 1) block)) → Answering s block out₀ r.state (put_mid at (length out - at) out put) (to + 1) (at + r.written) to'
    step r put told to' end =
        let w = answered now line (length part) (omega (arith, length-take-le (length out - at) (drop at out) (omega (arith, length-drop at out)))) in
        let back : put_mid at (length out - at) out put ≡ laid_at at text out =
        ap (put_mid at (length out - at) out) (told.1 ∙ ap (λ (xs : List ℕ). over xs part) w.1) ∙ part_back at text out in
        rw (back, told.0 ∙ w.0) (laid to' end)

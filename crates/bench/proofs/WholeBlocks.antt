-- A whole block: lines answered as long as they fit, what they are answered written, and then the next ones.
use Prim.Native.Nat.{ℕ, ◌+◌, ◌-◌, ◌≤◌}
use mathlib.Core.Path.{◌≡◌, refl, sym, ap, ◌∙◌}
use mathlib.Core.List.{List, [], ◌∷◌, ◌++◌}
use native.Mathlib.Omega.{arith}
use native.Mathlib.Nat.{zero-add, add-zero}
use lib.ListN.{length, take, drop, length-append, length-drop}
use lib.Seq.{take_all, drop-drop}
use lib.Dec.{leb}
use Rattle.ground.proofs.Cases.{cond_cases}
use Rattle.tpg.specs.Steps.{over}
use Rattle.tpg.specs.declared.State.{State}
use Rattle.frames.specs.Frames.{line_reply, output_line, longest_line, answer_call}
use Rattle.frames.specs.declared.FrameOutcome.{FrameOutcome}
use Rattle.frames.proofs.Bounds.{written_fits}
use Rattle.bench.specs.Blocks.{finished, behind_lines, after_lines, lines_text, fitting}
use Rattle.bench.specs.declared.BlockOutcome.{BlockOutcome}
use Rattle.bench.proofs.Finished.{rest_of, behind_append, behind_inside}
use Rattle.bench.proofs.Answering.{fitting_more, first_lines, left_by}

after_lines_append : (ls ms : List (List ℕ)) (s : State) → after_lines s (ls ++ ms) ≡ after_lines (after_lines s ls) ms
unfolding after_lines
after_lines_append [] ms s = refl
after_lines_append (l ∷ ls) ms s = after_lines_append ls ms (line_reply s l).state

-- the lines behind those that fit are the others
others : (ls : List (List ℕ)) (s : State) (block : List ℕ) (free : ℕ) → finished block ≡ ls
    → finished block ≡ fitting s ls free ++ finished (drop (behind_lines (fitting s ls free)) block)
unfolding fitting behind_lines
others [] s block free e = refl
others (l ∷ ls) s block free e =
    let left = free - length (output_line (line_reply s l)) in
    let fit = fitting (line_reply s l).state ls left in
    let rest = rest_of block l ls e in
    cond_cases (λ (f : List (List ℕ)). finished block ≡ f ++ finished (drop (behind_lines f) block)) (leb longest_line free) (l ∷ fit) []
    (λ _.
    e ∙ ap (λ (x : List (List ℕ)). l ∷ x)
    (sym rest ∙ others ls (line_reply s l).state (drop (length l + 1) block) left rest ∙ ap (λ (b : List ℕ). fit ++ finished b) (drop-drop (behind_lines fit) (length l + 1) block)))
    (λ _. refl)

-- with room for the longest line none fits only where there is none
none_fits : (s : State) (ls : List (List ℕ)) (free : ℕ) → longest_line ≤ free → behind_lines (fitting s ls free) ≡ 0 → ls ≡ []
unfolding behind_lines
none_fits s [] free room e = refl
none_fits s (l ∷ ls) free room e = absurd (omega (arith, ap behind_lines (fitting_more s l ls free room)))

over_inside : (xs out : List ℕ) → length xs ≤ length (over xs out)
unfolding over
over_inside xs out = rw (length-append xs (drop (length xs) out)) (omega arith)

-- a box, a place in the block, and nothing more to write
abbrev pub cleared : State → ℕ → BlockOutcome
cleared s from = record { state = s; from = from; written = 0 }

-- after some lines: with those from here on all are answered
pub record Writing (s : State) (block out₀ : List ℕ) (now : State) (out : List ℕ) (from : ℕ) : Type 0 where
  pub low : from ≤ length block
  pub room : longest_line ≤ length out₀
  pub same : length out ≡ length out₀
  pub left : cleared (after_lines now (finished (drop from block))) (from + behind_lines (finished (drop from block))) ≡ cleared (after_lines s (finished block)) (behind_lines (finished block))

pub start : (s : State) (block out : List ℕ) → longest_line ≤ length out → Writing s block out s out 0
start s block out room = record { low = omega arith; room = room; same = refl; left = rw (zero-add (behind_lines (finished block))) }

-- the next lines answered
module _ {s : State} {block out₀ : List ℕ} {now : State} {out : List ℕ} {from : ℕ} (w : Writing s block out₀ now out from) where
  abbrev rest : List ℕ
  rest = take (length block - from) (drop from block)

  abbrev fit : List (List ℕ)
  fit = first_lines now rest (length out)

  module _ (r : BlockOutcome) (out' : List ℕ) (told : (r ≡ left_by now fit) × (out' ≡ over (lines_text now fit) out)) where
    pub text_inside : r.written ≤ length out'
    text_inside = omega (arith, ap (λ (x : BlockOutcome). x.written) told.0, ap length told.1, over_inside (lines_text now fit) out)

    whole : rest ≡ drop from block
    whole = take_all (length block - from) (drop from block) (omega (arith, length-drop from block))

    pub ended : r.from ≡ 0 → cleared now from ≡ cleared (after_lines s (finished block)) (behind_lines (finished block))
    unfolding after_lines behind_lines
    ended none =
        let e = none_fits now (finished rest) (length out) (omega (arith, w.room, w.same)) (sym (ap (λ (x : BlockOutcome). x.from) told.0) ∙ none) in
        rw (← whole, e, add-zero from) at w.left

    pub step : length out' ≡ length out → Writing s block out₀ r.state out' (from + r.from)
    step kept =
        let behind = finished (drop (from + behind_lines fit) block) in
        let all : finished (drop from block) ≡ fit ++ behind =
        ap finished (sym whole) ∙ others (finished rest) now rest (length out) refl ∙ ap (λ (b : List ℕ). fit ++ finished (drop (behind_lines fit) b)) whole
        ∙ ap (λ (b : List ℕ). fit ++ finished b) (drop-drop (behind_lines fit) from block) in
        let state : after_lines (after_lines now fit) behind ≡ after_lines now (finished (drop from block)) = sym (ap (after_lines now) all ∙ after_lines_append fit behind now) in
        let place : from + behind_lines fit + behind_lines behind ≡ from + behind_lines (finished (drop from block)) = omega (arith, ap behind_lines all, behind_append fit behind) in
        rw told.0 (record {
          low = omega (arith, behind_inside (drop from block), length-drop from block);
          room = w.room;
          same = kept ∙ w.same;
          left = (λ i. cleared (state i) (place i)) ∙ w.left;
        })

pub left_inside : (s : State) (block : List ℕ) (r : BlockOutcome) → r ≡ cleared (after_lines s (finished block)) (behind_lines (finished block)) → r.from ≤ length block
left_inside s block r told = omega (arith, ap (λ (x : BlockOutcome). x.from) told, behind_inside block)

-- ---- the last line, which may lack its end

pub written_few : (s : State) (line out : List ℕ) (r : FrameOutcome) → r ≡ answer_call s line (length out) → r.written ≤ length out
written_few s line out r told = omega (arith, ap (λ (x : FrameOutcome). x.written) told, written_fits s line (length out))

-- The finished lines of a block: each ends where its LF is found, and the others begin behind it.
use Prim.Native.Nat.{ℕ, suc, ◌+◌, ◌-◌, ◌≤◌, ◌<◌}
use mathlib.Core.Path.{◌≡◌, refl, sym, ap, ◌∙◌}
use mathlib.Core.Logic.{⊎_elim}
use mathlib.Core.List.{List, [], ◌∷◌, ◌++◌}
use mathlib.Core.Bool.{Bool, true, false, cond}
use native.Mathlib.Omega.{arith}
use lib.ListN.{length, take, drop, length-drop}
use lib.Seq.{length-take-le, drop-drop}
use lib.Dec.{eqb}
use Rattle.ground.proofs.Cases.{below, never, cond_cases}
use Rattle.text.specs.Spans.{until}
use Rattle.text.specs.Control.{lf}
use Rattle.text.proofs.Marks.{until_few}
use Rattle.bench.specs.Blocks.{on_next, finished, behind_lines}

-- with an LF there is a first line and those behind it, without one none
line_more : (s : List ℕ) → length (until 10 s) < length s → finished s ≡ take (length (until 10 s)) s ∷ finished (drop (suc (length (until 10 s))) s)
unfolding until finished
line_more [] h = absurd (omega arith)
line_more (b ∷ s) h = go (eqb b lf) (line_more s) h
  where
    go : (t : Bool) → (length (until 10 s) < length s → finished s ≡ take (length (until 10 s)) s ∷ finished (drop (suc (length (until 10 s))) s))
        → length (cond t [] (b ∷ until 10 s)) < length (b ∷ s)
        → cond t ([] ∷ finished s) (on_next b (finished s)) ≡ take (length (cond t [] (b ∷ until 10 s))) (b ∷ s) ∷ finished (drop (suc (length (cond t [] (b ∷ until 10 s)))) (b ∷ s))
    go true e h = refl
    go false e h = ap (on_next b) (e (omega arith))

line_none : (s : List ℕ) → length s ≤ length (until 10 s) → finished s ≡ []
unfolding until finished
line_none [] h = refl
line_none (b ∷ s) h = go (eqb b lf) (line_none s) h
  where
    go : (t : Bool) → (length s ≤ length (until 10 s) → finished s ≡ []) → length (b ∷ s) ≤ length (cond t [] (b ∷ until 10 s))
        → cond t ([] ∷ finished s) (on_next b (finished s)) ≡ []
    go true e h = absurd (omega arith)
    go false e h = ap (on_next b) (e (omega arith))

-- the same from a place on
module _ (block : List ℕ) (from to : ℕ) (end : to ≡ from + length (until 10 (drop from block))) where
  pub next_line : to < length block → finished (drop from block) ≡ take (to - from) (drop from block) ∷ finished (drop (to + 1) block)
  next_line more =
      let n : length (until 10 (drop from block)) ≡ to - from = omega arith in
      let e : from + suc (to - from) ≡ to + 1 = omega arith in
      line_more (drop from block) (omega (arith, length-drop from block)) ∙ rw (n, drop-drop (suc (to - from)) from block, e)

  pub last_line : length block ≤ to → finished (drop from block) ≡ []
  last_line none = line_none (drop from block) (omega (arith, length-drop from block))

  pub line_inside : from ≤ length block → (from ≤ to) × (to ≤ length block)
  line_inside low = (omega arith, omega (arith, until_few 10 (drop from block), length-drop from block))

-- the lines behind the first
pub rest_of : (block l : List ℕ) (ls : List (List ℕ)) → finished block ≡ l ∷ ls → finished (drop (length l + 1) block) ≡ ls
rest_of block l ls e =
    let n = length (until 10 block) in
    ⊎_elim (λ (h : n < length block).
    let split : l ∷ ls ≡ take n block ∷ finished (drop (suc n) block) = sym e ∙ line_more block h in
    let first : l ≡ take n block = cc in
    let others : ls ≡ finished (drop (suc n) block) = cc in
    let size : length l + 1 ≡ suc n = omega (arith, ap length first, length-take-le n block (omega arith)) in
    rw (size, others)) (λ (h : length block ≤ n). let none : finished block ≡ [] = line_none block h in never (cc)) (below n (length block))

-- ---- the place behind lines

pub behind_append : (ls ms : List (List ℕ)) → behind_lines (ls ++ ms) ≡ behind_lines ls + behind_lines ms
unfolding behind_lines
behind_append [] ms = omega arith
behind_append (l ∷ ls) ms = omega (arith, behind_append ls ms)

next_behind : (b : ℕ) (ls : List (List ℕ)) → behind_lines (on_next b ls) ≤ suc (behind_lines ls)
unfolding behind_lines
next_behind b [] = omega arith
next_behind b (l ∷ ls) = omega arith

pub behind_inside : (s : List ℕ) → behind_lines (finished s) ≤ length s
unfolding finished behind_lines
behind_inside [] = omega arith
behind_inside (b ∷ s) =
    cond_cases (λ (ls : List (List ℕ)). behind_lines ls ≤ suc (length s)) (eqb b lf) ([] ∷ finished s) (on_next b (finished s)) (λ _. omega (arith, behind_inside s))
    (λ _. omega (arith, next_behind b (finished s), behind_inside s))

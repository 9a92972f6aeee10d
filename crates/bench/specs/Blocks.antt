-- Lines in a block of input (01, "The bench program": "one frame a line").
use Rattle.std.specs.Prelude.{ℕ, ◌+◌, ◌-◌, List, [], ◌∷◌, ◌++◌, cond, length, leb, eqb}
use Rattle.text.specs.Control.{lf}
use Rattle.tpg.specs.declared.State.{State}
use Rattle.frames.specs.Frames.{longest_line, line_reply, output_line}

-- a byte in front of the next finished line; where there is none, the byte's own line is not finished
abbrev pub on_next : ℕ → List (List ℕ) → List (List ℕ)
on_next b [] = []
on_next b (l ∷ ls) = (b ∷ l) ∷ ls

-- "one frame a line": the finished lines of a block, each without the LF that ends it
unfoldable pub finished : List ℕ → List (List ℕ)
finished [] = []
finished (b ∷ s) = cond (eqb b lf) ([] ∷ finished s) (on_next b (finished s))

-- the place behind lines and their LFs
unfoldable pub behind_lines : List (List ℕ) → ℕ
behind_lines [] = 0
behind_lines (l ∷ ls) = length l + 1 + behind_lines ls

-- the box after lines, one frame each
unfoldable pub after_lines : State → List (List ℕ) → State
after_lines s [] = s
after_lines s (l ∷ ls) = after_lines (line_reply s l).state ls

-- "Each input line gives one line"
unfoldable pub lines_text : State → List (List ℕ) → List ℕ
lines_text s [] = []
lines_text s (l ∷ ls) = output_line (line_reply s l) ++ lines_text (line_reply s l).state ls

-- the lines that are answered into one output: it goes on while the longest line has room before the next
unfoldable pub fitting : State → List (List ℕ) → ℕ → List (List ℕ)
fitting s [] free = []
fitting s (l ∷ ls) free = cond (leb longest_line free) (l ∷ fitting (line_reply s l).state ls (free - length (output_line (line_reply s l)))) []

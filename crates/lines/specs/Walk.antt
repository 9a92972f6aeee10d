-- How the code walks a line, field after field, said of the line's bytes, and a reply, cell after cell.
use Rattle.std.specs.Prelude.{ℕ, List, [], ◌∷◌, cond, ltb, length, Option, Some, None, Ok}
use Prim.Native.Char.{code}
use Rattle.numbers.specs.declared.threshold.Threshold.{Threshold}
use Rattle.settings.specs.Rows.{plain}
use Rattle.settings.specs.declared.table.Kind.{Kind}
use Rattle.lines.specs.Splitting.{word, behind}
use Rattle.lines.specs.Fields.{read, write}
use Rattle.lines.specs.Verdicts.{Field}

-- what stands behind the first comma, if there is one
abbrev pub others : List ℕ → Option (List ℕ)
others s = cond (ltb (length (word s)) (length s)) (Some (behind s)) None

-- the field at the head of what is left of a line, if there is one to be read
abbrev pub head_field : Option Kind → List ℕ → Field
head_field (Some k) s = read k (word s)
head_field None s = Ok (plain 0)

-- what is left behind it
abbrev pub beyond : Option Kind → List ℕ → List ℕ
beyond (Some k) s = behind s
beyond None s = s

-- a comma and one cell more, if there is one
abbrev pub more : Option Kind → Threshold → List ℕ
more (Some k) cell = code "," ∷ write k cell
more None cell = []

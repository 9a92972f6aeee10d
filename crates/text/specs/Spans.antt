-- Bytes up to a mark (01, "Settings": "commas between"; "The bench program": "one frame a line").
use Rattle.std.specs.Prelude.{ℕ, List, [], ◌∷◌, cond, eqb}

-- the bytes before the first mark; all of them where there is none
unfoldable pub until : ℕ → List ℕ → List ℕ
until mark [] = []
until mark (b ∷ s) = cond (eqb b mark) [] (b ∷ until mark s)

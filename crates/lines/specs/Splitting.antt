-- A line split at its commas (01, "Settings": "commas between"; "Bytes from the host": "number of fields").
use Rattle.std.specs.Prelude.{ℕ, suc, List, [], ◌∷◌, ◌++◌, cond, eqb, length, drop}
use Prim.Native.Char.{code}
use Rattle.text.specs.Spans.{until}

-- a byte in front of the first part
abbrev pub on_first : ℕ → List (List ℕ) → List (List ℕ)
on_first b [] = (b ∷ []) ∷ []
on_first b (f ∷ fs) = (b ∷ f) ∷ fs

-- the parts of a list of bytes between its commas; there is always a first one
unfoldable pub fields : List ℕ → List (List ℕ)
fields [] = [] ∷ []
fields (b ∷ s) = cond (eqb b (code ",")) ([] ∷ fields s) (on_first b (fields s))

-- the parts with commas between
abbrev pub joined : List (List ℕ) → List ℕ
joined [] = []
joined (f ∷ []) = f
joined (f ∷ g ∷ fs) = f ++ (code "," ∷ joined (g ∷ fs))

-- the bytes before the first comma
abbrev pub word : List ℕ → List ℕ
word s = until (code ",") s

-- those behind it
abbrev pub behind : List ℕ → List ℕ
behind s = drop (suc (length (word s))) s

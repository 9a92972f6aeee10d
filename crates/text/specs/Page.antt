-- Bytes put into a lent output from a place on (01, "Answer numbers of the calls": "an accepted call writes only the bytes it counts").
use Rattle.std.specs.Prelude.{ℕ, ◌+◌, List, [], ◌∷◌, cond, length, set, ltb}

-- an output, and the place where its next byte goes
pub record Page : Type 0 where
  pub bytes : List ℕ
  pub at : ℕ

abbrev pub page : List ℕ → ℕ → Page
page bytes at = record { bytes = bytes; at = at }

-- one byte more over the old one; past the end nothing changes
unfoldable pub put : Page → ℕ → Page
put p b = cond (ltb p.at (length p.bytes)) (page (set p.bytes p.at b) (p.at + 1)) p

-- byte after byte
abbrev pub puts : Page → List ℕ → Page
puts p [] = p
puts p (b ∷ bs) = puts (put p b) bs

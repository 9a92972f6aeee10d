-- Runs of decimal digits in a list of bytes, and the number that they make: what 01, "Settings", calls digits.
use Rattle.std.specs.Prelude.{ℕ, ◌+◌, ◌-◌, ◌*◌, List, [], ◌∷◌, Bool, false, cond, length, take, drop, eqb}
use Rattle.ground.specs.Ranges.{in_range}

-- the bytes of s from start up to, not including, end, as far as s has them
abbrev pub part : ℕ → ℕ → List ℕ → List ℕ
part start end s = take (end - start) (drop start s)

-- the bytes of 0 to 9
abbrev pub is_digit : ℕ → Bool
is_digit b = in_range 48 57 b

-- the digits that s begins with, and what follows them
unfoldable pub lead : List ℕ → List ℕ
lead [] = []
lead (b ∷ s) = cond (is_digit b) (b ∷ lead s) []

unfoldable pub rest : List ℕ → List ℕ
rest [] = []
rest (b ∷ s) = cond (is_digit b) (rest s) (b ∷ s)

-- s begins with the byte c
unfoldable pub head_is : ℕ → List ℕ → Bool
head_is c [] = false
head_is c (b ∷ s) = eqb b c

-- s has from `low` to `high` bytes
abbrev pub length_in : ℕ → ℕ → List ℕ → Bool
length_in low high s = in_range low high (length s)

-- the number that the digits of s make behind those of n
unfoldable pub value : ℕ → List ℕ → ℕ
value n [] = n
value n (b ∷ s) = value (n * 10 + (b - 48)) s

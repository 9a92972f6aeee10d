-- Upper-case hexadecimal (01, "The bench program": "It reads lines of upper-case hexadecimal").
use Rattle.std.specs.Prelude.{ℕ, ◌+◌, ◌*◌, ◌-◌, ◌/◌, ◌%◌, List, [], ◌∷◌, ◌++◌, Bool, true, false, cond, ◌&&◌, get_or, Option, Some, None, is_some, unwrap_or}
use Rattle.ground.specs.Ranges.{in_range}
use Rattle.text.specs.Text.{ascii}

-- the sixteen digits
abbrev pub hex_digits : List ℕ
hex_digits = ascii "0123456789ABCDEF"

-- the digit of a value below 16
unfoldable pub digit_of : ℕ → ℕ
digit_of n = get_or hex_digits n 0

-- the two digits of a byte
abbrev pub hex_pair : ℕ → List ℕ
hex_pair b = digit_of (b / 16) ∷ digit_of (b % 16) ∷ []

-- bytes in hexadecimal
unfoldable pub hex : List ℕ → List ℕ
hex [] = []
hex (b ∷ bs) = hex_pair b ++ hex bs

-- the value of a digit, its place among the sixteen; none for any other character
unfoldable pub value_of : ℕ → Option ℕ
value_of c = cond (in_range 48 57 c) (Some (c - 48)) (cond (in_range 65 70 c) (Some (c - 55)) None)

-- the character is a digit
abbrev pub is_hex_digit : ℕ → Bool
is_hex_digit c = is_some (value_of c)

-- pairs of digits, and nothing else
unfoldable pub is_hex : List ℕ → Bool
is_hex [] = true
is_hex (a ∷ []) = false
is_hex (a ∷ b ∷ rest) = (is_hex_digit a && is_hex_digit b) && is_hex rest

-- the byte that two digits stand for; a character that is no digit counts 16
abbrev pub byte_of : ℕ → ℕ → ℕ
byte_of a b = 16 * unwrap_or (value_of a) 16 + unwrap_or (value_of b) 16

-- the bytes that pairs of digits stand for
unfoldable pub unhex : List ℕ → List ℕ
unhex [] = []
unhex (a ∷ []) = []
unhex (a ∷ b ∷ rest) = byte_of a b ∷ unhex rest

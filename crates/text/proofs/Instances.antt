-- What the definitions give where docs/promises/ names a wrong answer.
use Prim.Native.Nat.{ℕ, ◌+◌, ◌/◌, ◌%◌, ◌^◌}
use mathlib.Core.Path.{◌≡◌, refl}
use mathlib.Core.List.{[], ◌∷◌, ◌++◌, map}
use mathlib.Core.Bool.{true, false}
use Rattle.std.specs.Prelude.{Some, None}
use Rattle.text.specs.Digits.{binary, bare, factor_text}
use Rattle.text.specs.Text.{ascii}
use Rattle.text.specs.Hex.{value_of, unhex}

pub digits_are : map binary (true ∷ false ∷ []) ≡ ascii "10"
digits_are = refl

-- a digit with 0, 1, 2 and 3 others behind it; past the highest, and past the ten that a number can have, it is 0
pub digit_places : map (λ (k : ℕ). 48 + 4718 / 10 ^ k % 10) (0 ∷ 1 ∷ 2 ∷ 3 ∷ 4 ∷ 10 ∷ []) ≡ ascii "817400"
digit_places = refl

-- "factors as 1.000"; all digits of one that no field takes
pub factor_thousandths : map factor_text (1000 ∷ 10234 ∷ 123456 ∷ []) ≡ ascii "1.000" ∷ ascii "10.234" ∷ ascii "123.456" ∷ []
unfolding bare
factor_thousandths = refl

-- the first and the last of each row of digits, and their neighbours that are none
pub hex_values : map value_of (ascii "09AF" ++ ascii "/:@Ga") ≡ Some 0 ∷ Some 9 ∷ Some 10 ∷ Some 15 ∷ None ∷ None ∷ None ∷ None ∷ None ∷ []
unfolding value_of
hex_values = refl

-- what a pair stands for in which a character is no digit: 16 in its place
pub no_digit_counts : unhex (ascii "G01g") ≡ 256 ∷ 32 ∷ []
unfolding unhex value_of
no_digit_counts = refl

-- What the definitions give where docs/promises/ names a wrong answer.
use mathlib.Core.Path.{◌≡◌, refl}
use mathlib.Core.Bool.{true, false}
use mathlib.Core.List.{[], ◌∷◌, map}
use lib.IntN.{pos}
use Rattle.text.specs.Text.{ascii}
use Rattle.text.specs.Digits.{bare}
use Rattle.numbers.specs.Numbers.{less, is_below, is_above}
use Rattle.numerals.specs.Writing.{scientific}
use Rattle.gauges.specs.Readings.{zero_value}
use Rattle.gauges.specs.Shown.{shown_text, switched}

-- 2.0000, which lies above 1.0000 and below 3.0000: no change
pub between_stays : map (switched (record { status = 0; value = record { mantissa = pos 20000; exponent = pos 0 } }) (record { mantissa = 10000; exponent = pos 0 }) (record { mantissa = 30000; exponent = pos 0 })) (true ∷ false ∷ []) ≡ true ∷ false ∷ []
unfolding less is_below is_above switched
between_stays = refl

-- a status of two digits is written with both, though no reading within its limits has one
pub status_digits : shown_text (record { status = 12; value = zero_value }) ≡ ascii "12,+0.0000E+00"
unfolding bare scientific
status_digits = refl

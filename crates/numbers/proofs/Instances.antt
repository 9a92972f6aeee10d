-- What the definitions give where docs/promises/ names a wrong answer.
use Prim.Native.Nat.{ℕ}
use mathlib.Core.Path.{◌≡◌, refl}
use mathlib.Core.Bool.{true, false}
use mathlib.Core.List.{List, [], ◌∷◌, map}
use lib.IntN.{ℤ, pos, negsuc, nat_abs}
use Rattle.numbers.specs.Numbers.{within_stops, is_five, is_zero, is_number, less, is_below}
use Rattle.numbers.specs.Rounding.{climb_within, digits, power, rounded, is_usable, held_within, multiplied_by}
use Rattle.numbers.specs.Units.{ratio, re_expressed}
use Rattle.numbers.specs.declared.threshold.Threshold.{Threshold}
use Rattle.numbers.specs.declared.value.Value.{Value}

abbrev threshold : ℕ → ℤ → Threshold
threshold m e = record { mantissa = m; exponent = e }

abbrev value : ℤ → ℤ → Value
value m e = record { mantissa = m; exponent = e }

-- "1.0000E-20 to 9.9999E+20": both ends, and the number beside each
pub end_stops : map within_stops (threshold 10000 (negsuc 19) ∷ threshold 99999 (pos 20) ∷ threshold 99999 (negsuc 20) ∷ threshold 10000 (pos 21) ∷ []) ≡ true ∷ true ∷ false ∷ false ∷ []
end_stops = refl

-- 0, zero with an exponent, 1.0000
abbrev few : List Value
few = value (pos 0) (pos 0) ∷ value (pos 0) (pos 1) ∷ value (pos 10000) (pos 0) ∷ []

pub zero_alone : map is_zero few ≡ true ∷ false ∷ false ∷ []
zero_alone = refl

pub zero_or_five : map is_number few ≡ true ∷ false ∷ true ∷ []
zero_or_five = refl

-- six digits, an exponent of 100, -9.9999E-99
pub five_alone : map is_five (value (pos 100000) (pos 0) ∷ value (pos 10000) (pos 100) ∷ value (negsuc 99998) (negsuc 98) ∷ []) ≡ false ∷ false ∷ true ∷ []
five_alone = refl

-- 2.0000 beside 1.0000
pub two_not_below : is_below (value (pos 20000) (pos 0)) (threshold 10000 (pos 0)) ≡ false
unfolding less is_below
two_not_below = refl

-- 1234, and two ties to three digits, one of which carries
pub three_digits : map (λ (n : ℕ). rounded 3 n 1 (pos 0)) (1234 ∷ 1235 ∷ 9995 ∷ []) ≡ threshold 123 (pos 3) ∷ threshold 124 (pos 3) ∷ threshold 100 (pos 4) ∷ []
unfolding climb_within digits power rounded
three_digits = refl

-- a part of 0, a part of 10^13, and two parts of 10^12
pub ratio_parts : map is_usable (ratio 0 1 ∷ ratio 1 0 ∷ ratio 10000000000000 1 ∷ ratio 1 10000000000000 ∷ ratio 1000000000000 1000000000000 ∷ []) ≡ false ∷ false ∷ false ∷ false ∷ true ∷ []
ratio_parts = refl

-- 7, -7 and the least number of 32 bits
pub magnitudes : map nat_abs (pos 7 ∷ negsuc 6 ∷ negsuc 2147483647 ∷ []) ≡ 7 ∷ 7 ∷ 2147483648 ∷ []
magnitudes = refl

-- W-202: 760 and 1.064 Torr in mbar, exact halves; 1E20 hPa in Pa and 1E-20 hPa in Torr, beyond the end stops; 1 Torr in micron, which through
-- hPa would be 999.98; 1.3333 hPa in Torr and that in hPa; what is no threshold
pub in_another_unit : re_expressed 1 0 (threshold 76000 (pos 2)) ∷ re_expressed 1 0 (threshold 10640 (pos 0)) ∷ re_expressed 4 2 (threshold 10000 (pos 20))
    ∷ re_expressed 4 1 (threshold 10000 (negsuc 19)) ∷ re_expressed 1 3 (threshold 10000 (pos 0)) ∷ re_expressed 4 1 (threshold 13333 (pos 0))
    ∷ re_expressed 1 4 (threshold 10001 (pos 0)) ∷ re_expressed 4 2 (threshold 1 (pos 0)) ∷ []
    ≡ threshold 10133 (pos 3) ∷ threshold 14186 (pos 0) ∷ threshold 99999 (pos 20) ∷ threshold 10000 (negsuc 19) ∷ threshold 10000 (pos 3) ∷ threshold 10001 (pos 0)
    ∷ threshold 13334 (pos 0) ∷ threshold 1 (pos 0) ∷ []
unfolding less climb_within digits power rounded held_within multiplied_by
in_another_unit = refl

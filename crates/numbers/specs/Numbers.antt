-- Thresholds and signed values as numbers: d.dddd times a power of ten (01, "Settings"; "Readings, switching, streaming").
use Rattle.std.specs.Prelude.{ℕ, suc, ◌-◌, ◌*◌, ◌^◌, ◌≤◌, ◌<◌, Bool, ◌&&◌, ◌||◌, eqb, ℤ, pos, negsuc, neg_ℤ, nat_abs, ◌*ℤ◌}
use Rattle.std.specs.Int.Signed.{lt_z, le_z}
use Rattle.ground.specs.Ranges.{in_range}
use Rattle.numbers.specs.declared.threshold.Threshold.{Threshold}
use Rattle.numbers.specs.declared.value.Value.{Value}

-- as many digits as a threshold and a value have
abbrev pub five : ℕ
five = 5

-- the least number of p digits, and that m is one of p digits
abbrev pub least : ℕ → ℕ
least p = 10 ^ (p - 1)

abbrev pub OfDigits : ℕ → ℕ → Type 0
OfDigits p m = (least p ≤ m) × (m < 10 * least p)

-- "magnitude 10000 to 99999"
abbrev pub five_digits : ℕ → Bool
five_digits m = in_range 10000 99999 m

-- e is from low to high
abbrev pub between : ℤ → ℤ → ℤ → Bool
between low high e = le_z low e && le_z e high

-- "1.0000E-20 to 9.9999E+20"
abbrev pub within_stops : Threshold → Bool
within_stops t = five_digits t.mantissa && between (negsuc 19) (pos 20) t.exponent

-- five digits, of either sign, and an exponent of two digits
abbrev pub is_five : Value → Bool
is_five v = five_digits (nat_abs v.mantissa) && between (negsuc 98) (pos 99) v.exponent

-- "Zero has exponent 0."
abbrev pub is_zero : Value → Bool
is_zero v = eqb (nat_abs v.mantissa) 0 && eqb (nat_abs v.exponent) 0

-- "a signed mantissa of 0 or magnitude 10000 to 99999"
abbrev pub is_number : Value → Bool
is_number v = is_zero v || is_five v

-- ten to the e as a fraction: what stands over its line, and what under it
abbrev pub tens : ℤ → ℕ
tens (pos n) = 10 ^ n
tens (negsuc n) = 1

abbrev pub tenths : ℤ → ℕ
tenths (pos n) = 1
tenths (negsuc n) = 10 ^ suc n

-- v is less than w: mantissas times ten to their exponents, over one denominator
unfoldable pub less : Value → Value → Bool
less v w =
    lt_z (v.mantissa *ℤ pos (tens v.exponent * tenths w.exponent)) (w.mantissa *ℤ pos (tens w.exponent * tenths v.exponent))

-- a threshold as the value that it is, and a value without its sign
abbrev pub as_value : Threshold → Value
as_value t = record { mantissa = pos t.mantissa; exponent = t.exponent }

abbrev pub unsigned : Value → Threshold
unsigned v = record { mantissa = nat_abs v.mantissa; exponent = v.exponent }

-- the value, a number, is less than the threshold, one within its stops
unfoldable pub is_below : Value → Threshold → Bool
is_below v t = is_number v && (within_stops t && less v (as_value t))

-- and so for more than the threshold
unfoldable pub is_above : Value → Threshold → Bool
is_above v t = is_number v && (within_stops t && less (as_value t) v)

-- a magnitude with the sign of z
abbrev pub signed : ℤ → ℕ → ℤ
signed (pos n) m = pos m
signed (negsuc n) m = neg_ℤ (pos m)

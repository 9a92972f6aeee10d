-- "rounded to five significant digits, half upwards" (01, "Settings"; "Readings, switching, streaming"), over the number p of digits.
use Rattle.std.specs.Prelude.{ℕ, zero, suc, ◌+◌, ◌-◌, ◌*◌, ◌/◌, ◌^◌, ◌≤◌, ◌<◌, Bool, cond, ◌&&◌, ltb, eqb, ℤ, pos, negsuc, nat_abs, ◌+ℤ◌, ◌-ℤ◌, Option, Some, None}
use Rattle.ground.specs.Ranges.{in_range}
use Rattle.numbers.specs.Numbers.{five, least, OfDigits, is_five, within_stops, less, as_value, signed, tens, tenths}
use Rattle.numbers.specs.declared.threshold.Threshold.{Threshold}
use Rattle.numbers.specs.declared.value.Value.{Value}
use Rattle.numbers.specs.declared.value.Ratio.{Ratio}

-- how many tens bring n up to `to`: the least k with to ≤ n * 10 ^ k, found within 18
unfoldable pub climb_within : ℕ → ℕ → ℕ → ℕ
climb_within zero n to = 0
climb_within (suc k) n to = cond (ltb n to) (suc (climb_within k (n * 10) to)) 0

abbrev pub climb : ℕ → ℕ → ℕ
climb = climb_within 18

-- n / d to the nearest whole number, half upwards
abbrev pub nearest : ℕ → ℕ → ℕ
nearest n d = (2 * n + d) / (2 * d)

-- how many tens n / d is moved up, or down, to have p digits before its point
abbrev pub up : ℕ → ℕ → ℕ → ℕ
up p n d = climb n (d * least p)

abbrev pub down : ℕ → ℕ → ℕ → ℕ
down p n d = climb d (n / (10 * least p) + 1)

-- the p digits of n / d; of five, 99999.5 and above becomes 100000
unfoldable pub digits : ℕ → ℕ → ℕ → ℕ
digits p n d = nearest (n * 10 ^ up p n d) (d * 10 ^ down p n d)

-- the power of ten that those digits stand for, for n / d times ten to the x
unfoldable pub power : ℕ → ℕ → ℕ → ℤ → ℤ
power p n d x = x +ℤ pos (p - 1 + down p n d) -ℤ pos (up p n d)

-- n / d times ten to the x, rounded to p significant digits
unfoldable pub rounded : ℕ → ℕ → ℕ → ℤ → Threshold
rounded p n d x =
    cond (eqb (digits p n d) (10 * least p)) (record { mantissa = least p; exponent = power p n d x +ℤ pos 1 })
    (record { mantissa = digits p n d; exponent = power p n d x })

-- "zero, or a result outside 1.0000E-20 to 9.9999E+20, is 0010"
abbrev pub held_to_stops : Threshold → Option Threshold
held_to_stops t = cond (within_stops t) (Some t) None

-- the threshold that n times ten to the x is
unfoldable pub fitted_to : ℕ → ℤ → Option Threshold
fitted_to n x = cond (eqb n 0) None (held_to_stops (rounded five n 1 x))

-- a ratio that is carried exactly: both parts from 1 to 10^12
abbrev pub is_usable : Ratio → Bool
is_usable r = in_range 1 1000000000000 r.over && in_range 1 1000000000000 r.under

-- the magnitude of v times r, rounded once to p digits; v.mantissa stands for d.dddd, so its power is four lower
abbrev pub product : ℕ → Value → Ratio → Threshold
product p v r = rounded p (nat_abs v.mantissa * r.over) r.under (v.exponent -ℤ pos 4)

-- v times r with its sign kept; zero, and what is no number or no ratio, stays as it is
unfoldable pub scaled_by : Value → Ratio → Value
scaled_by v r =
    cond (is_five v && is_usable r) (record { mantissa = signed v.mantissa (product five v r).mantissa; exponent = (product five v r).exponent }) v

-- the end stops, "1.0000E-20 and 9.9999E+20"
abbrev pub least_stop : Threshold
least_stop = record { mantissa = 10000; exponent = negsuc 19 }

abbrev pub most_stop : Threshold
most_stop = record { mantissa = 99999; exponent = pos 20 }

-- W-202: "held within 1.0000E-20 and 9.9999E+20": what is less than the one is that one, what is more than the other is the other
unfoldable pub held_within : Threshold → Threshold
held_within t = cond (less (as_value t) (as_value least_stop)) least_stop (cond (less (as_value most_stop) (as_value t)) most_stop t)

-- a threshold times r, rounded once and then held within the end stops; what is no threshold, or no ratio, stays as it is
unfoldable pub multiplied_by : Threshold → Ratio → Threshold
multiplied_by t r = cond (within_stops t && is_usable r) (held_within (product five (as_value t) r)) t

-- t's mantissa times ten to its exponent, over the denominator that t and u have in common
abbrev pub levelled : Threshold → Threshold → ℕ
levelled t u = t.mantissa * (tens t.exponent * tenths u.exponent)

-- t, with its point behind the first digit, is the number of p digits nearest to n / d times ten to the x, a tie going
-- upwards: no number of p digits above it is as near, and none below it nearer. n / d is taken 10 ^ (p - 1) times, as
-- t's mantissa is, and n / d lies below the middle of two numbers where twice it is less than their sum; fractions are
-- multiplied out.
pub record Nearest (p n d : ℕ) (x : ℤ) (t : Threshold) : Type 0 where
  pub above : (u : Threshold) → OfDigits p u.mantissa → levelled t u < levelled u t
      → 2 * (n * least p * tens x) * (tenths t.exponent * tenths u.exponent) < (levelled t u + levelled u t) * (d * tenths x)
  pub below : (u : Threshold) → OfDigits p u.mantissa → levelled u t < levelled t u
      → (levelled t u + levelled u t) * (d * tenths x) ≤ 2 * (n * least p * tens x) * (tenths t.exponent * tenths u.exponent)

-- "A threshold is an optional plus, up to 12 digits with at most one point and at least one digit, then optionally E, an
-- optional sign and one or two digits. It is rounded to five significant digits, half upwards; zero, or a result outside
-- 1.0000E-20 to 9.9999E+20, is 0010." (01, "Settings")
use Rattle.std.specs.Prelude.{ℤ, ℕ, List, [], ◌++◌, Bool, cond, ◌||◌, length, drop, eqb, pos, neg_ℤ, ◌-ℤ◌, ◌≤ℤ◌, Option, Some, None, Result, Ok, Err}
use Prim.Native.Char.{code}
use Rattle.numbers.specs.Rounding.{fitted_to}
use Rattle.numerals.specs.Runs.{lead, rest, head_is, length_in, value}
use Rattle.numerals.specs.Whole.{number_of}
use Rattle.numerals.specs.declared.exponential.ThresholdFault.{ThresholdFault}
use Rattle.numerals.specs.declared.exponential.ThresholdFault.TheVariants.{Malformed, OutOfRange}
use Rattle.numbers.specs.declared.threshold.Threshold.{Threshold}

-- 01's error word for each case: 0001, syntax, for a fault of form, and 0010, inadmissible parameter, for one of value
abbrev pub threshold_fault : Result Threshold ThresholdFault → ℕ
threshold_fault (Ok t) = 0
threshold_fault (Err Malformed) = 1
threshold_fault (Err OutOfRange) = 10

-- "an optional plus": what stands behind it
unfoldable pub after_plus : List ℕ → List ℕ
after_plus s = cond (head_is (code "+") s) (drop 1 s) s

-- "one or two digits": what a power that was read keeps within
abbrev pub TwoDigits : ℤ → Type 0
TwoDigits e = (neg_ℤ (pos 99) ≤ℤ e) × (e ≤ℤ pos 99)

-- "an optional sign and one or two digits"
abbrev pub with_sign : Bool → Option ℕ → Option ℤ
with_sign minus (Some n) = Some (cond minus (neg_ℤ (pos n)) (pos n))
with_sign minus None = None

unfoldable pub after_sign : List ℕ → List ℕ
after_sign s = cond (head_is (code "-") s || head_is (code "+") s) (drop 1 s) s

abbrev pub signed_power : List ℕ → Option ℤ
signed_power s = with_sign (head_is (code "-") s) (number_of 2 (after_sign s))

-- "then optionally E": without it the power is 0
unfoldable pub power_of : List ℕ → Option ℤ
power_of s = cond (eqb (length s) 0) (Some (pos 0)) (cond (head_is (code "E") s) (signed_power (drop 1 s)) None)

-- "zero, or a result outside 1.0000E-20 to 9.9999E+20" is a fault of value
abbrev pub fitted_numeral : Option Threshold → Result Threshold ThresholdFault
fitted_numeral (Some t) = Ok t
fitted_numeral None = Err OutOfRange

-- all digits, k of them behind the point, and the power
abbrev pub weighed : List ℕ → ℕ → Option ℤ → Result Threshold ThresholdFault
weighed digits k (Some e) = fitted_numeral (fitted_to (value 0 digits) (e -ℤ pos k))
weighed digits k None = Err Malformed

-- "up to 12 digits .. and at least one digit", those before the point and those behind it, and what follows them
unfoldable pub composed : List ℕ → List ℕ → List ℕ → Result Threshold ThresholdFault
composed whole fraction s =
    cond (length_in 1 12 (whole ++ fraction)) (weighed (whole ++ fraction) (length fraction) (power_of s)) (Err Malformed)

-- "with at most one point": the digits behind it, and what follows them
unfoldable pub fraction : List ℕ → List ℕ
fraction s = cond (head_is (code ".") s) (lead (drop 1 s)) []

unfoldable pub after_fraction : List ℕ → List ℕ
after_fraction s = cond (head_is (code ".") s) (rest (drop 1 s)) s

-- the parts of what was sent: the digits before the point, those behind it, and the power
abbrev pub whole_part : List ℕ → List ℕ
whole_part s = lead (after_plus s)

abbrev pub fraction_part : List ℕ → List ℕ
fraction_part s = fraction (rest (after_plus s))

abbrev pub power_part : List ℕ → List ℕ
power_part s = after_fraction (rest (after_plus s))

-- the whole sentence
unfoldable pub threshold_of : List ℕ → Result Threshold ThresholdFault
threshold_of s = composed (whole_part s) (fraction_part s) (power_part s)

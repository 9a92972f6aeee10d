-- What is shown of a reading, and the switching by it (01, "Readings, switching, streaming").
use Rattle.std.specs.Prelude.{ℕ, Bool, true, false, cond, List, ◌∷◌, ◌++◌, eqb, pos, negsuc}
use Prim.Native.Char.{code}
use Rattle.text.specs.Digits.{whole_text}
use Rattle.numbers.specs.Numbers.{is_below, is_above}
use Rattle.numbers.specs.Rounding.{scaled_by}
use Rattle.numbers.specs.declared.threshold.Threshold.{Threshold}
use Rattle.numbers.specs.declared.value.Value.{Value}
use Rattle.numbers.specs.Units.{from_hpa}
use Rattle.numerals.specs.Writing.{value_text}
use Rattle.gauges.specs.declared.reading.Reading.{Reading}
use Rattle.gauges.specs.declared.shown.Shown.{Shown}

-- "Status 5 shows 2.0000E-02 hPa."
abbrev pub absent_shows : Value
absent_shows = record { mantissa = pos 20000; exponent = negsuc 1 }

-- what there is to show of a reading, in hPa
abbrev pub in_hpa : Reading → Value
in_hpa r = cond (eqb r.status 5) absent_shows r.value

-- the status, and the value in the unit, "magnitude rounded to five digits, half upwards"
abbrev pub shown_of : Reading → ℕ → Shown
shown_of r unit = record { status = r.status; value = scaled_by (in_hpa r) (from_hpa unit) }

-- "status, comma, sign (+ for zero), d.ddddE, sign, two digits"
abbrev pub shown_text : Shown → List ℕ
shown_text s = whole_text s.status ++ (code "," ∷ value_text s.value)

-- "A reading of that channel with status not 0 sets it off; with status 0, its shown value below the lower threshold sets it on,
-- else above the upper one off, else no change."
unfoldable pub switched : Shown → Threshold → Threshold → Bool → Bool
switched s lower upper was =
    cond (eqb s.status 0)
    (cond (is_below s.value lower) true (cond (is_above s.value upper) false was))
    false

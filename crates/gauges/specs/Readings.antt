-- A reading of a gauge and its limits (01, "Readings, switching, streaming"; 02, W-201).
use Rattle.std.specs.Prelude.{ℕ, Bool, not, ◌&&◌, ◌||◌, leb, ltb, eqb, pos, negsuc}
use Rattle.std.specs.Bool.{beq}
use Rattle.numbers.specs.Numbers.{between, is_zero, is_number}
use Rattle.numbers.specs.declared.value.Value.{Value}
use Rattle.gauges.specs.declared.reading.Reading.{Reading}

-- "gauge kind 0 to 7 (...), status 0 to 6"; W-201: "a new kind 8", so how many kinds there are belongs to the model
abbrev pub kind_and_status : ℕ → Reading → Bool
kind_and_status kinds r = ltb r.kind kinds && leb r.status 6

-- "a signed mantissa of 0 or magnitude 10000 to 99999 and an exponent -20 to 20"; "Zero has exponent 0."
abbrev pub value_in_range : Value → Bool
value_in_range v = is_number v && between (negsuc 19) (pos 20) v.exponent

-- "Status is 5 exactly when kind is 6, and the value is then zero"
abbrev pub sensor_agrees : Reading → Bool
sensor_agrees r = beq (eqb r.status 5) (eqb r.kind 6) && (not (eqb r.kind 6) || is_zero r.value)

-- "status is 6 exactly when kind is 7"
abbrev pub identifier_agrees : Reading → Bool
identifier_agrees r = beq (eqb r.status 6) (eqb r.kind 7)

-- all limits of a reading
unfoldable pub within_limits : ℕ → Reading → Bool
within_limits kinds r = kind_and_status kinds r && value_in_range r.value && sensor_agrees r && identifier_agrees r

-- "Zero has exponent 0."
abbrev pub zero_value : Value
zero_value = record { mantissa = pos 0; exponent = pos 0 }

-- "A channel without a reading is status 5, kind 6."
abbrev pub no_reading : Reading
no_reading = record { kind = 6; status = 5; value = zero_value }

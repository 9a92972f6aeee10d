-- What the limits of a reading tell: above all that status 5 is a channel without a reading and nothing else.
use Prim.Native.Nat.{ℕ, suc, ◌<◌}
use mathlib.Core.Path.{◌≡◌, sym, ap, ap₂, ◌∙◌}
use mathlib.Core.Bool.{beq, true, not, ◌&&◌, ◌||◌, and-eq-true_iff}
use native.Mathlib.Omega.{arith}
use borrow.Author.Tests.{eq-eqb, eqb-true, lt-ltb}
use lib.Dec.{eqb}
use lib.IntN.{ℤ, pos, negsuc, nat_abs}
use Rattle.ground.proofs.Cases.{beq_same}
use Rattle.numbers.specs.Numbers.{is_zero}
use Rattle.numbers.specs.declared.value.Value.{Value}
use Rattle.gauges.specs.Readings.{kind_and_status, value_in_range, sensor_agrees, identifier_agrees, within_limits, zero_value, no_reading}
use Rattle.gauges.specs.declared.reading.Reading.{Reading}

-- where there is a kind 6, no reading is a reading
pub none_within : (kinds : ℕ) → 6 < kinds → within_limits kinds no_reading ≡ true
unfolding within_limits
none_within kinds h = rw (lt-ltb 6 kinds h)

abs_zero : (z : ℤ) → nat_abs z ≡ 0 → z ≡ pos 0
abs_zero (pos n) e = ap pos e
abs_zero (negsuc n) e = absurd (let h : suc n ≡ 0 = e in omega arith)

-- zero is zero, in both parts
pub zero_is : (v : Value) → is_zero v ≡ true → v ≡ zero_value
zero_is v h =
    let b = (and-eq-true_iff (eqb (nat_abs v.mantissa) 0) (eqb (nat_abs v.exponent) 0)).0 h in
    ap₂ (λ (m e : ℤ). record { mantissa = m; exponent = e })
    (abs_zero v.mantissa (eqb-true _ _ b.0))
    (abs_zero v.exponent (eqb-true _ _ b.1))

module _ (kinds : ℕ) (r : Reading) (h : within_limits kinds r ≡ true) where
  tests : (kind_and_status kinds r && value_in_range r.value && sensor_agrees r ≡ true) × (identifier_agrees r ≡ true)
  unfolding within_limits
  tests = (and-eq-true_iff (kind_and_status kinds r && value_in_range r.value && sensor_agrees r) (identifier_agrees r)).0 h

  ranges : (kind_and_status kinds r && value_in_range r.value ≡ true) × (sensor_agrees r ≡ true)
  ranges = (and-eq-true_iff (kind_and_status kinds r && value_in_range r.value) (sensor_agrees r)).0 tests.0

  pub known : kind_and_status kinds r ≡ true
  known = ((and-eq-true_iff (kind_and_status kinds r) (value_in_range r.value)).0 ranges.0).0

  pub in_range_lem : value_in_range r.value ≡ true
  in_range_lem = ((and-eq-true_iff (kind_and_status kinds r) (value_in_range r.value)).0 ranges.0).1

  sensor : (eqb r.status 5 ≡ eqb r.kind 6) × (not (eqb r.kind 6) || is_zero r.value ≡ true)
  sensor =
      let s = (and-eq-true_iff (beq (eqb r.status 5) (eqb r.kind 6)) (not (eqb r.kind 6) || is_zero r.value)).0 ranges.1 in
      (beq_same (eqb r.status 5) (eqb r.kind 6) s.0, s.1)

  absent : eqb r.kind 6 ≡ true → r ≡ no_reading
  absent k =
      let z : is_zero r.value ≡ true = rw k at sensor.1 in
      let s = eqb-true r.status 5 (sensor.0 ∙ k) in
      ap₂ (λ (a b : ℕ). record { kind = a; status = b; value = r.value }) (eqb-true r.kind 6 k) s
      ∙ ap (λ (v : Value). record { kind = 6; status = 5; value = v }) (zero_is r.value z)

  -- a gauge of kind 6 is a channel without a reading, and so is a reading of status 5
  pub absent_kind : r.kind ≡ 6 → r ≡ no_reading
  absent_kind six = absent (eq-eqb r.kind 6 six)

  pub absent_status : r.status ≡ 5 → r ≡ no_reading
  absent_status five = absent (sym sensor.0 ∙ eq-eqb r.status 5 five)

  -- status 6 is an unknown gauge
  pub identified : eqb r.status 6 ≡ eqb r.kind 7
  identified = beq_same (eqb r.status 6) (eqb r.kind 7) tests.1

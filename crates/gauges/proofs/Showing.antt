-- A shown value is the nearest to the exact one in every unit, is a number that two exponent digits write, and switches on good data alone.
use Prim.Native.Nat.{ℕ, ◌*◌, ◌≤◌}
use mathlib.Core.Path.{◌≡◌, refl, sym, ap, ap₂, ◌∙◌}
use mathlib.Core.Bool.{Bool, true, false, cond, false≢true, ◌&&◌, and-eq-true_iff}
use mathlib.Core.Logic.{◌⊎◌, inl, inr, ⊎_elim}
use native.Mathlib.Omega.{arith}
use borrow.Author.Tests.{le-leb, leb-true, eqb-true}
use lib.Dec.{eqb, leb, ltb}
use lib.IntN.{pos, negsuc, nat_abs, ◌-ℤ◌}
use lib.ListN.{length}
use Rattle.ground.proofs.Cases.{or_either, or_right, cond_cases}
use Rattle.text.specs.Text.{ascii}
use Rattle.text.proofs.Decimals.{whole_digit}
use Rattle.numbers.specs.Numbers.{five, between, is_zero, is_five, is_number, is_below, is_above, signed, unsigned}
use Rattle.numbers.specs.Rounding.{is_usable, scaled_by, Nearest}
use Rattle.numbers.specs.declared.threshold.Threshold.{Threshold}
use Rattle.numbers.specs.declared.value.Value.{Value}
use Rattle.numbers.specs.Units.{from_hpa}
use Rattle.numbers.proofs.Signed.{between_near, near_between}
use Rattle.numbers.proofs.Scaling.{scaled_nearest, scaled_five, scaled_near, scaled_sign, scaled_not}
use Rattle.numbers.proofs.UnitFactors.{usable}
use Rattle.numerals.specs.Writing.{scientific, value_text}
use Rattle.gauges.specs.Readings.{value_in_range, within_limits, zero_value}
use Rattle.gauges.specs.Shown.{absent_shows, in_hpa, shown_of, shown_text, switched}
use Rattle.gauges.specs.declared.reading.Reading.{Reading}
use Rattle.gauges.specs.declared.shown.Shown.{Shown}
use Rattle.gauges.proofs.ReadingLimits.{zero_is, known, in_range_lem}

module _ (r : Reading) (unit : ℕ) (h : is_five (in_hpa r) ≡ true) where
  scalable : is_five (in_hpa r) && is_usable (from_hpa unit) ≡ true
  scalable = ap₂ ◌&&◌ h (usable unit)

  -- in any unit the shown value is the five-digit number nearest to the exact one, a tie going upwards
  pub shown_nearest : Nearest five
      (nat_abs (in_hpa r).mantissa * (from_hpa unit).over) (from_hpa unit).under ((in_hpa r).exponent -ℤ pos 4)
      (unsigned (shown_of r unit).value)
  shown_nearest = scaled_nearest (in_hpa r) (from_hpa unit) scalable

  -- the sign is kept
  pub shown_sign : (shown_of r unit).value.mantissa ≡ signed (in_hpa r).mantissa (nat_abs (shown_of r unit).value.mantissa)
  shown_sign = scaled_sign (in_hpa r) (from_hpa unit) scalable

module _ (r : Reading) (unit : ℕ) (zero : is_zero (in_hpa r) ≡ true) where
  shown_zero : (shown_of r unit).value ≡ zero_value
  shown_zero =
      ap (λ (v : Value). scaled_by v (from_hpa unit)) (zero_is (in_hpa r) zero)
      ∙ sym (scaled_not zero_value (from_hpa unit) refl)

  -- "Zero stays +0.0000E+00."
  pub zero_stays : value_text (shown_of r unit).value ≡ ascii "+0.0000E+00"
  unfolding scientific
  zero_stays = ap value_text shown_zero

module _ (kinds : ℕ) (r : Reading) (unit : ℕ) (h : within_limits kinds r ≡ true) where
  to_show : value_in_range (in_hpa r) ≡ true
  to_show =
      cond_cases (λ (v : Value). value_in_range v ≡ true) (eqb r.status 5) absent_shows r.value
      (λ e. refl) (λ e. in_range_lem kinds r h)

  limits : (is_number (in_hpa r) ≡ true) × (between (negsuc 19) (pos 20) (in_hpa r).exponent ≡ true)
  limits = (and-eq-true_iff (is_number (in_hpa r)) (between (negsuc 19) (pos 20) (in_hpa r).exponent)).0 to_show

  zero_or_digits : (is_zero (in_hpa r) ≡ true) ⊎ (is_five (in_hpa r) ≡ true)
  zero_or_digits = or_either (is_zero (in_hpa r)) (is_five (in_hpa r)) limits.0

  -- its exponent has two digits
  pub shown_exponent : nat_abs (shown_of r unit).value.exponent ≤ 45
  shown_exponent =
      ⊎_elim (λ (z : is_zero (in_hpa r) ≡ true). rw (shown_zero r unit z) (omega arith))
      (λ (f : is_five (in_hpa r) ≡ true).
      let moved = scaled_near (in_hpa r) (from_hpa unit) (scalable r unit f) in
      omega (arith, between_near 19 (in_hpa r).exponent limits.1, moved))
      zero_or_digits

  -- so it is a number, which thresholds are compared with
  pub shown_number : is_number (shown_of r unit).value ≡ true
  shown_number =
      ⊎_elim (λ (z : is_zero (in_hpa r) ≡ true). rw (shown_zero r unit z))
      (λ (f : is_five (in_hpa r) ≡ true).
      let d = scaled_five (in_hpa r) (from_hpa unit) (scalable r unit f) in
      let m = nat_abs (shown_of r unit).value.mantissa in
      let digits = ap₂ ◌&&◌ (le-leb 10000 m d.0) (le-leb m 99999 (omega (arith, d.1))) in
      let two = near_between 98 (shown_of r unit).value.exponent (omega (arith, shown_exponent)) in
      or_right (is_zero (shown_of r unit).value) (is_five (shown_of r unit).value) (ap₂ ◌&&◌ digits two))
      zero_or_digits

  -- with its status of one digit it makes thirteen bytes
  pub shown_length : length (shown_text (shown_of r unit)) ≡ 13
  unfolding scientific
  shown_length =
      let six = leb-true r.status 6 ((and-eq-true_iff (ltb r.kind kinds) (leb r.status 6)).0 (known kinds r h)).1 in
      rw (whole_digit r.status (omega arith))

on_tests : (good low high was : Bool) → cond good (cond low true (cond high false was)) false ≡ true
    → (good ≡ true) × ((low ≡ true) ⊎ (was ≡ true))
on_tests true true high was e = (refl, inl refl)
on_tests true false true was e = absurd (false≢true e)
on_tests true false false was e = (refl, inr e)
on_tests false low high was e = absurd (false≢true e)

-- what is on after a reading had good data, below the lower threshold or on before
pub on_good : (s : Shown) (lower upper : Threshold) (was : Bool) → switched s lower upper was ≡ true
    → (s.status ≡ 0) × ((is_below s.value lower ≡ true) ⊎ (was ≡ true))
unfolding switched
on_good s lower upper was h =
    let b = on_tests (eqb s.status 0) (is_below s.value lower) (is_above s.value upper) was h in
    (eqb-true _ _ b.0, b.1)

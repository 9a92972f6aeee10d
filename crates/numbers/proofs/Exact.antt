-- A number that has p digits needs no rounding: it is what the quotient is rounded to; by a power of ten only its exponent moves.
use Prim.Native.Nat.{ℕ, ◌+◌, ◌-◌, ◌*◌, ◌^◌, ◌<◌}
use mathlib.Core.Path.{◌≡◌, refl, sym, ap, ◌∙◌}
use native.Mathlib.Omega.{arith}
use native.Mathlib.Nat.{mul-one, mul-pos, mul-le-mul_right, mul-lt-mul_of_pos_right, eq_of_mul-eq-mul_right, one-le-pow, pow-le-pow_right, le_of_lt}
use lib.Pow.{pow-add}
use lib.IntN.{ℤ, pos, ◌+ℤ◌, ◌-ℤ◌, +ℤ_assoc, -ℤ-+ℤ_cancel}
use Rattle.numbers.specs.Numbers.{least, OfDigits, tens, tenths}
use Rattle.numbers.specs.Rounding.{rounded, Nearest}
use Rattle.numbers.specs.declared.threshold.Threshold.{Threshold}
use Rattle.numbers.proofs.Fractions.{tenths_some, tens_level}
use Rattle.numbers.proofs.Nearest.{Count, Rounds, rounded_digits, rounded_nearest, nearest_only}
use Rattle.numbers.proofs.Order.{same_number}

module _ (p n d : ℕ) (x : ℤ) (t : Threshold) where
  -- n / d times ten to the x is t
  abbrev Exactly : Type 0
  Exactly = n * least p * tens x * tenths t.exponent ≡ t.mantissa * tens t.exponent * (d * tenths x)

  exact_nearest : 0 < d → Exactly → Nearest p n d x t
  exact_nearest z q =
      let s = mul-pos z (tenths_some x) in
      record {
        above = λ u _ h. omega (arith, ap (λ (k : ℕ). k * tenths u.exponent) q, mul-lt-mul_of_pos_right h s);
        below = λ u _ h. omega (arith, ap (λ (k : ℕ). k * tenths u.exponent) q, mul-le-mul_right (d * tenths x) (le_of_lt h));
      }

  pub rounded_exact : Rounds p n d → OfDigits p t.mantissa → Exactly → rounded p n d x ≡ t
  rounded_exact fit h q =
      let r = rounded_digits p n d fit x in
      same_number p (rounded p n d x) t r h (nearest_only fit.under.0 (rounded_nearest p n d fit x) (exact_nearest fit.under.0 q) r h)

-- m times a ratio of ten to the j over ten to the i has m's digits, j tens higher and i lower
pub round_power : (p m over under i j : ℕ) (e f : ℤ) → Rounds p (m * over) under → OfDigits p m → over * 10 ^ i ≡ under * 10 ^ j → f +ℤ pos i ≡ e +ℤ pos j
    → rounded p (m * over) under (e -ℤ pos (p - 1)) ≡ record { mantissa = m; exponent = f }
round_power p m over under i j e f fit h r q =
    rounded_exact p (m * over) under x (record { mantissa = m; exponent = f }) fit h
    (eq_of_mul-eq-mul_right (10 ^ j) (one-le-pow j 10 (omega arith)) _ _
    (omega (arith, ap (λ (k : ℕ). k * (m * over)) level, ap (λ (k : ℕ). k * (m * (tens f * tenths x))) r)))
  where
    x : ℤ
    x = e -ℤ pos (p - 1)

    higher : x +ℤ pos (p - 1 + j) ≡ f +ℤ pos i
    higher = sym (+ℤ_assoc x (pos (p - 1)) (pos j)) ∙ ap (λ z. z +ℤ pos j) (-ℤ-+ℤ_cancel e (pos (p - 1))) ∙ sym q

    level : least p * 10 ^ j * (tens x * tenths f) ≡ 10 ^ i * (tens f * tenths x)
    level = rw (pow-add 10 (p - 1) j) at (tens_level x f (p - 1 + j) i higher)

-- a number of p digits stays as it is
pub round_same : (p : ℕ) → Count p → (t : Threshold) → OfDigits p t.mantissa → rounded p t.mantissa 1 (t.exponent -ℤ pos (p - 1)) ≡ t
round_same p count t h =
    let m = t.mantissa in
    let some = one-le-pow (p - 1) 10 (omega arith) in
    let few = pow-le-pow_right {n = 10} (omega arith) {i = p - 1} {j = 4} (omega arith) in
    let fit : Rounds p (m * 1) 1 = record { count = count; over = omega arith; under = omega arith } in
    rw (mul-one m) at (round_power p m 1 1 0 0 t.exponent t.exponent fit h refl refl)

-- A value times a ratio: what is carried, that the result is the nearest of five digits, and that the sign is kept.
use Prim.Native.Nat.{ℕ, ◌+◌, ◌*◌, ◌^◌, ◌≤◌}
use mathlib.Core.Path.{◌≡◌, refl}
use mathlib.Core.Bool.{true, false, ◌&&◌, and-eq-true_iff}
use mathlib.Core.Logic.{⊎_elim}
use mathlib.Mathlib.Data.Bool.Basic.{dichotomy}
use native.Mathlib.Omega.{arith}
use native.Mathlib.Nat.{mul-le-mul}
use lib.Dec.{leb}
use lib.IntN.{ℤ, pos, negsuc, nat_abs, ◌+ℤ◌, ◌-ℤ◌}
use Rattle.ground.proofs.Cases.{in_range_lem}
use Rattle.numbers.specs.Numbers.{five, OfDigits, five_digits, between, is_five, signed, unsigned}
use Rattle.numbers.specs.Rounding.{is_usable, product, scaled_by, Nearest}
use Rattle.numbers.specs.declared.value.Value.{Value}
use Rattle.numbers.specs.declared.value.Ratio.{Ratio}
use Rattle.numbers.proofs.Signed.{abs_minus, abs_neg, between_near}
use Rattle.numbers.proofs.Nearest.{Count, Rounds, rounded_digits, rounded_near, rounded_nearest, of_five}
use Rattle.numbers.proofs.Exact.{round_power}

abs_signed : (z : ℤ) (m : ℕ) → nat_abs (signed z m) ≡ m
abs_signed (pos n) m = refl
abs_signed (negsuc n) m = abs_neg (pos m)

module _ (v : Value) (r : Ratio) (h : is_five v && is_usable r ≡ true) where
  pub value_range : OfDigits five (nat_abs v.mantissa) × (nat_abs v.exponent ≤ 99)
  value_range =
      let b = (and-eq-true_iff (five_digits (nat_abs v.mantissa)) (between (negsuc 98) (pos 99) v.exponent)).0 ((and-eq-true_iff (is_five v) (is_usable r)).0 h).0 in
      (of_five (nat_abs v.mantissa) b.0, between_near 98 v.exponent b.1)

  module _ (p : ℕ) (count : Count p) where
    -- the product of a value and a ratio is one that rounds
    pub product_rounds : Rounds p (nat_abs v.mantissa * r.over) r.under
    product_rounds =
        let parts = (and-eq-true_iff (leb 1 r.over && leb r.over 1000000000000) (leb 1 r.under && leb r.under 1000000000000)).0 ((and-eq-true_iff (is_five v) (is_usable r)).0 h).1 in
        let over = in_range_lem 1 1000000000000 r.over parts.0 in
        let under = in_range_lem 1 1000000000000 r.under parts.1 in
        omega (arith, mul-le-mul value_range.0.0 over.0, mul-le-mul value_range.0.1 over.1)

    pub product_digits : OfDigits p (product p v r).mantissa
    product_digits = rounded_digits p _ _ product_rounds (v.exponent -ℤ pos 4)

    -- it is the number of p digits nearest to the exact one
    pub product_nearest : Nearest p (nat_abs v.mantissa * r.over) r.under (v.exponent -ℤ pos 4) (product p v r)
    product_nearest = rounded_nearest p _ _ product_rounds (v.exponent -ℤ pos 4)

  -- by a ratio of ten to the j over ten to the i only the exponent moves
  pub product_power : (i j : ℕ) (f : ℤ) → r.over * 10 ^ i ≡ r.under * 10 ^ j → f +ℤ pos i ≡ v.exponent +ℤ pos j
      → product five v r ≡ record { mantissa = nat_abs v.mantissa; exponent = f }
  product_power i j f =
      round_power five (nat_abs v.mantissa) r.over r.under i j v.exponent f (product_rounds five (omega arith)) value_range.0

  pub scaled_is : scaled_by v r ≡ record { mantissa = signed v.mantissa (product five v r).mantissa; exponent = (product five v r).exponent }
  unfolding scaled_by
  scaled_is = rw h

  -- a value times a ratio is the five-digit number nearest to the product of their magnitudes, a tie going away from zero
  pub scaled_nearest : Nearest five (nat_abs v.mantissa * r.over) r.under (v.exponent -ℤ pos 4) (unsigned (scaled_by v r))
  scaled_nearest = rw (scaled_is, abs_signed) (product_nearest five (omega arith))

  pub scaled_five : OfDigits five (nat_abs (scaled_by v r).mantissa)
  scaled_five = rw (scaled_is, abs_signed) (product_digits five (omega arith))

  -- its exponent stays near
  pub scaled_near : nat_abs (scaled_by v r).exponent ≤ nat_abs v.exponent + 25
  scaled_near =
      rw scaled_is (omega (arith, rounded_near five _ _ (product_rounds five (omega arith)) (v.exponent -ℤ pos 4), abs_minus v.exponent (pos 4)))

  -- its sign is kept
  pub scaled_sign : (scaled_by v r).mantissa ≡ signed v.mantissa (nat_abs (scaled_by v r).mantissa)
  scaled_sign = rw (scaled_is, abs_signed)

signed_abs : (z : ℤ) → signed z (nat_abs z) ≡ z
signed_abs (pos n) = refl
signed_abs (negsuc n) = refl

-- what is not scaled stays as it is
pub scaled_not : (v : Value) (r : Ratio) → is_five v && is_usable r ≡ false → v ≡ scaled_by v r
unfolding scaled_by
scaled_not v r h = rw h

-- and so does what is scaled by one
pub scaled_one : (v : Value) (r : Ratio) → r.over ≡ 1 → r.under ≡ 1 → v ≡ scaled_by v r
scaled_one v r o u =
    ⊎_elim (scaled_not v r) (λ (h : is_five v && is_usable r ≡ true).
    rw (scaled_is v r h, product_power v r h 0 0 v.exponent (omega arith) refl, signed_abs)) (dichotomy (is_five v && is_usable r))

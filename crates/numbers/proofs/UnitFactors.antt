-- The table of units: the parts of every factor are small, and the factors stand to each other as 01 says; thresholds in another unit.
use Prim.Native.Nat.{ℕ, ◌*◌, ◌≤◌}
use mathlib.Core.Path.{◌≡◌, refl, sym, ◌∙◌}
use mathlib.Core.Bool.{Bool, true, ◌&&◌, and-eq-true_iff}
use native.Mathlib.Omega.{arith}
use native.Mathlib.Nat.{mul-le-mul, mul-pos}
use lib.IntN.{pos, ◌+ℤ◌, ◌-ℤ◌, +ℤ_idr, -ℤ-+ℤ_cancel}
use Rattle.ground.specs.Members.{every}
use Rattle.ground.specs.Ranges.{in_range}
use Rattle.ground.proofs.Cases.{in_range_lem, to_range}
use Rattle.ground.proofs.Members.{each_at, every_each}
use Rattle.numbers.specs.Numbers.{five, OfDigits, within_stops}
use Rattle.numbers.specs.Rounding.{is_usable, held_within, Nearest}
use Rattle.numbers.specs.Units.{ratio, units, from_hpa, factor_between, re_expressed}
use Rattle.numbers.specs.declared.threshold.Threshold.{Threshold}
use Rattle.numbers.specs.declared.value.Ratio.{Ratio}
use Rattle.numbers.proofs.Holding.{multiplied_nearest, multiplied_power, multiplied_one, multiplied_stops}

-- ---- the table

abbrev is_small : Ratio → Bool
is_small r = in_range 1 10000000 r.over && in_range 1 10000 r.under

-- the parts of every factor, so that a product of two is carried exactly
pub parts : (unit : ℕ) → ((1 ≤ (from_hpa unit).over) × ((from_hpa unit).over ≤ 10000000)) × ((1 ≤ (from_hpa unit).under) × ((from_hpa unit).under ≤ 10000))
unfolding every
parts unit =
    let each = each_at (λ (r : Ratio). is_small r ≡ true) units (ratio 1 1) refl (every_each is_small units refl) unit in
    let both = (and-eq-true_iff (in_range 1 10000000 (from_hpa unit).over) (in_range 1 10000 (from_hpa unit).under)).0 each in
    (in_range_lem 1 10000000 (from_hpa unit).over both.0, in_range_lem 1 10000 (from_hpa unit).under both.1)

is_usable_lem : (r : Ratio) → (1 ≤ r.over) × (r.over ≤ 1000000000000) → (1 ≤ r.under) × (r.under ≤ 1000000000000) → is_usable r ≡ true
is_usable_lem r o u = rw (to_range 1 1000000000000 r.over o.0 o.1, to_range 1 1000000000000 r.under u.0 u.1)

pub usable : (unit : ℕ) → is_usable (from_hpa unit) ≡ true
usable unit = let p = parts unit in is_usable_lem (from_hpa unit) (omega arith) (omega arith)

-- "760 Torr = 101325 Pa"
pub torr : 760 * ((from_hpa 2).over * (from_hpa 1).under) ≡ 101325 * ((from_hpa 1).over * (from_hpa 2).under)
torr = refl

-- "micron a thousand times Torr"
pub micron : (from_hpa 3).over * (from_hpa 1).under ≡ 1000 * ((from_hpa 1).over * (from_hpa 3).under)
micron = refl

-- ---- from one unit to another

-- a part of a factor: what stands over one unit's line times what stands under the other's
pub factor_part : (unit other : ℕ) → (1 ≤ (from_hpa unit).over * (from_hpa other).under) × ((from_hpa unit).over * (from_hpa other).under ≤ 100000000000)
factor_part unit other =
    let p = parts unit in
    let q = parts other in
    (mul-pos p.0.0 q.1.0, omega (arith, mul-le-mul p.0.1 q.1.1))

module _ (old new : ℕ) where
  pub factor_usable : is_usable (factor_between old new) ≡ true
  factor_usable =
      let o = factor_part new old in
      let u = factor_part old new in
      is_usable_lem (factor_between old new) (omega arith) (omega arith)

  -- what is so many hPa in the old unit, times the factor, is so many in the new one
  pub factor_between_lem : (factor_between old new).over * ((from_hpa old).over * (from_hpa new).under) ≡ (factor_between old new).under * ((from_hpa new).over * (from_hpa old).under)
  factor_between_lem = omega arith

  module _ (t : Threshold) where
    scaled : within_stops t ≡ true → within_stops t && is_usable (factor_between old new) ≡ true
    scaled w = rw (w, factor_usable)

    -- W-202: the number of five digits nearest to the exact product, a tie going upwards, held within the end stops
    pub re_expressed_nearest : within_stops t ≡ true → (u : Threshold) → OfDigits five u.mantissa
        → Nearest five (t.mantissa * (factor_between old new).over) (factor_between old new).under (t.exponent -ℤ pos 4) u → re_expressed old new t ≡ held_within u
    re_expressed_nearest w = multiplied_nearest t (factor_between old new) (scaled w)

    pub re_expressed_stops : within_stops t ≡ true → within_stops (re_expressed old new t) ≡ true
    re_expressed_stops = multiplied_stops t (factor_between old new)

    -- "Unit pairs with factor 1 change no digit."
    pub re_expressed_one : from_hpa old ≡ from_hpa new → re_expressed old new t ≡ t
    re_expressed_one e = multiplied_one t (factor_between old new) (rw e (omega arith))

-- mbar and hPa, and a unit to itself
pub mbar_is_hpa : from_hpa 0 ≡ from_hpa 4
mbar_is_hpa = refl

pub re_expressed_same : (unit : ℕ) (t : Threshold) → re_expressed unit unit t ≡ t
re_expressed_same unit t = re_expressed_one unit unit t refl

-- Torr and micron: no digit changes but at an end stop
pub re_expressed_thousand : (t : Threshold) → within_stops t ≡ true
    → (re_expressed 1 3 t ≡ held_within (record { mantissa = t.mantissa; exponent = t.exponent +ℤ pos 3 }))
    × (re_expressed 3 1 t ≡ held_within (record { mantissa = t.mantissa; exponent = t.exponent -ℤ pos 3 }))
re_expressed_thousand t w = (
  multiplied_power t (factor_between 1 3) (scaled 1 3 t w) 0 3 (t.exponent +ℤ pos 3) refl (+ℤ_idr (t.exponent +ℤ pos 3)),
  multiplied_power t (factor_between 3 1) (scaled 3 1 t w) 3 0 (t.exponent -ℤ pos 3) refl (-ℤ-+ℤ_cancel t.exponent (pos 3) ∙ sym (+ℤ_idr t.exponent)),
)

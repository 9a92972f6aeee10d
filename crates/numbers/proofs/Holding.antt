-- A threshold times a ratio, held within the end stops: each exit of the definitions, that it is the nearest so held, and that the limits are kept.
use Prim.Native.Nat.{ℕ, ◌*◌, ◌^◌, ◌≤◌}
use mathlib.Core.Path.{◌≡◌, refl, sym, ap, ◌∙◌, subst}
use mathlib.Core.Bool.{true, false, ◌&&◌, and-eq-true_iff}
use mathlib.Core.Logic.{⊎_elim}
use mathlib.Mathlib.Data.Bool.Basic.{dichotomy}
use native.Mathlib.Omega.{arith}
use borrow.Author.Tests.{ltb-false, le-ltb}
use lib.IntN.{ℤ, pos, negsuc, nat_abs, ◌+ℤ◌, ◌-ℤ◌}
use lib.Signed.{lt_z}
use Rattle.ground.proofs.Cases.{to_range}
use Rattle.numbers.specs.Numbers.{five, OfDigits, within_stops, is_five, less, as_value}
use Rattle.numbers.specs.Rounding.{least_stop, most_stop, held_within, is_usable, product, multiplied_by, Nearest}
use Rattle.numbers.specs.declared.threshold.Threshold.{Threshold}
use Rattle.numbers.specs.declared.value.Ratio.{Ratio}
use Rattle.numbers.proofs.Signed.{near_between}
use Rattle.numbers.proofs.Nearest.{nearest_only}
use Rattle.numbers.proofs.Stops.{stops_digits, stops_near}
use Rattle.numbers.proofs.Order.{lower_exponent, higher_exponent, same_exponent, same_number}
use Rattle.numbers.proofs.Scaling.{product_rounds, product_digits, product_nearest, product_power}

-- ---- the end stops

-- an exponent beyond neither end stop, and the other way round
beyond_neither : (e : ℤ) → lt_z e (negsuc 19) ≡ false → lt_z (pos 20) e ≡ false → nat_abs e ≤ 20
beyond_neither (pos n) a b = ltb-false 20 n b
beyond_neither (negsuc n) a b = omega (arith, ltb-false 19 n a)

not_beyond : (e : ℤ) → nat_abs e ≤ 20 → (lt_z e (negsuc 19) ≡ false) × (lt_z (pos 20) e ≡ false)
not_beyond (pos n) h = (refl, le-ltb 20 n h)
not_beyond (negsuc n) h = (le-ltb 19 n (omega arith), refl)

-- of numbers of five digits the exponent tells whether one lies beyond an end stop
module _ (t : Threshold) (h : OfDigits five t.mantissa) where
  below_least : lt_z t.exponent (negsuc 19) ≡ true → less (as_value t) (as_value least_stop) ≡ true
  unfolding less
  below_least = lower_exponent t.mantissa t.exponent 10000 (negsuc 19) five h (omega arith)

  not_below_least : lt_z t.exponent (negsuc 19) ≡ false → less (as_value t) (as_value least_stop) ≡ false
  unfolding less
  not_below_least n =
      ⊎_elim (λ (k : lt_z (negsuc 19) t.exponent ≡ false). same_exponent t.mantissa t.exponent 10000 (negsuc 19) n k ∙ le-ltb _ _ h.0)
      (higher_exponent t.mantissa t.exponent 10000 (negsuc 19) five h (omega arith)) (dichotomy (lt_z (negsuc 19) t.exponent))

  above_most : lt_z (pos 20) t.exponent ≡ true → less (as_value most_stop) (as_value t) ≡ true
  unfolding less
  above_most = lower_exponent 99999 (pos 20) t.mantissa t.exponent five (omega arith) h

  not_above_most : lt_z (pos 20) t.exponent ≡ false → less (as_value most_stop) (as_value t) ≡ false
  unfolding less
  not_above_most n =
      ⊎_elim (λ (k : lt_z t.exponent (pos 20) ≡ false). same_exponent 99999 (pos 20) t.mantissa t.exponent n k ∙ le-ltb 99999 t.mantissa (omega arith))
      (higher_exponent 99999 (pos 20) t.mantissa t.exponent five (omega arith) h) (dichotomy (lt_z t.exponent (pos 20)))

  pub held_least : lt_z t.exponent (negsuc 19) ≡ true → least_stop ≡ held_within t
  unfolding held_within
  held_least l = rw (below_least l)

  pub held_most : lt_z t.exponent (negsuc 19) ≡ false → lt_z (pos 20) t.exponent ≡ true → most_stop ≡ held_within t
  unfolding held_within
  held_most n l = rw (not_below_least n, above_most l)

  pub held_stays : lt_z t.exponent (negsuc 19) ≡ false → lt_z (pos 20) t.exponent ≡ false → t ≡ held_within t
  unfolding held_within
  held_stays n k = rw (not_below_least n, not_above_most k)

  -- what is held lies within them
  pub held_stops : within_stops (held_within t) ≡ true
  held_stops =
      ⊎_elim (λ (n : lt_z t.exponent (negsuc 19) ≡ false).
      ⊎_elim (λ (k : lt_z (pos 20) t.exponent ≡ false). subst Within (held_stays n k) (within n k))
      (λ (l : lt_z (pos 20) t.exponent ≡ true). subst Within (held_most n l) refl) (dichotomy (lt_z (pos 20) t.exponent)))
      (λ (l : lt_z t.exponent (negsuc 19) ≡ true). subst Within (held_least l) refl) (dichotomy (lt_z t.exponent (negsuc 19)))
    where
      Within : Threshold → Type 0
      Within u = within_stops u ≡ true

      within : lt_z t.exponent (negsuc 19) ≡ false → lt_z (pos 20) t.exponent ≡ false → Within t
      within n k = rw (to_range 10000 99999 t.mantissa h.0 (omega arith), near_between 19 t.exponent (beyond_neither t.exponent n k))

-- and what lies within them is held as it is
pub held_within_lem : (t : Threshold) → within_stops t ≡ true → held_within t ≡ t
held_within_lem t w = let b = not_beyond t.exponent (stops_near t w) in sym (held_stays t (stops_digits t w) b.0 b.1)

-- ---- a threshold times a ratio

module _ (t : Threshold) (r : Ratio) where
  pub multiplied_not : within_stops t && is_usable r ≡ false → t ≡ multiplied_by t r
  unfolding multiplied_by
  multiplied_not n = rw n

  module _ (h : within_stops t && is_usable r ≡ true) where
    parts : (within_stops t ≡ true) × (is_usable r ≡ true)
    parts = (and-eq-true_iff (within_stops t) (is_usable r)).0 h

    -- a threshold is a value that scaling takes
    pub scalable : is_five (as_value t) && is_usable r ≡ true
    scalable =
        let m = stops_digits t parts.0 in
        rw (to_range 10000 99999 t.mantissa m.0 (omega arith), near_between 98 t.exponent (omega (arith, stops_near t parts.0)), parts.1)

    pub multiplied_is : multiplied_by t r ≡ held_within (product five (as_value t) r)
    unfolding multiplied_by
    multiplied_is = rw h

    pub product_five : OfDigits five (product five (as_value t) r).mantissa
    product_five = product_digits (as_value t) r scalable five (omega arith)

    -- W-202: it is the five-digit number nearest to the exact product, a tie going upwards, held within the end stops
    pub multiplied_nearest : (u : Threshold) → OfDigits five u.mantissa → Nearest five (t.mantissa * r.over) r.under (t.exponent -ℤ pos 4) u
        → multiplied_by t r ≡ held_within u
    multiplied_nearest u d n =
        let some = (product_rounds (as_value t) r scalable five (omega arith)).under.0 in
        multiplied_is ∙ ap held_within (same_number five (product five (as_value t) r) u product_five d
        (nearest_only some (product_nearest (as_value t) r scalable five (omega arith)) n product_five d))

    -- by a ratio of ten to the j over ten to the i no digit changes but at an end stop
    pub multiplied_power : (i j : ℕ) (f : ℤ) → r.over * 10 ^ i ≡ r.under * 10 ^ j → f +ℤ pos i ≡ t.exponent +ℤ pos j
        → multiplied_by t r ≡ held_within (record { mantissa = t.mantissa; exponent = f })
    multiplied_power i j f q e = multiplied_is ∙ ap held_within (product_power (as_value t) r scalable i j f q e)

  -- by one it stays as it is
  pub multiplied_one : r.over ≡ r.under → multiplied_by t r ≡ t
  multiplied_one q =
      ⊎_elim (λ (n : within_stops t && is_usable r ≡ false). sym (multiplied_not n))
      (λ (h : within_stops t && is_usable r ≡ true). multiplied_power h 0 0 t.exponent (omega arith) refl ∙ held_within_lem t (parts h).0)
      (dichotomy (within_stops t && is_usable r))

  -- the limits are kept
  pub multiplied_stops : within_stops t ≡ true → within_stops (multiplied_by t r) ≡ true
  multiplied_stops w =
      ⊎_elim (λ (n : within_stops t && is_usable r ≡ false). subst (λ u. within_stops u ≡ true) (multiplied_not n) w)
      (λ (h : within_stops t && is_usable r ≡ true). rw (multiplied_is h) (held_stops (product five (as_value t) r) (product_five h)))
      (dichotomy (within_stops t && is_usable r))

pub ruleset held_cases = (held_least, held_most, held_stays)

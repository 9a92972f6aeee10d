-- Numbers fitted to the end stops: what each exit of the definition asks, and that what fits is the nearest within them.
use Rattle.std.specs.Prelude.{Option, Some, None}
use Rattle.std.specs.Bool.{then_some}
use Prim.Native.Nat.{ℕ, ◌≤◌, ◌<◌, ◌^◌}
use mathlib.Core.Path.{◌≡◌, refl, subst}
use mathlib.Core.Bool.{Bool, true, false, cond, and-eq-true_iff}
use mathlib.Core.Logic.{⊎_elim}
use mathlib.Mathlib.Data.Bool.Basic.{dichotomy}
use native.Mathlib.Omega.{arith}
use borrow.Author.Tests.{eq-eqb, ne_eqb, eqb-false}
use lib.Dec.{eqb}
use lib.IntN.{ℤ, pos, negsuc, nat_abs}
use Rattle.ground.proofs.Cases.{cond_cases}
use Rattle.numbers.specs.Numbers.{five, OfDigits, five_digits, between, within_stops}
use Rattle.numbers.specs.Rounding.{rounded, held_to_stops, fitted_to, Nearest}
use Rattle.numbers.specs.declared.threshold.Threshold.{Threshold}
use Rattle.numbers.proofs.Nearest.{rounded_near, rounded_nearest, of_five}
use Rattle.numbers.proofs.Signed.{between_near, between_far}

pub stops_digits : (t : Threshold) → within_stops t ≡ true → OfDigits five t.mantissa
stops_digits t h = of_five t.mantissa ((and-eq-true_iff (five_digits t.mantissa) (between (negsuc 19) (pos 20) t.exponent)).0 h).0

pub stops_near : (t : Threshold) → within_stops t ≡ true → nat_abs t.exponent ≤ 20
stops_near t h = between_near 19 t.exponent ((and-eq-true_iff (five_digits t.mantissa) (between (negsuc 19) (pos 20) t.exponent)).0 h).1

kept : (b : Bool) (t : Threshold) → then_some b t ≡ cond b (Some t) None
kept true t = refl
kept false t = refl

module _ (n : ℕ) (x : ℤ) where
  pub fitted_zero : n ≡ 0 → None ≡ fitted_to n x
  unfolding fitted_to
  fitted_zero e = rw (eq-eqb _ _ e)

  module _ (some : n ≡ 0 → ⊥) where
    pub fitted_within : within_stops (rounded five n 1 x) ≡ true → Some (rounded five n 1 x) ≡ fitted_to n x
    unfolding fitted_to
    fitted_within e = rw (ne_eqb _ _ some, e)

    pub fitted_kept : then_some (within_stops (rounded five n 1 x)) (rounded five n 1 x) ≡ fitted_to n x
    unfolding fitted_to
    fitted_kept = rw (ne_eqb _ _ some) (kept (within_stops (rounded five n 1 x)) (rounded five n 1 x))

    pub fitted_out : within_stops (rounded five n 1 x) ≡ false → None ≡ fitted_to n x
    unfolding fitted_to
    fitted_out e = rw (ne_eqb _ _ some, e)

    -- a far power is outside without rounding
    pub fitted_far : n < 2 ^ 64 → between (negsuc 999) (pos 1000) x ≡ false → None ≡ fitted_to n x
    fitted_far m h =
        ⊎_elim fitted_out (λ (w : within_stops (rounded five n 1 x) ≡ true).
        absurd (omega (arith, between_far 999 x h, stops_near (rounded five n 1 x) w, rounded_near five n 1 (omega arith) x)))
        (dichotomy (within_stops (rounded five n 1 x)))

pub ruleset fitted_cases = (fitted_zero, fitted_kept, fitted_far)

-- what is fitted, if it is a threshold, has P
abbrev Held : (Threshold → Type 0) → Option Threshold → Type 0
Held P (Some t) = P t
Held P None = Unit {0}

fitted_held : (P : Threshold → Type 0) (n : ℕ) (x : ℤ) → (1 ≤ n → within_stops (rounded five n 1 x) ≡ true → P (rounded five n 1 x)) → Held P (fitted_to n x)
unfolding fitted_to
fitted_held P n x f =
    cond_cases (Held P) (eqb n 0) None (held_to_stops (rounded five n 1 x)) (λ t. tt)
    (λ (z : eqb n 0 ≡ false). let q = eqb-false n 0 z in
    cond_cases (Held P) (within_stops (rounded five n 1 x)) (Some (rounded five n 1 x)) None (λ t. f (omega arith) t) (λ t. tt))

-- what is fitted lies within the end stops
pub fitted_stops : (n : ℕ) (x : ℤ) (t : Threshold) → fitted_to n x ≡ Some t → within_stops t ≡ true
fitted_stops n x t q = subst (Held (λ (t : Threshold). within_stops t ≡ true)) q (fitted_held _ n x (λ l w. w))

-- and is the nearest to the number that was given
pub fitted_nearest : (n : ℕ) (x : ℤ) (t : Threshold) → n < 2 ^ 64 → fitted_to n x ≡ Some t → Nearest five n 1 x t
fitted_nearest n x t m q =
    subst (Held (Nearest five n 1 x)) q (fitted_held (Nearest five n 1 x) n x (λ l w. rounded_nearest five n 1 (omega arith) x))

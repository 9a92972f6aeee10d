-- What code on signed numbers leaves: a local holds bits, so each use reads to_z w (of_z w x), which is x where x fits.
use Prim.Native.Nat.{ℕ, zero, suc, ◌+◌, ◌-◌, ◌^◌, ◌≤◌, ◌<◌}
use mathlib.Core.Path.{◌≡◌, refl, subst}
use mathlib.Core.Bool.{Bool, true, false, cond, and-eq-true_iff}
use mathlib.Core.Logic.{⊎_elim}
use mathlib.Mathlib.Data.Bool.Basic.{dichotomy}
use native.Mathlib.Omega.{arith}
use borrow.Author.Tests.{ltb-true, leb-true, leb-false, le-leb}
use lib.Dec.{T, leb, ltb}
use lib.IntN.{ℤ, pos, negsuc, neg_ℤ, nat_abs, sub_ℕ, ◌+ℤ◌, ◌-ℤ◌}
use lib.Signed.{mag}
use mir.Syntax.{w32}
use mir.Val.{SFits}
use Rattle.ground.proofs.Cases.{below}
use Rattle.numbers.specs.Numbers.{between}

mag_le : (z : ℤ) → mag z ≤ nat_abs z
mag_le (pos n) = omega arith
mag_le (negsuc n) = omega arith

-- a number of magnitude below 2^31 fits
pub small : (z : ℤ) → nat_abs z < 2 ^ 31 → SFits w32 z
small z h = record { sfits = omega (arith, mag_le z) }

pub abs_neg : (z : ℤ) → nat_abs (neg_ℤ z) ≡ nat_abs z
abs_neg (pos zero) = refl
abs_neg (pos (suc n)) = refl
abs_neg (negsuc n) = refl

abs_sub : (a b : ℕ) → nat_abs (sub_ℕ a b) ≤ a + b
abs_sub a b = go (ltb a b) refl
  where
    go : (t : Bool) → ltb a b ≡ t → nat_abs (cond t (negsuc (b - suc a)) (pos (a - b))) ≤ a + b
    go true e = omega (arith, ltb-true a b e)
    go false e = omega arith

-- a sum is no larger than the two
pub abs_add : (a b : ℤ) → nat_abs (a +ℤ b) ≤ nat_abs a + nat_abs b
abs_add (pos a) (pos b) = omega arith
abs_add (pos a) (negsuc b) = abs_sub a (suc b)
abs_add (negsuc a) (pos b) = omega (arith, abs_sub b (suc a))
abs_add (negsuc a) (negsuc b) = omega arith

pub abs_minus : (a b : ℤ) → nat_abs (a -ℤ b) ≤ nat_abs a + nat_abs b
abs_minus a b = omega (arith, abs_add a (neg_ℤ b), abs_neg b)

-- an exponent within limits as far below zero as above it
pub between_near : (k : ℕ) (e : ℤ) → between (negsuc k) (pos (suc k)) e ≡ true → nat_abs e ≤ suc k
between_near k (pos n) h = leb-true n (suc k) h
between_near k (negsuc n) h = omega (arith, leb-true n k ((and-eq-true_iff (leb n k) true).0 h).0)

pub between_far : (k : ℕ) (e : ℤ) → between (negsuc k) (pos (suc k)) e ≡ false → suc k < nat_abs e
between_far k (pos n) h = leb-false n (suc k) h
between_far k (negsuc n) h =
    ⊎_elim (λ (l : n < suc k). absurd (subst T (rw (le-leb n k (omega arith)) at h) tt))
    (λ (g : suc k ≤ n). omega arith) (below n (suc k))

pub near_between : (k : ℕ) (e : ℤ) → nat_abs e ≤ suc k → between (negsuc k) (pos (suc k)) e ≡ true
near_between k e h =
    ⊎_elim (λ (f : between (negsuc k) (pos (suc k)) e ≡ false). absurd (omega (arith, between_far k e f)))
    (λ (t : between (negsuc k) (pos (suc k)) e ≡ true). t) (dichotomy (between (negsuc k) (pos (suc k)) e))

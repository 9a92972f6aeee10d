-- Tests over a range: of all numbers up to one.
use Prim.Native.Nat.{ℕ, zero, suc, ◌≤◌}
use mathlib.Core.Path.{◌≡◌}
use mathlib.Core.Bool.{Bool, true, ◌&&◌, and-eq-true_iff}
use native.Mathlib.Omega.{arith}

-- a test at each place up to n
abbrev pub upto : ℕ → (ℕ → Bool) → Bool
upto zero f = f 0
upto (suc n) f = f 0 && upto n (λ i. f (suc i))

pub upto_each : (n : ℕ) (f : ℕ → Bool) → upto n f ≡ true → (i : ℕ) → i ≤ n → f i ≡ true
upto_each zero f e zero h = e
upto_each zero f e (suc i) h = absurd (omega arith)
upto_each (suc n) f e zero h = ((and-eq-true_iff (f 0) (upto n (λ i. f (suc i)))).0 e).0
upto_each (suc n) f e (suc i) h = upto_each n (λ i. f (suc i)) ((and-eq-true_iff (f 0) (upto n (λ i. f (suc i)))).0 e).1 i (omega arith)

pub each_upto : (n : ℕ) (f : ℕ → Bool) → ((i : ℕ) → i ≤ n → f i ≡ true) → upto n f ≡ true
each_upto zero f h = h 0 (omega arith)
each_upto (suc n) f h = rw (h 0 (omega arith)) (each_upto n (λ i. f (suc i)) (λ i l. h (suc i) (omega arith)))

-- what holds of each number up to three
pub upto_three : (P : ℕ → Type 0) → P 0 → P 1 → P 2 → P 3 → (m : ℕ) → m ≤ 3 → P m
upto_three P a b c d zero h = a
upto_three P a b c d (suc zero) h = b
upto_three P a b c d (suc (suc zero)) h = c
upto_three P a b c d (suc (suc (suc zero))) h = d
upto_three P a b c d (suc (suc (suc (suc m)))) h = absurd (omega arith)

-- a number that is none of the first n
abbrev pub Others : ℕ → ℕ → Type 0
Others zero k = Unit {0}
Others (suc n) k = Others n k × (k ≡ n → ⊥)

pub others_past : (n k : ℕ) → Others n k → n ≤ k
others_past zero k o = omega arith
others_past (suc n) k o = let l = others_past n k o.0 in let d = o.1 in omega arith

-- Ten to an integer power, as the fraction tens / tenths.
use Prim.Native.Nat.{ℕ, suc, ◌+◌, ◌-◌, ◌*◌, ◌^◌, ◌≤◌, ◌<◌}
use mathlib.Core.Path.{◌≡◌, sym, ap, ◌∙◌}
use mathlib.Core.Logic.{◌⊎◌, inl, inr, ⊎_elim}
use native.Mathlib.Omega.{arith}
use native.Mathlib.Nat.{one-le-pow, eq_of_mul-eq-mul_right}
use lib.Pow.{pow-add}
use borrow.Author.Tests.{lt-ltb, le-ltb}
use lib.IntN.{ℤ, pos, negsuc, ◌+ℤ◌, ◌-ℤ◌, +ℤ_comm, +ℤ_assoc, +ℤ_idr, +ℤ_invl, -ℤ-+ℤ_cancel}
use Rattle.ground.proofs.Cases.{below}
use Rattle.numbers.specs.Numbers.{tens, tenths}

pub tens_some : (e : ℤ) → 0 < tens e
tens_some (pos n) = one-le-pow n 10 (omega arith)
tens_some (negsuc n) = omega arith

pub tenths_some : (e : ℤ) → 0 < tenths e
tenths_some (pos n) = omega arith
tenths_some (negsuc n) = one-le-pow (suc n) 10 (omega arith)

-- k tens more are ten to the k times as much
pub tens_more : (e : ℤ) (k : ℕ) → tens (e +ℤ pos k) * tenths e ≡ 10 ^ k * (tens e * tenths (e +ℤ pos k))
tens_more (pos a) k = omega (arith, pow-add 10 a k)
tens_more (negsuc a) k =
    ⊎_elim (λ (l : k < suc a). rw (lt-ltb k (suc a) l) (omega (arith, split k (suc (suc a - suc k)) (suc a) (omega arith))))
    (λ (g : suc a ≤ k). rw (le-ltb k (suc a) g) (omega (arith, split (k - suc a) (suc a) k (omega arith)))) (below k (suc a))
  where
    split : (i j c : ℕ) → i + j ≡ c → 10 ^ c ≡ 10 ^ i * 10 ^ j
    split i j c e = rw (← e) (pow-add 10 i j)

-- of two powers one is the other times ten to some j
pub tens_apart : (e f : ℤ)
    → ((j : ℕ) × (tens f * tenths e ≡ 10 ^ j * (tens e * tenths f))) ⊎ ((j : ℕ) × (tens e * tenths f ≡ 10 ^ suc j * (tens f * tenths e)))
tens_apart e f = go (f -ℤ e) (sym (-ℤ-+ℤ_cancel f e) ∙ +ℤ_comm (f -ℤ e) e)
  where
    go : (z : ℤ) → f ≡ e +ℤ z
        → ((j : ℕ) × (tens f * tenths e ≡ 10 ^ j * (tens e * tenths f))) ⊎ ((j : ℕ) × (tens e * tenths f ≡ 10 ^ suc j * (tens f * tenths e)))
    go (pos j) p = inl (j, rw p (tens_more e j))
    go (negsuc j) p =
        let q : f +ℤ pos (suc j) ≡ e = rw (p, +ℤ_assoc, +ℤ_invl (pos (suc j)), +ℤ_idr) in
        inr (j, rw q at (tens_more f (suc j)))

-- two powers that come to the same, i tens above the one and j above the other
pub tens_level : (e f : ℤ) (i j : ℕ) → e +ℤ pos i ≡ f +ℤ pos j → 10 ^ i * (tens e * tenths f) ≡ 10 ^ j * (tens f * tenths e)
tens_level e f i j p =
    let g = f +ℤ pos j in
    let a : tens g * tenths e ≡ 10 ^ i * (tens e * tenths g) = rw p at (tens_more e i) in
    eq_of_mul-eq-mul_right (tenths g) (tenths_some g) (10 ^ i * (tens e * tenths f)) (10 ^ j * (tens f * tenths e))
    (omega (arith, ap (λ (z : ℕ). z * tenths f) a, ap (λ (z : ℕ). z * tenths e) (tens_more f j)))

-- How far a climb goes: as many tens as bring n up to its mark, and no more.
use Prim.Native.Nat.{ℕ, zero, suc, ◌+◌, ◌-◌, ◌*◌, ◌^◌, ◌≤◌, ◌<◌}
use mathlib.Core.Path.{◌≡◌}
use mathlib.Core.Logic.{⊎_elim}
use native.Mathlib.Omega.{arith}
use native.Mathlib.Nat.{pow-suc, pow-succ', mul_assoc}
use native.Mathlib.Numerals.{add-one}
use borrow.Author.Tests.{lt-ltb, le-ltb}
use Rattle.ground.proofs.Cases.{below}
use Rattle.numbers.specs.Rounding.{climb_within, climb}

within_reaches : (fuel n to : ℕ) → to ≤ n * 10 ^ fuel → to ≤ n * 10 ^ climb_within fuel n to
unfolding climb_within
within_reaches zero n to h = h
within_reaches (suc k) n to h =
    ⊎_elim (λ (l : n < to). rw (lt-ltb n to l, pow-succ', ← mul_assoc) (within_reaches k (n * 10) to (rw (mul_assoc, ← pow-succ') h)))
    (λ (g : to ≤ n). rw (le-ltb n to g) (omega arith)) (below n to)

within_least : (fuel n to j : ℕ) → j < climb_within fuel n to → n * 10 ^ j < to
unfolding climb_within
within_least zero n to j h = absurd (omega arith)
within_least (suc k) n to zero h =
    ⊎_elim (λ (l : n < to). omega arith) (λ (g : to ≤ n). absurd (let z : 0 < 0 = rw (le-ltb n to g) at h in omega arith)) (below n to)
within_least (suc k) n to (suc j) h =
    ⊎_elim (λ (l : n < to). let z : suc j < suc (climb_within k (n * 10) to) = rw (lt-ltb n to l) at h in
    rw (pow-succ', ← mul_assoc) (within_least k (n * 10) to j (omega arith)))
    (λ (g : to ≤ n). absurd (let z : suc j < 0 = rw (le-ltb n to g) at h in omega arith)) (below n to)

-- the mark is reached
pub climb_reaches : (n to : ℕ) → 1 ≤ n → to ≤ 1000000000000000000 → to ≤ n * 10 ^ climb n to
climb_reaches n to p h = within_reaches 18 n to (omega arith)

-- fewer tens do not reach it
pub climb_least : (n to j : ℕ) → j < climb n to → n * 10 ^ j < to
climb_least = within_least 18

-- as many tens as do reach it are enough
pub climb_enough : (n to k : ℕ) → to ≤ n * 10 ^ k → climb n to ≤ k
climb_enough n to k h = ⊎_elim (λ (l : k < climb n to). absurd (omega (arith, climb_least n to k l))) (λ (g : climb n to ≤ k). g) (below k (climb n to))

-- nothing is climbed at the mark or above it
pub climb_none : (n to : ℕ) → to ≤ n → climb n to ≡ 0
climb_none n to h = omega (arith, climb_enough n to 0 (omega arith))

-- from below the mark it ends less than ten times the mark
pub climb_short : (n to : ℕ) → n < to → n * 10 ^ climb n to + 10 ≤ to * 10
climb_short n to h = last (climb n to) (climb_least n to)
  where
    last : (c : ℕ) → ((j : ℕ) → j < c → n * 10 ^ j < to) → n * 10 ^ c + 10 ≤ to * 10
    last zero f = omega arith
    last (suc c) f = rw pow-succ' (omega (arith, f c (omega arith)))

-- ---- one turn of the loop that counts them

module _ (z m to : ℕ) where
  pub climb_more : z < 18 → m < to → climb_within (18 - z) m to ≡ climb_within (18 - (z + 1)) (m * 10) to + 1
  unfolding climb_within
  climb_more h l = rw (let e : 18 - z ≡ suc (18 - (z + 1)) = omega arith in e, lt-ltb m to l) (omega arith)

  pub climb_done : z < 18 → to ≤ m → climb_within (18 - z) m to ≡ 0
  unfolding climb_within
  climb_done h l = rw (let e : 18 - z ≡ suc (18 - (z + 1)) = omega arith in e, le-ltb m to l)

  pub climb_end : z ≡ 18 → climb_within (18 - z) m to ≡ 0
  unfolding climb_within
  climb_end h = rw (let e : 18 - z ≡ 0 = omega arith in e)

pub ten_more : (n z : ℕ) → n * 10 ^ z * 10 ≡ n * 10 ^ (z + 1)
ten_more n z = rw (add-one z, pow-suc) (omega arith)

pub ruleset one_turn = (climb_more, climb_done, climb_end, ten_more)

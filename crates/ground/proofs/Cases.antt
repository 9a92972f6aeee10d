-- Two numbers one way round or the other, and what a test that holds tells.
use Prim.Native.Nat.{ℕ, ◌≤◌, ◌<◌}
use mathlib.Core.Path.{◌≡◌, refl, sym}
use mathlib.Core.Bool.{Bool, beq, true, false, cond, not, ◌&&◌, ◌||◌, and-eq-true_iff}
use mathlib.Core.Logic.{◌⊎◌, inl, inr}
use native.Mathlib.Omega.{arith}
use borrow.Author.Tests.{ltb-true, ltb-false, leb-true, le-leb, lt-leb, not-true}
use lib.Dec.{leb, ltb}
use Rattle.ground.specs.Ranges.{in_range}

pub below : (a b : ℕ) → (a < b) ⊎ (b ≤ a)
below a b = go (ltb a b) refl
  where
    go : (t : Bool) → ltb a b ≡ t → (a < b) ⊎ (b ≤ a)
    go true e = inl (ltb-true a b e)
    go false e = inr (ltb-false a b e)

-- nothing is two of its cases at once: `never (cc)`
pub never : {A : Type 0} → ◌≡◌ {A = ℕ} 0 1 → A
never z = absurd (omega arith)

-- one test of a disjunction that holds
pub or_either : (a b : Bool) → a || b ≡ true → (a ≡ true) ⊎ (b ≡ true)
or_either true b e = inl refl
or_either false b e = inr e

pub or_right : (a b : Bool) → b ≡ true → a || b ≡ true
or_right true b e = refl
or_right false b e = e

-- either way of a test
pub cond_cases : {A : Type 0} (P : A → Type 0) (t : Bool) (x y : A) → (t ≡ true → P x) → (t ≡ false → P y) → P (cond t x y)
cond_cases P true x y f g = f refl
cond_cases P false x y f g = g refl

-- a number within limits that a test holds to
pub in_range_lem : (low high m : ℕ) → in_range low high m ≡ true → (low ≤ m) × (m ≤ high)
in_range_lem low high m h = let b = (and-eq-true_iff (leb low m) (leb m high)).0 h in (leb-true low m b.0, leb-true m high b.1)

-- and the other way round
pub to_range : (low high m : ℕ) → low ≤ m → m ≤ high → in_range low high m ≡ true
to_range low high m l h = rw (le-leb low m l, le-leb m high h)

-- two tests, one of which holds, or neither
pub either : {A : Type 0} (s t : Bool) (x y : A) → not s && not t ≡ false → cond s x (cond t x y) ≡ x
either true t x y h = refl
either false true x y h = refl
either false false x y h = never (cc)

pub neither : (s t : Bool) → not s && not t ≡ true → (s ≡ false) × (t ≡ false)
neither s t h = let b = (and-eq-true_iff (not s) (not t)).0 h in (not-true s b.0, not-true t b.1)

-- at most is not more
pub at_most : (a b : ℕ) → leb a b ≡ not (ltb b a)
at_most a b = by (ltb b a) refl
  where
    by : (t : Bool) → ltb b a ≡ t → leb a b ≡ not t
    by true e = lt-leb a b (ltb-true b a e)
    by false e = le-leb a b (ltb-false b a e)

-- two tests that are found the same
pub beq_same : (a b : Bool) → beq a b ≡ true → a ≡ b
beq_same true true e = refl
beq_same true false e = sym e
beq_same false true e = e
beq_same false false e = refl

-- the last of three tests, behind two that hold or do not
pub and_both : (a b c : Bool) → a ≡ true → b ≡ true → a && (b && c) ≡ c
and_both a b c h k = rw (h, k)

pub and_not_both : (a b c : Bool) → a && b ≡ false → a && (b && c) ≡ false
and_not_both true b c h = rw h
and_not_both false b c h = refl

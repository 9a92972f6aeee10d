-- The digits of a number, and those without their leading zeros.
use Prim.Native.Nat.{ℕ, zero, suc, ◌+◌, ◌-◌, ◌/◌, ◌%◌, ◌^◌, ◌≤◌, ◌<◌}
use mathlib.Core.Path.{◌≡◌, refl, ap, ◌∙◌}
use mathlib.Core.List.{List, [], ◌∷◌}
use mathlib.Core.Bool.{Bool, true, false, cond, ◌&&◌}
use native.Mathlib.Omega.{arith}
use native.Mathlib.Nat.{suc-add, zero-add}
use borrow.Author.Tests.{le-leb}
use lib.Dec.{eqb, leb}
use lib.ListN.{length, take, drop}
use lib.Seq.{take_all}
use Rattle.ground.proofs.Tables.{alike}
use Rattle.std.specs.List.{prefix_len}
use Rattle.text.specs.Digits.{dig, bare, whole_text}

pub dig_length : (k n : ℕ) → length (dig k n) ≡ k
dig_length zero n = refl
dig_length (suc k) n = ap suc (dig_length k n)

-- the first of k digits, and the others
pub dig_next : (k n : ℕ) → 0 < k → dig k n ≡ (48 + n / 10 ^ (k - 1) % 10) ∷ dig (k - 1) n
dig_next zero n h = absurd (omega (arith, h))
dig_next (suc k) n h = let e : suc k - 1 ≡ k = omega arith in rw e

-- the last k of more digits
pub dig_last : (j k n : ℕ) → drop j (dig (j + k) n) ≡ dig k n
dig_last zero k n = rw zero-add
dig_last (suc j) k n = rw suc-add (dig_last j k n)

-- from the tenth from the end on they are all, and from a later one on fewer
pub last_digits : (n w : ℕ) → w ≤ 10 → take (10 - (10 - w)) (drop (10 - w) (dig 10 n)) ≡ dig w n
last_digits n w h =
    let all : 10 ≡ 10 - w + w = omega arith in
    let e : drop (10 - w) (dig 10 n) ≡ dig w n = ap (λ (j : ℕ). drop (10 - w) (dig j n)) all ∙ dig_last (10 - w) w n in
    rw e (take_all (10 - (10 - w)) (dig w n) (omega (arith, dig_length w n)))

-- ---- digits without their leading zeros: behind the zeros of all but the last

pub bare_zeros : (d : List ℕ) (n : ℕ) → length d ≡ n + 1 → drop (prefix_len (λ b. eqb b 48) (take n d)) d ≡ bare d
unfolding bare
bare_zeros [] n h = absurd (omega arith)
bare_zeros (b ∷ []) zero h = last (eqb b 48)
  where
    last : (t : Bool) → b ∷ [] ≡ cond (t && false) [] (b ∷ [])
    last true = refl
    last false = refl
bare_zeros (b ∷ c ∷ d) zero h = absurd (omega arith)
bare_zeros (b ∷ d) (suc n) h = go (eqb b 48) (prefix_len (λ b. eqb b 48) (take n d)) (bare_zeros d n (omega arith))
  where
    some : leb 1 (length d) ≡ true
    some = le-leb _ _ (omega arith)

    go : (t : Bool) (k : ℕ) → drop k d ≡ bare d → drop (cond t (1 + k) 0) (b ∷ d) ≡ cond (t && leb 1 (length d)) (bare d) (b ∷ d)
    go true k e = let one : 1 + k ≡ suc k = omega arith in rw (one, some) e
    go false k e = refl

-- a number of one digit is that digit
pub whole_digit : (n : ℕ) → n < 10 → whole_text n ≡ (48 + n) ∷ []
unfolding bare
whole_digit = alike whole_text (λ (n : ℕ). (48 + n) ∷ []) 10 refl

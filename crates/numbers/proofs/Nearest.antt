-- Significant digits, half upwards: where n / d is placed, how far its digits and its power reach, that they are the nearest, and alone are.
use Prim.Native.Nat.{ℕ, suc, ◌+◌, ◌-◌, ◌*◌, ◌/◌, ◌^◌, ◌≤◌, ◌<◌}
use mathlib.Core.Path.{◌≡◌, ap, ◌∙◌}
use mathlib.Core.Bool.{true, false}
use mathlib.Core.Logic.{◌↔◌, ⊎_elim}
use native.Mathlib.Omega.{arith}
use native.Mathlib.Nat.{mul-le-mul, mul-le-mul_left, mul-le-mul_right, mul-lt-mul_of_pos_right, lt_of_mul-lt-mul_right, le_of_mul-le-mul_right, mul-pos, one-le-pow, pow-le-pow_right, div-mul-le_self, lt-div-mul-add, le-div_iff_mul-le, div-lt_iff_lt-mul}
use native.Mathlib.Numerals.{add-one}
use lib.Pow.{pow-add}
use borrow.Author.Tests.{eqb-true, eqb-false, le-ltb}
use lib.Dec.{eqb}
use lib.IntN.{ℤ, pos, nat_abs, ◌+ℤ◌, ◌-ℤ◌, -ℤ-+ℤ_cancel, +ℤ-neg_ℤ_cancel}
use Rattle.ground.proofs.Cases.{below, cond_cases, in_range_lem}
use Rattle.numbers.specs.Numbers.{five, least, OfDigits, five_digits, tens, tenths, less, as_value}
use Rattle.numbers.specs.Rounding.{nearest, up, down, digits, power, rounded, levelled, Nearest}
use Rattle.numbers.specs.declared.threshold.Threshold.{Threshold}
use Rattle.numbers.proofs.Climb.{climb_reaches, climb_enough, climb_none, climb_short}
use Rattle.numbers.proofs.Signed.{abs_add, abs_minus}
use Rattle.numbers.proofs.Fractions.{tens_some, tenths_some, tens_more, tens_apart, tens_level}

-- twice the error is at most d, and a half goes upwards
pub nearest_bounds : (n d : ℕ) → 0 < d → (2 * (nearest n d * d) ≤ 2 * n + d) × (2 * n < 2 * (nearest n d * d) + d)
nearest_bounds n d h = omega (arith, div-mul-le_self (2 * n + d) (2 * d), lt-div-mul-add {a = 2 * n + d} {b = 2 * d} (omega arith))

-- two numbers compare as their multiples do
lt_from : (l r p q w c : ℕ) → 0 < c → l * w ≡ p * c → r * w ≡ q * c → p < q → l < r
lt_from l r p q w c z a b h = lt_of_mul-lt-mul_right w (omega (arith, mul-lt-mul_of_pos_right h z))

le_from : (l r p q w c : ℕ) → 0 < w → l * w ≡ p * c → r * w ≡ q * c → p ≤ q → l ≤ r
le_from l r p q w c z a b h = le_of_mul-le-mul_right (omega (arith, mul-le-mul_right c h)) z

swap_last : (s a b c : ℕ) → s * (a * b) * c ≡ s * (a * c) * b
swap_last s a b c = omega arith

swap_back : (s a b c : ℕ) → s * (a * b) * c ≡ s * (c * b) * a
swap_back s a b c = omega arith

ten_least : (j : ℕ) → 10 ≤ 10 ^ suc j
ten_least j = omega (arith, one-le-pow j 10 (omega arith))

module _ (n d m t : ℕ) (low : t * d ≤ n) (near : (2 * (m * d) ≤ 2 * n + d) × (2 * n < 2 * (m * d) + d)) (digits : t ≤ m) where
  -- beside m, a number in steps no smaller than m's is a whole number of them
  above_coarse : (a j k : ℕ) → 0 < a → m * a < k * (j * a) → 2 * n * a < (m * a + k * (j * a)) * d
  above_coarse a j k z h =
      let l : m < k * j = lt_of_mul-lt-mul_right a (omega arith) in
      omega (arith, mul-le-mul_right (d * a) l, mul-lt-mul_of_pos_right near.1 z)

  below_coarse : (a j k : ℕ) → k * (j * a) < m * a → (m * a + k * (j * a)) * d ≤ 2 * n * a
  below_coarse a j k h =
      let l : k * j < m = lt_of_mul-lt-mul_right a (omega arith) in
      omega (arith, mul-le-mul_right (d * a) l, mul-le-mul_right a near.0)

  -- one in smaller steps lies below every number of as many digits in m's
  above_fine : (b j k : ℕ) → 10 ≤ j → k < 10 * t → m * (j * b) < k * b → ⊥
  above_fine b j k s q h =
      let l : m * j < k = lt_of_mul-lt-mul_right b (omega arith) in
      omega (arith, mul-le-mul digits s)

  below_fine : (b j k : ℕ) → 10 ≤ j → k < 10 * t → (m * (j * b) + k * b) * d ≤ 2 * n * (j * b)
  below_fine b j k s q =
      let few : k ≤ t * j = omega (arith, mul-le-mul_left t s) in
      ⊎_elim (λ (l : t < m). let r : k + j ≤ m * j = omega (arith, mul-le-mul_right j l) in
      omega (arith, mul-le-mul_right (d * b) r, mul-le-mul_right (j * b) near.0))
      (λ (g : m ≤ t). let r : k + m * j ≤ 2 * (t * j) = omega (arith, mul-le-mul_right j g) in
      omega (arith, mul-le-mul_right (d * b) r, mul-le-mul_right (j * b) low))
      (below t m)

  -- so the middle of m times ten to the e and any number of as many digits lies on the right side of n over d
  middle : (e f : ℤ) (k : ℕ) → k < 10 * t
      → (m * (tens e * tenths f) < k * (tens f * tenths e) → 2 * n * (tens e * tenths f) < (m * (tens e * tenths f) + k * (tens f * tenths e)) * d)
      × (k * (tens f * tenths e) < m * (tens e * tenths f) → (m * (tens e * tenths f) + k * (tens f * tenths e)) * d ≤ 2 * n * (tens e * tenths f))
  middle e f k q =
      let a = tens e * tenths f in
      let b = tens f * tenths e in
      ⊎_elim (λ (r : (j : ℕ) × (b ≡ 10 ^ j * a)).
      rw r.1 (above_coarse a (10 ^ r.0) k (mul-pos (tens_some e) (tenths_some f)), below_coarse a (10 ^ r.0) k))
      (λ (r : (j : ℕ) × (a ≡ 10 ^ suc j * b)).
      let s = ten_least r.0 in
      rw r.1 (λ h. absurd (above_fine b (10 ^ suc r.0) k s q h), λ _. below_fine b (10 ^ suc r.0) k s q))
      (tens_apart e f)

module _ (p n d : ℕ) (x : ℤ) (t r : Threshold) (same : levelled t r ≡ levelled r t) where
  same_digits : (u : Threshold) → levelled t u * tenths r.exponent ≡ levelled r u * tenths t.exponent
  same_digits u = omega (arith, ap (λ (z : ℕ). z * tenths u.exponent) same)

  same_middle : (u : Threshold) → (levelled r u + levelled u r) * (d * tenths x) * tenths t.exponent ≡ (levelled t u + levelled u t) * (d * tenths x) * tenths r.exponent
  same_middle u = omega (arith, ap (λ (z : ℕ). z * (d * tenths x)) (same_digits u))

  -- the same number with other digits is as near
  nearest_same : Nearest p n d x t → Nearest p n d x r
  nearest_same s =
      let e = tenths t.exponent in
      let g = tenths r.exponent in
      record {
        above = λ u q h.
            lt_from _ _ _ _ e g (tenths_some r.exponent) (swap_back (2 * (n * least p * tens x)) g (tenths u.exponent) e) (same_middle u)
            (s.above u q (lt_from _ _ _ _ g e (tenths_some t.exponent) (same_digits u) (swap_last u.mantissa (tens u.exponent) e g) h));
        below = λ u q h.
            le_from _ _ _ _ e g (tenths_some t.exponent) (same_middle u) (swap_back (2 * (n * least p * tens x)) g (tenths u.exponent) e)
            (s.below u q (lt_from _ _ _ _ g e (tenths_some t.exponent) (swap_last u.mantissa (tens u.exponent) e g) (same_digits u) h));
      }

-- the digit counts that rounding is proved for: to one digit a number of 64 bits can need 19 tens, and more than five no number has
abbrev pub Count : ℕ → Type 0
Count p = (2 ≤ p) × (p ≤ five)

-- what is rounded within 64 bits: a fraction above zero with parts that are not large
pub record Rounds (p n d : ℕ) : Type 0 where
  pub count : Count p
  pub over : (1 ≤ n) × (n < 2 ^ 64)
  pub under : (1 ≤ d) × (d ≤ 1000000000000)

-- n over d, moved by `over` and `under` tens, has p digits before its point, and is not moved far
pub record Placed (p n d over under : ℕ) : Type 0 where
  pub low : least p * (d * 10 ^ under) ≤ n * 10 ^ over
  pub high : n * 10 ^ over < 10 * least p * (d * 10 ^ under)
  pub moved : p + over + under ≤ 21

least_some : (p : ℕ) → 0 < least p
least_some p = one-le-pow (p - 1) 10 (omega arith)

module _ (p n d : ℕ) (fit : Rounds p n d) where
  quotient : (k : ℕ) → (n / (10 * least p) + 1 ≤ k) ↔ (n < k * (10 * least p))
  quotient k = rw add-one (div-lt_iff_lt-mul (omega (arith, least_some p)))

  placed_up : n < d * least p → Placed p n d (up p n d) 0
  placed_up l =
      let top = mul-le-mul fit.under.1 (pow-le-pow_right {n = 10} (omega arith) {i = p - 1} {j = 4} (omega arith)) in
      let r = climb_reaches n (d * least p) (omega arith) (omega arith) in
      let s = climb_short n (d * least p) l in
      let m = climb_enough n (d * least p) 16 (omega arith) in
      omega arith

  placed_down : d * least p ≤ n → d < n / (10 * least p) + 1 → Placed p n d 0 (down p n d)
  placed_down g l =
      let c = n / (10 * least p) + 1 in
      let tens : 20 - p + (p - 1) ≡ 19 = omega arith in
      let top : c ≤ 10 ^ (20 - p) = (quotient (10 ^ (20 - p))).1 (omega (arith, rw tens at (pow-add 10 (20 - p) (p - 1)))) in
      let r = climb_reaches d c (omega arith) (omega (arith, pow-le-pow_right {n = 10} (omega arith) {i = 20 - p} {j = 18} (omega arith))) in
      let s = climb_short d c l in
      let m = climb_enough d c (20 - p) (omega (arith, mul-le-mul_right (10 ^ (20 - p)) fit.under.0)) in
      omega (arith, mul-le-mul_left (least p) s, div-mul-le_self n (10 * least p), (quotient (d * 10 ^ down p n d)).0 r)

  -- at most one of the two is moved, and n / d then has p digits before its point
  pub placed : Placed p n d (up p n d) (down p n d)
  placed =
      let c = n / (10 * least p) + 1 in
      ⊎_elim (λ (l : n < d * least p). rw (climb_none d c ((quotient d).1 (omega arith))) (placed_up l))
      (λ (g : d * least p ≤ n). rw (climb_none n (d * least p) g)
      (⊎_elim (λ (l : d < c). placed_down g l) (λ (h : c ≤ d). rw (climb_none d c h) (omega (arith, (quotient d).0 h))) (below d c)))
      (below n (d * least p))

  under_some : 0 < d * 10 ^ down p n d
  under_some = mul-pos fit.under.0 (one-le-pow (down p n d) 10 (omega arith))

  -- so its digits are p, or they round up to one more
  digits_range : (least p ≤ digits p n d) × (digits p n d ≤ 10 * least p)
  unfolding digits
  digits_range =
      let f = placed in
      let u = under_some in
      let z : 0 < 2 * (d * 10 ^ down p n d) = omega arith in
      let b : digits p n d < 10 * least p + 1 = (div-lt_iff_lt-mul z).1 (omega arith) in
      ((le-div_iff_mul-le z).1 (omega arith), omega arith)

  -- x and the power lie near each other
  pub power_near : (x : ℤ) → (nat_abs (power p n d x) ≤ nat_abs x + 20) × (nat_abs x ≤ nat_abs (power p n d x) + 20)
  unfolding power
  power_near x =
      let k = p - 1 + down p n d in
      let y = power p n d x in
      let back : y +ℤ pos (up p n d) -ℤ pos k ≡ x = ap (λ z. z -ℤ pos k) (-ℤ-+ℤ_cancel (x +ℤ pos k) (pos (up p n d))) ∙ +ℤ-neg_ℤ_cancel x (pos k) in
      let there = abs_minus (x +ℤ pos k) (pos (up p n d)) in
      let here = abs_minus (y +ℤ pos (up p n d)) (pos k) in
      omega (arith, placed.moved, ap nat_abs back, abs_add x (pos k), abs_add y (pos (up p n d)))

  -- either exit of rounded
  rounded_cases : (x : ℤ) (P : Threshold → Type 0) → (digits p n d ≡ 10 * least p → P (record { mantissa = least p; exponent = power p n d x +ℤ pos 1 }))
      → (digits p n d < 10 * least p → P (record { mantissa = digits p n d; exponent = power p n d x })) → P (rounded p n d x)
  unfolding rounded
  rounded_cases x P f g =
      cond_cases P (eqb (digits p n d) (10 * least p)) (record { mantissa = least p; exponent = power p n d x +ℤ pos 1 }) (record { mantissa = digits p n d; exponent = power p n d x })
      (λ e. f (eqb-true (digits p n d) (10 * least p) e)) (λ e. g (let z = eqb-false (digits p n d) (10 * least p) e in omega (arith, digits_range)))

  -- the result is normalised
  pub rounded_digits : (x : ℤ) → OfDigits p (rounded p n d x).mantissa
  rounded_digits x =
      rounded_cases x (λ (t : Threshold). OfDigits p t.mantissa) (λ e. omega (arith, least_some p)) (λ l. (digits_range.0, l))

  -- x and its exponent lie near each other
  pub rounded_near : (x : ℤ) → (nat_abs (rounded p n d x).exponent ≤ nat_abs x + 21) × (nat_abs x ≤ nat_abs (rounded p n d x).exponent + 21)
  rounded_near x =
      let h = power_near x in
      let y = power p n d x in
      rounded_cases x (λ (t : Threshold). (nat_abs t.exponent ≤ nat_abs x + 21) × (nat_abs x ≤ nat_abs t.exponent + 21))
      (λ e. omega (arith, abs_add y (pos 1), abs_minus (y +ℤ pos 1) (pos 1), ap nat_abs (+ℤ-neg_ℤ_cancel y (pos 1)))) (λ l. omega arith)

  power_level : (x : ℤ) → 10 ^ up p n d * (tens (power p n d x) * tenths x) ≡ least p * 10 ^ down p n d * (tens x * tenths (power p n d x))
  unfolding power
  power_level x =
      let k = p - 1 + down p n d in
      rw (pow-add 10 (p - 1) (down p n d)) at (tens_level (power p n d x) x (up p n d) k (-ℤ-+ℤ_cancel (x +ℤ pos k) (pos (up p n d))))

  -- n over d with both parts moved
  moved_over : (x f : ℤ) → 2 * (n * least p * tens x) * (tenths (power p n d x) * tenths f) * 10 ^ down p n d
      ≡ 2 * (n * 10 ^ up p n d) * (tens (power p n d x) * tenths f) * tenths x
  moved_over x f = omega (arith, ap (λ (z : ℕ). z * (n * tenths f)) (power_level x))

  digits_nearest : (x : ℤ) → Nearest p n d x (record { mantissa = digits p n d; exponent = power p n d x })
  unfolding digits
  digits_nearest x =
      let over = n * 10 ^ up p n d in
      let under = d * 10 ^ down p n d in
      let w = 10 ^ down p n d in
      let beside = middle over under (digits p n d) (least p) placed.low (nearest_bounds over under under_some) digits_range.0 (power p n d x) in
      record {
        above = λ u q h.
            lt_from _ _ _ _ w (tenths x) (tenths_some x) (moved_over x u.exponent) (swap_last _ d (tenths x) w) ((beside u.exponent u.mantissa q.1).0 h);
        below = λ u q h.
            le_from _ _ _ _ w (tenths x) (one-le-pow (down p n d) 10 (omega arith)) (swap_last _ d (tenths x) w) (moved_over x u.exponent) ((beside u.exponent u.mantissa q.1).1 h);
      }

  -- the result is the number of p digits nearest to n / d times ten to the x, a tie going upwards
  pub rounded_nearest : (x : ℤ) → Nearest p n d x (rounded p n d x)
  rounded_nearest x =
      let e = power p n d x in
      rounded_cases x (Nearest p n d x)
      (λ q. nearest_same p n d x (record { mantissa = digits p n d; exponent = e }) (record { mantissa = least p; exponent = e +ℤ pos 1 })
      (rw q (omega (arith, ap (λ (z : ℕ). least p * z) (tens_more e 1)))) (digits_nearest x))
      (λ l. digits_nearest x)

-- no middle s lies above n' / d' and not above n / d, where n / d is at most n' / d'
crossed : (s c n d n' d' : ℕ) → 0 < d → s * d ≤ c * n → c * n' < s * d' → n * d' ≤ n' * d → ⊥
crossed s c n d n' d' z a b h = omega (arith, mul-le-mul_right d' a, mul-lt-mul_of_pos_right b z, mul-le-mul_left c h)

module _ {p n d : ℕ} {x : ℤ} {t : Threshold} {n' d' : ℕ} {x' : ℤ} {u : Threshold} (some : 0 < d)
    (r : Nearest p n d x t) (s : Nearest p n' d' x' u) (a : OfDigits p t.mantissa) (b : OfDigits p u.mantissa)
    (h : n * tens x * (d' * tenths x') ≤ n' * tens x' * (d * tenths x)) where
  nearest_at_most : levelled t u ≤ levelled u t
  nearest_at_most =
      let c = 2 * (least p * (tenths t.exponent * tenths u.exponent)) in
      ⊎_elim (λ (l : levelled u t < levelled t u).
      absurd (crossed (levelled t u + levelled u t) c (n * tens x) (d * tenths x) (n' * tens x') (d' * tenths x') (mul-pos some (tenths_some x))
      (omega (arith, r.below u b l)) (omega (arith, s.above t a l)) h))
      (λ (g : levelled t u ≤ levelled u t). g) (below (levelled u t) (levelled t u))

  -- rounding is monotone: where n / d times ten to the x is at most the other number, what is nearest to it is not above
  -- what is nearest to the other (for thresholds that are taken to another unit)
  pub nearest_monotone : less (as_value u) (as_value t) ≡ false
  unfolding less
  nearest_monotone = le-ltb _ _ nearest_at_most

-- no two numbers are nearest
pub nearest_only : {p n d : ℕ} {x : ℤ} {t u : Threshold} → 0 < d → Nearest p n d x t → Nearest p n d x u → OfDigits p t.mantissa → OfDigits p u.mantissa
    → levelled t u ≡ levelled u t
nearest_only z r s a b = omega (arith, nearest_at_most z r s a b (omega arith), nearest_at_most z s r b a (omega arith))

-- the test for five digits
pub of_five : (m : ℕ) → five_digits m ≡ true → OfDigits five m
of_five m h = let b = in_range_lem 10000 99999 m h in omega arith

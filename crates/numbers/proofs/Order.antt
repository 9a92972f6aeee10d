-- The order of numbers of five digits: the exponents decide, and where they are equal the digits. A value beside a threshold.
use Prim.Native.Nat.{ℕ, zero, suc, ◌*◌, ◌^◌, ◌≤◌, ◌<◌}
use mathlib.Core.Path.{◌≡◌, refl, sym, ap, ◌∙◌, subst}
use mathlib.Core.Bool.{Bool, true, false, ◌&&◌, and-eq-true_iff}
use mathlib.Core.Logic.{⊎_elim}
use mathlib.Mathlib.Data.Bool.Basic.{dichotomy}
use native.Mathlib.Omega.{arith}
use native.Mathlib.Nat.{pow-suc, pow-le-pow_right, one-le-pow, zero-mul, mul-pos, mul-le-mul, mul-le-mul_right, mul-lt-mul_of_pos_right, eq_of_mul-eq-mul_right, le_antisymm, le_of_lt}
use borrow.Author.Tests.{ltb-true, ltb-false, leb-true, leb-false, lt-ltb, le-ltb, ne_eqb}
use lib.Dec.{T, ltb}
use lib.IntN.{ℤ, pos, negsuc, neg_ℤ, nat_abs, ◌*ℤ◌}
use lib.Signed.{lt_z, le_z, non_neg, pos-nat_abs}
use mir.Syntax.{w32}
use mir.Val.{SFits, to_z, of_z}
use mir.Facts.{to_z-of_z}
use Rattle.std.proofs.Common.{Ordering}
use Rattle.std.specs.Ordering.{nat_cmp, int_cmp, ordering_then, is_lt, is_gt}
use Rattle.std.proofs.lemmas.Bool.Decides.{nat_tests}
use Rattle.ground.proofs.Cases.{below, and_both, and_not_both}
use Rattle.numbers.specs.Numbers.{five, OfDigits, is_number, within_stops, tens, tenths, less, as_value, unsigned, is_below, is_above}
use Rattle.numbers.specs.Rounding.{levelled}
use Rattle.numbers.specs.declared.threshold.Threshold.{Threshold}
use Rattle.numbers.specs.declared.value.Value.{Value}
use Rattle.numbers.proofs.Nearest.{of_five}
use Rattle.numbers.proofs.Stops.{stops_digits}
use Rattle.numbers.proofs.Fractions.{tens_some, tenths_some}

-- no number is and_both below and above another
lt_not_gt : (a b : ℤ) → lt_z a b ≡ true → lt_z b a ≡ false
lt_not_gt (pos a) (pos b) h = le-ltb b a (omega (arith, ltb-true a b h))
lt_not_gt (pos a) (negsuc b) h = absurd (subst T (sym h) tt)
lt_not_gt (negsuc a) (pos b) h = refl
lt_not_gt (negsuc a) (negsuc b) h = le-ltb a b (omega (arith, ltb-true b a h))

not_lt_not_gt : (a b : ℤ) → lt_z a b ≡ false → lt_z b a ≡ false → a ≡ b
not_lt_not_gt (pos a) (pos b) h k = ap pos (le_antisymm (ltb-false b a k) (ltb-false a b h))
not_lt_not_gt (pos a) (negsuc b) h k = absurd (subst T k tt)
not_lt_not_gt (negsuc a) (pos b) h k = absurd (subst T h tt)
not_lt_not_gt (negsuc a) (negsuc b) h k = ap negsuc (le_antisymm (ltb-false b a h) (ltb-false a b k))

-- powers of ten brought to one denominator are not zero
powers : (e f : ℤ) → 0 < tens e * tenths f
powers e f = mul-pos (tens_some e) (tenths_some f)

-- the power with the higher exponent is at least ten times the other
pub tenfold : (e f : ℤ) → lt_z e f ≡ true → 10 * (tens e * tenths f) ≤ tens f * tenths e
tenfold (pos a) (pos b) h = omega (arith, pow-suc 10 a, pow-le-pow_right {n = 10} (omega arith) (ltb-true a b h))
tenfold (pos a) (negsuc b) h = absurd (subst T (sym h) tt)
tenfold (negsuc a) (pos b) h =
    let l : 10 ≤ 10 ^ suc a = omega (arith, pow-suc 10 a, one-le-pow a 10 (omega arith)) in
    omega (arith, mul-le-mul (one-le-pow b 10 (omega arith)) l)
tenfold (negsuc a) (negsuc b) h =
    let l : suc (suc b) ≤ suc a = omega (arith, ltb-true b a h) in
    omega (arith, pow-suc 10 (suc b), pow-le-pow_right {n = 10} (omega arith) l)

digits_below : (c m n p q : ℕ) → OfDigits c m → OfDigits c n → 0 < p → 10 * p ≤ q → m * p < n * q
digits_below c m n p q hm hn hp hq = omega (arith, mul-le-mul_right p hm.1, mul-le-mul hn.0 hq)

-- a factor that is not zero keeps the order
factor : (m n p : ℕ) → 0 < p → ltb (m * p) (n * p) ≡ ltb m n
factor m n p h =
    ⊎_elim (λ (l : m < n). lt-ltb _ _ (mul-lt-mul_of_pos_right l h) ∙ sym (lt-ltb _ _ l))
    (λ (g : n ≤ m). le-ltb _ _ (mul-le-mul_right p g) ∙ sym (le-ltb _ _ g)) (below m n)

-- `less` of two numbers that are not negative
abbrev pub smaller : ℕ → ℤ → ℕ → ℤ → Bool
smaller m e n f = ltb (m * (tens e * tenths f)) (n * (tens f * tenths e))

module _ (m : ℕ) (e : ℤ) (n : ℕ) (f : ℤ) where
  module _ (c : ℕ) (hm : OfDigits c m) (hn : OfDigits c n) where
    pub lower_exponent : lt_z e f ≡ true → smaller m e n f ≡ true
    lower_exponent h = lt-ltb _ _ (digits_below c m n _ _ hm hn (powers e f) (tenfold e f h))

    pub higher_exponent : lt_z f e ≡ true → smaller m e n f ≡ false
    higher_exponent h = le-ltb _ _ (le_of_lt (digits_below c n m _ _ hn hm (powers f e) (tenfold f e h)))

  pub same_exponent : lt_z e f ≡ false → lt_z f e ≡ false → smaller m e n f ≡ ltb m n
  same_exponent h k = rw (not_lt_not_gt e f h k) (factor m n _ (powers f f))

-- the order of the exponents, and then of the digits, as `cmp` of the two finds it
module _ (m : ℕ) (e : ℤ) (n : ℕ) (f : ℤ) (c : ℕ) (hm : OfDigits c m) (hn : OfDigits c n) where
  abbrev found : Ordering
  found = ordering_then (int_cmp e f) (nat_cmp m n)

  digits_lt : is_lt (nat_cmp m n) ≡ ltb m n
  digits_lt = grind (arith, nat_tests)

  digits_gt : is_gt (nat_cmp m n) ≡ ltb n m
  digits_gt = grind (arith, nat_tests)

  pub found_less : is_lt found ≡ smaller m e n f
  found_less =
      ⊎_elim (λ (h : lt_z e f ≡ false).
      ⊎_elim (λ (k : lt_z f e ≡ false). rw (h, k) (digits_lt ∙ sym (same_exponent m e n f h k)))
      (λ (k : lt_z f e ≡ true). rw (h, k) (sym (higher_exponent m e n f c hm hn k))) (dichotomy (lt_z f e)))
      (λ (h : lt_z e f ≡ true). rw h (sym (lower_exponent m e n f c hm hn h))) (dichotomy (lt_z e f))

  pub found_greater : is_gt found ≡ smaller n f m e
  found_greater =
      ⊎_elim (λ (h : lt_z e f ≡ false).
      ⊎_elim (λ (k : lt_z f e ≡ false). rw (h, k) (digits_gt ∙ sym (same_exponent n f m e k h)))
      (λ (k : lt_z f e ≡ true). rw (h, k) (sym (lower_exponent n f m e c hn hm k))) (dichotomy (lt_z f e)))
      (λ (h : lt_z e f ≡ true). rw h (sym (higher_exponent n f m e c hn hm h))) (dichotomy (lt_z e f))

-- a number has its digits once
pub same_number : (c : ℕ) (t u : Threshold) → OfDigits c t.mantissa → OfDigits c u.mantissa → levelled t u ≡ levelled u t → t ≡ u
same_number c t u ht hu q =
    ⊎_elim (λ (n : lt_z t.exponent u.exponent ≡ false).
    ⊎_elim (λ (k : lt_z u.exponent t.exponent ≡ false). together (not_lt_not_gt t.exponent u.exponent n k))
    (λ (l : lt_z u.exponent t.exponent ≡ true). absurd (omega (arith, ltb-true (levelled u t) (levelled t u) (lower_exponent u.mantissa u.exponent t.mantissa t.exponent c hu ht l))))
    (dichotomy (lt_z u.exponent t.exponent)))
    (λ (l : lt_z t.exponent u.exponent ≡ true). absurd (omega (arith, ltb-true (levelled t u) (levelled u t) (lower_exponent t.mantissa t.exponent u.mantissa u.exponent c ht hu l))))
    (dichotomy (lt_z t.exponent u.exponent))
  where
    together : t.exponent ≡ u.exponent → t ≡ u
    together e =
        let p = powers u.exponent u.exponent in
        let m : t.mantissa ≡ u.mantissa = eq_of_mul-eq-mul_right _ p t.mantissa u.mantissa (rw e at q) in
        λ i. record { mantissa = m i; exponent = e i }

neg_lt : (k n : ℕ) → 0 < k → lt_z (neg_ℤ (pos k)) (pos n) ≡ true
neg_lt zero n h = absurd (omega arith)
neg_lt (suc k) n h = refl

-- zero and what is negative is below every number above zero
pub less_nonpositive : (z e : ℤ) (t : Threshold) → le_z z (pos 0) ≡ true → 0 < t.mantissa → less (record { mantissa = z; exponent = e }) (as_value t) ≡ true
unfolding less
less_nonpositive (pos zero) e t h k = rw zero-mul (lt-ltb 0 _ (mul-pos k (powers t.exponent e)))
less_nonpositive (pos (suc m)) e t h k = absurd (let l : suc m ≤ 0 = leb-true (suc m) 0 h in omega arith)
less_nonpositive (negsuc m) e t h k =
    neg_lt (suc m * (tens e * tenths t.exponent)) (t.mantissa * (tens t.exponent * tenths e)) (mul-pos (omega arith) (powers e t.exponent))

-- of two numbers one at most is less than the other
pub less_not_both : (v w : Value) → less v w ≡ true → less w v ≡ false
unfolding less
less_not_both v w h = lt_not_gt (v.mantissa *ℤ pos (tens v.exponent * tenths w.exponent)) (w.mantissa *ℤ pos (tens w.exponent * tenths v.exponent)) h

not_negative : (z : ℤ) → le_z z (pos 0) ≡ false → T (non_neg z)
not_negative (pos n) h = tt
not_negative (negsuc n) h = subst T h tt

not_zero : (z : ℤ) → le_z z (pos 0) ≡ false → nat_abs z ≡ 0 → ⊥
not_zero (pos n) h q = omega (arith, leb-false n 0 h)
not_zero (negsuc n) h q = subst T h tt

module _ (v : Value) (t : Threshold) where
  -- below and above are the order of the numbers
  pub below_is_less : is_number v ≡ true → within_stops t ≡ true → is_below v t ≡ less v (as_value t)
  unfolding is_below
  below_is_less h k = and_both (is_number v) (within_stops t) _ h k

  pub above_is_less : is_number v ≡ true → within_stops t ≡ true → is_above v t ≡ less (as_value t) v
  unfolding is_above
  above_is_less h k = and_both (is_number v) (within_stops t) _ h k

  -- and nothing is and_both
  pub below_not_above : is_below v t ≡ true → is_above v t ≡ false
  unfolding is_below
  below_not_above h =
      let a = (and-eq-true_iff (is_number v) _).0 h in
      let b = (and-eq-true_iff (within_stops t) _).0 a.1 in
      above_is_less a.0 b.0 ∙ less_not_both v (as_value t) b.1

-- What `Value::order` starts from: 32 bits hold each number that it reads.
pub record Beside (v : Value) (t : Threshold) : Type 0 where
  pub digits : SFits w32 v.mantissa
  pub power : SFits w32 v.exponent
  pub stop : SFits w32 t.exponent

abbrev read : ℤ → ℤ
read z = to_z w32 (of_z w32 z)

-- Its ways out, in the order of the code: no two numbers, a value of zero or less, and one above zero.
module _ (v : Value) (t : Threshold) where
  pub no_below : is_number v && within_stops t ≡ false → false ≡ is_below v t
  unfolding is_below
  no_below h = sym (and_not_both (is_number v) (within_stops t) _ h)

  pub no_above : is_number v && within_stops t ≡ false → false ≡ is_above v t
  unfolding is_above
  no_above h = sym (and_not_both (is_number v) (within_stops t) _ h)

  module _ (beside : Beside v t) (comparable : is_number v && within_stops t ≡ true) where
    both : (is_number v ≡ true) × (within_stops t ≡ true)
    both = (and-eq-true_iff (is_number v) (within_stops t)).0 comparable

    nonpositive : le_z (read v.mantissa) (pos 0) ≡ true → is_below v t ≡ true
    nonpositive h =
        below_is_less v t both.0 both.1
        ∙ less_nonpositive v.mantissa v.exponent t (rw (to_z-of_z beside.digits) at h) (omega (arith, stops_digits t both.1))

    pub nonpositive_below : le_z (read v.mantissa) (pos 0) ≡ true → true ≡ is_below v t
    nonpositive_below h = sym (nonpositive h)

    pub nonpositive_above : le_z (read v.mantissa) (pos 0) ≡ true → false ≡ is_above v t
    nonpositive_above h = sym (below_not_above v t (nonpositive h))

    module _ (test : le_z (read v.mantissa) (pos 0) ≡ false) where
      positive : le_z v.mantissa (pos 0) ≡ false
      positive = rw (to_z-of_z beside.digits) at test

      as_natural : v ≡ as_value (unsigned v)
      as_natural =
          ap (λ (z : ℤ). record { mantissa = z; exponent = v.exponent }) (sym (pos-nat_abs v.mantissa (not_negative v.mantissa positive)))

      value_digits : OfDigits five (nat_abs v.mantissa)
      value_digits =
          let h = rw (ne_eqb (nat_abs v.mantissa) 0 (not_zero v.mantissa positive)) at both.0 in
          of_five (nat_abs v.mantissa) ((and-eq-true_iff _ _).0 h).0

      module _ {r : Ordering} (e : r ≡ ordering_then (int_cmp (read v.exponent) (read t.exponent)) (nat_cmp (nat_abs (read v.mantissa)) t.mantissa)) where
        compared : r ≡ ordering_then (int_cmp v.exponent t.exponent) (nat_cmp (nat_abs v.mantissa) t.mantissa)
        compared = rw (to_z-of_z beside.digits, to_z-of_z beside.power, to_z-of_z beside.stop) at e

        pub positive_below : is_lt r ≡ is_below v t
        unfolding less
        positive_below =
            ap is_lt compared ∙ found_less (nat_abs v.mantissa) v.exponent t.mantissa t.exponent five value_digits (stops_digits t both.1)
            ∙ sym (ap (λ w. less w (as_value t)) as_natural) ∙ sym (below_is_less v t both.0 both.1)

        pub positive_above : is_gt r ≡ is_above v t
        unfolding less
        positive_above =
            ap is_gt compared ∙ found_greater (nat_abs v.mantissa) v.exponent t.mantissa t.exponent five value_digits (stops_digits t both.1)
            ∙ sym (ap (less (as_value t)) as_natural) ∙ sym (above_is_less v t both.0 both.1)

pub ruleset ways_out = (no_below, no_above, nonpositive_below, nonpositive_above, positive_below, positive_above)

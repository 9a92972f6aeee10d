-- Reading what was written gives the same number: the digit facts once over their count, then whole numbers, factors, thresholds.
use Rattle.std.specs.Prelude.{Some, Ok}
use Prim.Native.Nat.{ℕ, zero, suc, ◌+◌, ◌*◌, ◌/◌, ◌%◌, ◌^◌, ◌≤◌, ◌<◌}
use Prim.Native.Char.{code}
use mathlib.Core.Path.{◌≡◌, refl, sym, ap, ap₂, ◌∙◌}
use mathlib.Core.List.{List, [], ◌∷◌, ◌++◌, append-nil}
use mathlib.Core.Bool.{Bool, true, false, cond, ◌&&◌}
use mathlib.Core.Logic.{⊎_elim}
use native.Mathlib.Omega.{arith}
use native.Mathlib.Nat.{pow-succ', add-mul, mul_assoc, one-le-pow, mod-lt, mod-eq_of_lt, div-eq_of_lt, lt_of_lt_of_le, add-sub_cancel_left, pow-le-pow_right}
use borrow.Author.Tests.{le-leb, ne_eqb, eqb-true, eqb-false}
use lib.Arith.{mod-mul}
use lib.Dec.{eqb}
use lib.ListN.{length}
use lib.IntN.{ℤ, pos, negsuc, nat_abs, ◌-ℤ◌}
use Rattle.ground.proofs.Cases.{below}
use Rattle.text.specs.Digits.{dig, bare, whole_text, factor_text}
use Rattle.text.proofs.Decimals.{dig_length}
use Rattle.numbers.specs.Numbers.{five, OfDigits, within_stops}
use Rattle.numbers.specs.Rounding.{fitted_to}
use Rattle.numbers.specs.declared.threshold.Threshold.{Threshold}
use Rattle.numbers.proofs.Exact.{round_same}
use Rattle.numbers.proofs.Stops.{stops_digits, stops_near, fitted_within}
use Rattle.numerals.specs.Writing.{sign_byte, scientific, threshold_text}
use Rattle.numerals.specs.Runs.{is_digit, lead, rest, head_is, value}
use Rattle.numerals.specs.Whole.{number_of, whole_of, behind_point, factor_of}
use Rattle.numerals.specs.Exponential.{after_plus, after_sign, power_of, fitted_numeral, weighed, composed, fraction, after_fraction, threshold_of}
use Rattle.numerals.proofs.DigitRuns.{value_none}
use Rattle.numerals.proofs.Wholes.{number_is, factor_taken}

-- ---- over the digit count

is_digit_lem : (d : ℕ) → d < 10 → is_digit (48 + d) ≡ true
is_digit_lem d h = simp (le-leb 48 (48 + d) (omega arith), le-leb (48 + d) 57 (omega arith))

-- k digits of n, with something behind them that begins with none
lead_dig : (k n : ℕ) (s : List ℕ) → lead s ≡ [] → lead (dig k n ++ s) ≡ dig k n
unfolding lead
lead_dig zero n s h = h
lead_dig (suc k) n s h = rw (is_digit_lem (n / 10 ^ k % 10) (omega arith), lead_dig k n s h)

rest_dig : (k n : ℕ) (s : List ℕ) → rest s ≡ s → rest (dig k n ++ s) ≡ s
unfolding rest
rest_dig zero n s h = h
rest_dig (suc k) n s h = rw (is_digit_lem (n / 10 ^ k % 10) (omega arith)) (rest_dig k n s h)

-- n's last k + 1 digits are the next one and the last k
split : (k n : ℕ) → n % 10 ^ suc k ≡ (n / 10 ^ k % 10) * 10 ^ k + n % 10 ^ k
split k n = rw pow-succ' (mod-mul n {m = 10} {c = 10 ^ k} (omega arith) (one-le-pow k 10 (omega arith)))

regroup : (k a d r : ℕ) → (a * 10 + d) * 10 ^ k + r ≡ a * 10 ^ suc k + (d * 10 ^ k + r)
regroup k a d r = rw (pow-succ', add-mul, mul_assoc) (omega arith)

-- the last k digits of n behind those of a
value_dig : (k a n : ℕ) (s : List ℕ) → value a (dig k n ++ s) ≡ value (a * 10 ^ k + n % 10 ^ k) s
unfolding value
value_dig zero a n s = ap (λ (x : ℕ). value x s) (omega arith)
value_dig (suc k) a n s =
    let d = n / 10 ^ k % 10 in
    rw (value, add-sub_cancel_left 48 d) (value_dig k (a * 10 + d) n s ∙ ap (λ (x : ℕ). value x s) (regroup k a d (n % 10 ^ k) ∙ rw (split k n)))

value_last : (k n : ℕ) → value 0 (dig k n) ≡ n % 10 ^ k
value_last k n = (rw append-nil at (value_dig k 0 n [])) ∙ value_none (0 * 10 ^ k + n % 10 ^ k) ∙ omega arith

-- k digits are read as the number that they are
number_last : (most k n : ℕ) → 1 ≤ k → k ≤ most → number_of most (dig k n) ≡ Some (n % 10 ^ k)
unfolding lead rest
number_last most k n a b =
    let l : lead (dig k n) ≡ dig k n = rw append-nil at (lead_dig k n [] refl) in
    let r : rest (dig k n) ≡ [] = rw append-nil at (rest_dig k n [] refl) in
    sym (number_is most (dig k n) (rw r) (rw (l, dig_length) a) (rw (l, dig_length) b)) ∙ ap Some (ap (value 0) l ∙ value_last k n)

-- a number's digits without leading zeros: as many as it has
record Bare (k n : ℕ) : Type 0 where
  j : ℕ
  few : j ≤ k
  is : bare (dig (suc k) n) ≡ dig (suc j) n
  same : n % 10 ^ suc k ≡ n % 10 ^ suc j
  tight : 1 ≤ j → 10 ^ j ≤ n

-- a leading digit that is no zero
tight_by : (j n : ℕ) → (n / 10 ^ j % 10 ≡ 0 → ⊥) → 10 ^ j ≤ n
tight_by j n h = ⊎_elim (λ (l : n < 10 ^ j). absurd (h (rw (div-eq_of_lt l)))) (λ (g : 10 ^ j ≤ n). g) (below n (10 ^ j))

bare_dig : (k n : ℕ) → Bare k n
unfolding bare
bare_dig zero n = record { j = 0; few = omega arith; is = one (eqb (48 + n / 10 ^ 0 % 10) 48); same = refl; tight = λ l. absurd (omega arith) }
  where
    one : (t : Bool) → cond (t && false) [] ((48 + n / 10 ^ 0 % 10) ∷ []) ≡ (48 + n / 10 ^ 0 % 10) ∷ []
    one true = refl
    one false = refl
bare_dig (suc k) n = go (eqb (48 + n / 10 ^ suc k % 10) 48) refl (bare_dig k n)
  where
    go : (t : Bool) → eqb (48 + n / 10 ^ suc k % 10) 48 ≡ t → Bare k n → Bare (suc k) n
    go true e r =
        let z : n / 10 ^ suc k % 10 ≡ 0 = omega (arith, eqb-true (48 + n / 10 ^ suc k % 10) 48 e) in
        record {
          j = r.j;
          few = omega (arith, r.few);
          is = rw (e, le-leb 1 (length (dig (suc k) n)) (rw dig_length (omega arith))) r.is;
          same = split (suc k) n ∙ rw z (omega (arith, r.same));
          tight = r.tight;
        }
    go false e r = record {
      j = suc k;
      few = omega arith;
      is = rw e;
      same = refl;
      tight = λ _. tight_by (suc k) n (λ z. eqb-false (48 + n / 10 ^ suc k % 10) 48 e (omega (arith, z)));
    }

-- a number below ten to the most, as it is written
record Written (most n : ℕ) : Type 0 where
  k : ℕ
  some : 1 ≤ k
  few : k ≤ most
  is : whole_text n ≡ dig k n
  small : n < 10 ^ k

written : (most n : ℕ) → 1 ≤ most → most ≤ 10 → n < 10 ^ most → Written most n
written most n a b h =
    let r = bare_dig 9 n in
    let fits : n < 10 ^ 10 = lt_of_lt_of_le h (pow-le-pow_right (omega arith) b) in
    let below-most : r.j < most = ⊎_elim (λ (l : r.j < most). l)
    (λ (g : most ≤ r.j). absurd (omega (arith, r.tight (omega arith), pow-le-pow_right {n = 10} (omega arith) g))) (below r.j most) in
    record {
      k = suc r.j;
      some = omega arith;
      few = omega arith;
      is = r.is;
      small = omega (arith, mod-eq_of_lt fits, r.same, mod-lt n {m = 10 ^ suc r.j} (one-le-pow (suc r.j) 10 (omega arith)));
    }

-- ---- whole numbers and factors

pub whole_round : (n : ℕ) → n < 1000 → whole_of (whole_text n) ≡ Some n
whole_round n h =
    let w = written 3 n (omega arith) (omega arith) h in
    rw w.is (number_last 3 w.k n w.some w.few ∙ ap Some (mod-eq_of_lt w.small))

-- k digits before the point and three behind it
factor_digits : (k q t : ℕ) → 1 ≤ k → k ≤ 2 → q < 10 ^ k → factor_of (dig k q ++ (code "." ∷ dig 3 t)) ≡ Some (q * 1000 + t % 1000)
unfolding lead rest head_is behind_point
factor_digits k q t a b h =
    let s = dig k q ++ (code "." ∷ dig 3 t) in
    let l : lead s ≡ dig k q = lead_dig k q (code "." ∷ dig 3 t) refl in
    let r : rest s ≡ code "." ∷ dig 3 t = rest_dig k q (code "." ∷ dig 3 t) refl in
    sym (factor_taken s (rw (l, dig_length, le-leb 1 k a, le-leb k 2 b)))
    ∙ rw (l, r, value_last k q, mod-eq_of_lt h, number_last 3 3 t (omega arith) (omega arith)) (ap Some (omega arith))

pub factor_round : (t : ℕ) → t < 100000 → factor_of (factor_text t) ≡ Some t
factor_round t h =
    let w = written 2 (t / 1000) (omega arith) (omega arith) (omega arith) in
    rw w.is (factor_digits w.k (t / 1000) t w.some w.few w.small ∙ ap Some (omega arith))

-- ---- thresholds

power_round : (e : ℤ) → nat_abs e < 100 → power_of (code "E" ∷ sign_byte e ∷ dig 2 (nat_abs e)) ≡ Some e
unfolding power_of after_sign head_is
power_round (pos n) h = rw (number_last 2 2 n (omega arith) (omega arith), mod-eq_of_lt h)
power_round (negsuc n) h = rw (number_last 2 2 (suc n) (omega arith) (omega arith), mod-eq_of_lt h)

-- a digit, a point and what follows
module _ (d : ℕ) (h : d < 10) (s : List ℕ) where
  first_plus : after_plus ((48 + d) ∷ code "." ∷ s) ≡ (48 + d) ∷ code "." ∷ s
  unfolding after_plus head_is
  first_plus = rw (ne_eqb (48 + d) 43 (omega arith))

  first_lead : lead ((48 + d) ∷ code "." ∷ s) ≡ (48 + d) ∷ []
  unfolding lead
  first_lead = rw (is_digit_lem d h)

  first_rest : rest ((48 + d) ∷ code "." ∷ s) ≡ code "." ∷ s
  unfolding rest
  first_rest = rw (is_digit_lem d h)

  first_point : threshold_of ((48 + d) ∷ code "." ∷ s) ≡ composed ((48 + d) ∷ []) (lead s) (rest s)
  unfolding threshold_of fraction after_fraction head_is
  first_point = rw (first_plus, first_lead, first_rest)

five_value : (m : ℕ) → OfDigits five m → value 0 (dig 1 (m / 10000) ++ dig 4 m) ≡ m
five_value m h =
    (rw append-nil at (value_dig 1 0 (m / 10000) (dig 4 m ++ [])))
    ∙ (rw append-nil at (value_dig 4 (0 * 10 ^ 1 + m / 10000 % 10 ^ 1) m [])) ∙ value_none _ ∙ omega arith

fits_round : (t : Threshold) → within_stops t ≡ true → fitted_to t.mantissa (t.exponent -ℤ pos 4) ≡ Some t
fits_round t h =
    let m = stops_digits t h in
    let same = round_same five (omega arith) t m in
    sym (fitted_within t.mantissa (t.exponent -ℤ pos 4) (λ z. omega (arith, m)) (ap within_stops same ∙ h)) ∙ ap Some same

-- for every threshold within the end stops
pub threshold_round : (t : Threshold) → within_stops t ≡ true → threshold_of (threshold_text t) ≡ Ok t
unfolding scientific composed lead rest
threshold_round t h =
    let m = t.mantissa in
    let e = t.exponent in
    let d = m / 10000 / 1 % 10 in
    let tail : List ℕ = code "E" ∷ sign_byte e ∷ dig 2 (nat_abs e) in
    first_point d (omega arith) (dig 4 m ++ tail)
    ∙ ap₂ (composed ((48 + d) ∷ [])) (lead_dig 4 m tail refl) (rest_dig 4 m tail refl)
    ∙ ap (weighed (dig 1 (m / 10000) ++ dig 4 m) 4) (power_round e (omega (arith, stops_near t h)))
    ∙ ap (λ (n : ℕ). fitted_numeral (fitted_to n (e -ℤ pos 4))) (five_value m (stops_digits t h))
    ∙ ap fitted_numeral (fits_round t h)

-- The digits that a list begins with, what follows them, and the number that they make.
use Rattle.std.proofs.lemmas.Bool.Decides.{nat_tests}
use Rattle.std.specs.List.{position_or_len}
use Rattle.std.specs.Option.{unwrap_or}
use Rattle.std.specs.Prelude.{Option, Some, None}
use Prim.Native.Nat.{ℕ, suc, ◌+◌, ◌-◌, ◌*◌, ◌^◌, ◌≤◌, ◌<◌}
use mathlib.Core.Path.{◌≡◌, refl, sym, ap}
use mathlib.Core.List.{List, [], ◌∷◌, ◌++◌}
use mathlib.Core.Bool.{Bool, true, false, cond, not, ◌&&◌}
use native.Mathlib.Omega.{arith}
use native.Mathlib.Nat.{pow-suc, pow-le-pow_right, lt_of_lt_of_le, mul-le-mul_left, mul-le-mul_right}
use native.Mathlib.Numerals.{add-one}
use borrow.Author.Tests.{le-leb, leb-true, ltb-false}
use lib.ListN.{length, get_or, drop, take, drop_of_length-le, length-drop}
use lib.Seq.{drop-cons, take_all}
use lib.Dec.{leb, ltb, eqb}
use lib.Pow.{pow-add}
use Rattle.numerals.specs.Runs.{part, is_digit, lead, rest, head_is, value}

-- what stands behind the first byte, and whether that byte is c
pub behind_first : (s : List ℕ) → take (length s - 1) (drop 1 s) ≡ drop 1 s
behind_first s = take_all (length s - 1) (drop 1 s) (omega (arith, length-drop 1 s))

pub head_first : (c : ℕ) (s : List ℕ) → head_is c s ≡ leb 1 (length s) && eqb (get_or s 0 0) c
unfolding head_is
head_first c [] = refl
head_first c (b ∷ s) = rw (le-leb 1 (length (b ∷ s)) (omega arith))

-- what a test of the first byte comes to
pub ruleset heads = (head_first, behind_first, nat_tests)

lead_take_by : (t : Bool) (b : ℕ) (s : List ℕ) → lead s ≡ take (length (lead s)) s
    → cond t (b ∷ lead s) [] ≡ take (length (cond t (b ∷ lead s) [])) (b ∷ s)
lead_take_by true b s h = ap (λ (l : List ℕ). b ∷ l) h
lead_take_by false b s h = refl

pub lead_take : (s : List ℕ) → lead s ≡ take (length (lead s)) s
unfolding lead
lead_take [] = refl
lead_take (b ∷ s) = lead_take_by (is_digit b) b s (lead_take s)

-- so the bytes up to where it ends are the run
pub lead_part : (s : List ℕ) (n : ℕ) → n ≡ length (lead s) → part 0 n s ≡ lead s
lead_part s n h = let e : n - 0 ≡ length (lead s) = omega (arith, h) in rw e (sym (lead_take s))

rest_drop_by : (t : Bool) (b : ℕ) (s : List ℕ) → rest s ≡ drop (length (lead s)) s
    → cond t (rest s) (b ∷ s) ≡ drop (length (cond t (b ∷ lead s) [])) (b ∷ s)
rest_drop_by true b s h = h
rest_drop_by false b s h = refl

pub rest_drop : (s : List ℕ) → rest s ≡ drop (length (lead s)) s
unfolding lead rest
rest_drop [] = refl
rest_drop (b ∷ s) = rest_drop_by (is_digit b) b s (rest_drop s)

lead_le_by : (t : Bool) (b n : ℕ) (l : List ℕ) → length l ≤ n → length (cond t (b ∷ l) []) ≤ suc n
lead_le_by true b n l h = omega arith
lead_le_by false b n l h = omega arith

pub lead_le : (s : List ℕ) → length (lead s) ≤ length s
unfolding lead
lead_le [] = omega arith
lead_le (b ∷ s) = lead_le_by (is_digit b) b (length s) (lead s) (lead_le s)

-- the run ends where the first byte that is no digit stands
position_by : (t : Bool) (b n : ℕ) (l : List ℕ) → n ≡ length l → cond (not (not t)) (1 + n) 0 ≡ length (cond t (b ∷ l) [])
position_by true b n l h = omega arith
position_by false b n l h = refl

lead_position : (s : List ℕ) → position_or_len (λ b. not (is_digit b)) s ≡ length (lead s)
unfolding lead
lead_position [] = refl
lead_position (b ∷ s) = position_by (is_digit b) b (position_or_len (λ x. not (is_digit x)) s) (lead s) (lead_position s)

-- as `position` says where that is: a place below the end, or none
pub lead_found : (r : Option ℕ) (s : List ℕ) → let n = position_or_len (λ b. not (is_digit b)) s in
    r ≡ cond (ltb n (length s)) (Some n) None → unwrap_or r (length s) ≡ length (lead s)
lead_found r s q = rw lead_position at (go (ltb n (length s)) refl q)
  where
    n : ℕ
    n = position_or_len (λ b. not (is_digit b)) s

    go : (t : Bool) → ltb n (length s) ≡ t → r ≡ cond t (Some n) None → unwrap_or r (length s) ≡ n
    go true f q = rw q
    go false f q = rw q (omega (arith, ltb-false n (length s) f, lead_position s, lead_le s))

-- ---- the number that bytes make, one byte after the other

pub value_none : (n : ℕ) → value n [] ≡ n
unfolding value
value_none n = refl

pub value_more : (n : ℕ) (s : List ℕ) (b : ℕ) → value n (b ∷ s) ≡ value (n * 10 + (b - 48)) s
unfolding value
value_more n s b = refl

-- the byte at a place, and those behind it
pub value_at : (n i : ℕ) (s : List ℕ) → i < length s → value n (drop i s) ≡ value (n * 10 + (get_or s i 0 - 48)) (drop (i + 1) s)
value_at n i s h = rw (drop-cons s i 0 h, add-one i) (value_more n (drop (suc i) s) (get_or s i 0))

pub value_end : (n i : ℕ) (s : List ℕ) → length s ≤ i → value n (drop i s) ≡ n
value_end n i s h = rw (drop_of_length-le s h) (value_none n)

-- the bound of what k bytes make behind n: each counts at most 207, so n + 23 grows at most tenfold with each
module _ (n k : ℕ) where
  pub bound_more : (d : ℕ) → d ≤ 207 → (n * 10 + d + 23) * 10 ^ k ≤ (n + 23) * 10 ^ (k + 1)
  bound_more d h =
      let one : n * 10 + d + 23 ≤ (n + 23) * 10 = omega arith in
      rw (add-one, pow-suc) (omega (arith, mul-le-mul_right (10 ^ k) one))

  pub bound_next : 1 ≤ k → (n + 23) * 10 ≤ (n + 23) * 10 ^ k
  bound_next h = mul-le-mul_left (n + 23) (pow-le-pow_right {n = 10} (omega arith) {i = 1} {j = k} h)

-- what a turn of the loop over the digits asks
pub ruleset turns = (value_at, value_end, bound_more, bound_next)

-- what i bytes make leaves room for k more, up to twelve in all; and nothing leaves room for twelve
pub bound_room : (n i k : ℕ) → n + 23 ≤ 23 * 10 ^ i → i + k ≤ 12 → (n + 23) * 10 ^ k ≤ 23 * 10 ^ 12
bound_room n i k h l =
    let all : 10 ^ i * 10 ^ k ≤ 10 ^ 12 = rw (← pow-add 10 i k) (pow-le-pow_right {n = 10} (omega arith) {i = i + k} {j = 12} l) in
    omega (arith, all, mul-le-mul_right (10 ^ k) h)

pub bound_first : (k : ℕ) → k ≤ 12 → 23 * 10 ^ k ≤ 23 * 10 ^ 12
bound_first k h = mul-le-mul_left 23 (pow-le-pow_right {n = 10} (omega arith) {i = k} {j = 12} h)

pub ruleset room = (bound_first, bound_room)

-- two runs: the second is read behind the number of the first
pub value_join : (n : ℕ) (s t : List ℕ) → value n (s ++ t) ≡ value (value n s) t
unfolding value
value_join n [] t = refl
value_join n (b ∷ s) t = value_join (n * 10 + (b - 48)) s t

-- ---- what digits alone make: below ten to their count

abbrev pub AllDigits : List ℕ → Type 0
AllDigits [] = Unit {0}
AllDigits (b ∷ s) = (b - 48 < 10) × AllDigits s

digits_by : (b : ℕ) (l : List ℕ) (t u : Bool) → leb 48 b ≡ t → leb b 57 ≡ u → AllDigits l → AllDigits (cond (t && u) (b ∷ l) [])
digits_by b l true true p q h = (omega (arith, leb-true b 57 q), h)
digits_by b l true false p q h = tt
digits_by b l false u p q h = tt

pub lead_digits : (s : List ℕ) → AllDigits (lead s)
unfolding lead
lead_digits [] = tt
lead_digits (b ∷ s) = digits_by b (lead s) (leb 48 b) (leb b 57) refl refl (lead_digits s)

pub digits_join : (s t : List ℕ) → AllDigits s → AllDigits t → AllDigits (s ++ t)
digits_join [] t h k = k
digits_join (b ∷ s) t h k = (h.0, digits_join s t h.1 k)

value_below_from : (s : List ℕ) (n k : ℕ) → AllDigits s → n < 10 ^ k → value n s < 10 ^ (k + length s)
value_below_from [] n k d h = rw (value_none n, let e : k + 0 ≡ k = omega arith in e) h
value_below_from (b ∷ s) n k d h =
    let e : k + suc (length s) ≡ k + 1 + length s = omega arith in
    let g : n * 10 + (b - 48) < 10 ^ (k + 1) = rw (add-one, pow-suc) (omega (arith, d.0)) in
    rw (value_more n s b, e) (value_below_from s (n * 10 + (b - 48)) (k + 1) d.1 g)

pub value_below : (s : List ℕ) (k : ℕ) → AllDigits s → length s ≤ k → value 0 s < 10 ^ k
value_below s k d h =
    lt_of_lt_of_le (value_below_from s 0 0 d (omega arith)) (pow-le-pow_right (omega arith) (let l : 0 + length s ≤ k = omega arith in l))

length_by : (t : Bool) (b : ℕ) (s : List ℕ) → length (lead s) + length (rest s) ≡ length s
    → length (cond t (b ∷ lead s) []) + length (cond t (rest s) (b ∷ s)) ≡ suc (length s)
length_by true b s h = omega arith
length_by false b s h = omega arith

pub lead_rest_length : (s : List ℕ) → length (lead s) + length (rest s) ≡ length s
unfolding lead rest
lead_rest_length [] = refl
lead_rest_length (b ∷ s) = length_by (is_digit b) b s (lead_rest_length s)

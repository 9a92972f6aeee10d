-- Whole numbers and factors: what makes one, and what a number that was read tells.
use Rattle.std.specs.Prelude.{Some, None}
use Prim.Native.Nat.{ℕ, ◌^◌, ◌≤◌, ◌<◌}
use mathlib.Core.Path.{◌≡◌, refl}
use mathlib.Core.List.{List}
use mathlib.Core.Bool.{Bool, true, false, cond, ◌&&◌, and-eq-true_iff}
use native.Mathlib.Omega.{arith}
use borrow.Author.Tests.{le-leb, leb-true, eq-eqb, eqb-true}
use lib.ListN.{length}
use lib.Dec.{leb, eqb}
use Rattle.ground.proofs.Cases.{never}
use Rattle.numerals.specs.Runs.{lead, rest, length_in, value}
use Rattle.numerals.specs.Whole.{number_of, behind_point, factor_of}
use Rattle.numerals.proofs.DigitRuns.{lead_digits, value_below, lead_rest_length}

pub number_is : (most : ℕ) (s : List ℕ) → length (rest s) ≡ 0 → 1 ≤ length (lead s) → length (lead s) ≤ most → Some (value 0 (lead s)) ≡ number_of most s
unfolding number_of
number_is most s e h l = rw (eq-eqb _ _ e, le-leb _ _ h, le-leb _ _ l)

-- what a number that was read tells of the bytes and of itself
pub record Read (most : ℕ) (s : List ℕ) (n : ℕ) : Type 0 where
  pub some : 1 ≤ length s
  pub few : length s ≤ most
  pub small : n < 10 ^ most

pub number_read : (most : ℕ) (s : List ℕ) (n : ℕ) → number_of most s ≡ Some n → Read most s n
unfolding number_of
number_read most s n q = go (eqb (length (rest s)) 0 && length_in 1 most (lead s)) refl q
  where
    go : (t : Bool) → eqb (length (rest s)) 0 && length_in 1 most (lead s) ≡ t → cond t (Some (value 0 (lead s))) None ≡ Some n → Read most s n
    go true e r =
        let b = (and-eq-true_iff (eqb (length (rest s)) 0) (length_in 1 most (lead s))).0 e in
        let d = (and-eq-true_iff (leb 1 (length (lead s))) (leb (length (lead s)) most)).0 b.1 in
        let all : length (lead s) ≡ length s = omega (arith, eqb-true (length (rest s)) 0 b.0, lead_rest_length s) in
        let few : length (lead s) ≤ most = leb-true (length (lead s)) most d.1 in
        let same : value 0 (lead s) ≡ n = cc in
        record {
          some = omega (arith, all, leb-true 1 (length (lead s)) d.0);
          few = omega (arith, all, few);
          small = rw (← same) (value_below (lead s) most (lead_digits s) few);
        }
    go false e r = never (cc)

pub factor_taken : (s : List ℕ) → length_in 1 2 (lead s) ≡ true → behind_point (value 0 (lead s)) (rest s) ≡ factor_of s
unfolding factor_of
factor_taken s h = rw h

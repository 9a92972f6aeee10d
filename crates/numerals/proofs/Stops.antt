-- A threshold that was read lies within the end stops, and is the nearest to the number that was sent.
use Rattle.std.specs.Prelude.{Option, Some, None, Ok, Err}
use Prim.Native.Nat.{ℕ, ◌≤◌}
use Prim.Native.Char.{code}
use mathlib.Core.Path.{◌≡◌, refl, ap}
use mathlib.Core.List.{List, [], ◌++◌}
use mathlib.Core.Bool.{Bool, true, false, cond}
use native.Mathlib.Omega.{arith}
use lib.ListN.{length, drop}
use lib.IntN.{ℤ, pos, ◌-ℤ◌}
use Rattle.ground.proofs.Cases.{cond_cases, in_range_lem, never}
use Rattle.numbers.specs.Numbers.{five, within_stops}
use Rattle.numbers.specs.Rounding.{fitted_to, Nearest}
use Rattle.numbers.specs.declared.threshold.Threshold.{Threshold}
use Rattle.numbers.proofs.Stops.{fitted_stops, fitted_nearest}
use Rattle.numerals.specs.Runs.{lead, rest, head_is, length_in, value}
use Rattle.numerals.specs.Exponential.{after_plus, fraction, power_of, fitted_numeral, weighed, composed, whole_part, fraction_part, power_part, threshold_of}
use Rattle.numerals.proofs.DigitRuns.{AllDigits, lead_digits, digits_join, value_below}
use Rattle.numerals.specs.declared.exponential.ThresholdFault.TheVariants.{Malformed}

fits_of : (f : Option Threshold) (t : Threshold) → fitted_numeral f ≡ Ok t → f ≡ Some t
fits_of (Some u) t r = ap Some (let same : u ≡ t = cc in same)
fits_of None t r = never (cc)

-- a threshold t that was read from s: the power that was sent, and t is what the digits fit, moved by those behind the point
pub record Sent (s : List ℕ) (t : Threshold) : Type 0 where
  pub e : ℤ
  pub power : power_of (power_part s) ≡ Some e
  pub few : length (whole_part s ++ fraction_part s) ≤ 12
  pub fits : fitted_to (value 0 (whole_part s ++ fraction_part s)) (e -ℤ pos (length (fraction_part s))) ≡ Some t

pub sent : (s : List ℕ) (t : Threshold) → threshold_of s ≡ Ok t → Sent s t
unfolding threshold_of composed
sent s t r = go (length_in 1 12 (whole_part s ++ fraction_part s)) refl (power_of (power_part s)) refl r
  where
    go : (b : Bool) → length_in 1 12 (whole_part s ++ fraction_part s) ≡ b → (p : Option ℤ) → power_of (power_part s) ≡ p
        → cond b (weighed (whole_part s ++ fraction_part s) (length (fraction_part s)) p) (Err Malformed) ≡ Ok t → Sent s t
    go true c (Some e) q r = record {
      e = e;
      power = q;
      few = (in_range_lem 1 12 (length (whole_part s ++ fraction_part s)) c).1;
      fits = fits_of (fitted_to (value 0 (whole_part s ++ fraction_part s)) (e -ℤ pos (length (fraction_part s)))) t r;
    }
    go true c None q r = never (cc)
    go false c p q r = never (cc)

fraction_digits : (s : List ℕ) → AllDigits (fraction s)
unfolding fraction
fraction_digits s = cond_cases AllDigits (head_is (code ".") s) (lead (drop 1 s)) [] (λ _. lead_digits (drop 1 s)) (λ _. tt)

-- what is read lies within the end stops
pub read_within : (s : List ℕ) (t : Threshold) → threshold_of s ≡ Ok t → within_stops t ≡ true
read_within s t q = let r = sent s t q in fitted_stops (value 0 (whole_part s ++ fraction_part s)) (r.e -ℤ pos (length (fraction_part s))) t r.fits

-- and is the five-digit number nearest to the one that was sent, a tie going upwards
pub read_nearest : (s : List ℕ) (t : Threshold) (q : threshold_of s ≡ Ok t)
    → Nearest five (value 0 (whole_part s ++ fraction_part s)) 1 ((sent s t q).e -ℤ pos (length (fraction_part s))) t
read_nearest s t q =
    let r = sent s t q in
    let digits = whole_part s ++ fraction_part s in
    let all : AllDigits digits = digits_join (whole_part s) (fraction_part s) (lead_digits (after_plus s)) (fraction_digits (rest (after_plus s))) in
    fitted_nearest (value 0 digits) (r.e -ℤ pos (length (fraction_part s))) t (omega (arith, value_below digits 12 all r.few)) r.fits

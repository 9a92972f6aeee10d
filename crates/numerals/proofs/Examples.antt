-- What 01 leaves to be decided about the form of a number (docs/DECISIONS.md, 1 to 5), as one statement over a list.
use Rattle.std.specs.Prelude.{Option, Some, None, Result, Ok, Err}
use Prim.Native.Nat.{ℕ}
use Prim.Native.String.{String}
use mathlib.Core.Path.{◌≡◌, refl}
use mathlib.Core.List.{List, [], ◌∷◌, map}
use Rattle.text.specs.Text.{ascii}
use Rattle.text.specs.Digits.{dig, bare, factor_text}
use Rattle.numbers.specs.Rounding.{climb_within, digits, power, rounded, fitted_to}
use Rattle.numerals.specs.Writing.{scientific, threshold_text}
use Rattle.numerals.specs.Runs.{lead, rest, head_is, value}
use Rattle.numerals.specs.Whole.{numeral_fault, number_of, behind_point, factor_of}
use Rattle.numerals.specs.Exponential.{threshold_fault, after_plus, after_sign, power_of, composed, fraction, after_fraction, threshold_of}
use Rattle.numerals.specs.declared.exponential.ThresholdFault.{ThresholdFault}
use Rattle.numerals.specs.declared.exponential.ThresholdFault.TheVariants.{Malformed, OutOfRange}
use Rattle.numbers.specs.declared.threshold.Threshold.{Threshold}

-- what is answered to what is sent: the number as it is written, or the error word
abbrev pub threshold_says : Result Threshold ThresholdFault → List ℕ
threshold_says (Ok t) = threshold_text t
threshold_says (Err Malformed) = dig 4 (threshold_fault (Err Malformed))
threshold_says (Err OutOfRange) = dig 4 (threshold_fault (Err OutOfRange))

abbrev pub factor_says : Option ℕ → List ℕ
factor_says (Some t) = factor_text t
factor_says None = dig 4 (numeral_fault None)

pub data Kind : Type 0 where
  threshold : Kind
  factor : Kind

pub record Example : Type 0 where
  pub kind : Kind
  pub sent : String
  pub said : String

abbrev pub says : Kind → List ℕ → List ℕ
says threshold s = threshold_says (threshold_of s)
says factor s = factor_says (factor_of s)

abbrev pub row : Kind → String → String → Example
row k s t = record { kind = k; sent = s; said = t }

abbrev pub examples : List Example
examples =
    row threshold "000000000012" "1.2000E+01"
    ∷ row threshold "0000000000012" "0001"
    ∷ row threshold "+.5E+0" "5.0000E-01"
    ∷ row threshold "1E-99" "0010"
    ∷ row threshold "0.000001E+12" "1.0000E+06"
    ∷ row threshold "5E" "0001"
    ∷ row threshold "5E+" "0001"
    ∷ row threshold "5E003" "0001"
    ∷ row threshold "5+3" "0001"
    ∷ row threshold "5e3" "0001"
    ∷ row threshold "-5" "0001"
    ∷ row threshold "1.2.3" "0001"
    ∷ row threshold "" "0001"
    ∷ row factor "" "0001"
    ∷ row factor ".5" "0001"
    ∷ row factor "1." "0001"
    ∷ row factor "1.0000" "0001"
    ∷ row factor "100" "0001"
    ∷ row factor "+1" "0001"
    -- the setting's own limits, 0.100 to 10.000, refuse it on the floor above
    ∷ row factor "0.099" "0.099"
    ∷ []

pub numeral_examples_hold : map (λ (r : Example). says r.kind (ascii r.sent)) examples ≡ map (λ (r : Example). ascii r.said) examples
unfolding bare scientific climb_within digits power rounded fitted_to lead rest head_is value number_of behind_point factor_of after_plus after_sign power_of composed fraction after_fraction threshold_of
numeral_examples_hold = refl

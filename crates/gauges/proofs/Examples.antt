-- What is sent of a reading in every unit, of both signs, of zero and at both ends of a reading's range, as one statement over a list.
use Prim.Native.Nat.{ℕ}
use Prim.Native.String.{String}
use mathlib.Core.Path.{◌≡◌, refl}
use mathlib.Core.List.{List, [], ◌∷◌, map}
use lib.IntN.{ℤ, pos, negsuc}
use Rattle.text.specs.Text.{ascii}
use Rattle.text.specs.Digits.{bare}
use Rattle.numbers.specs.Rounding.{climb_within, digits, power, rounded, scaled_by}
use Rattle.numerals.specs.Writing.{scientific}
use Rattle.gauges.specs.Readings.{no_reading}
use Rattle.gauges.specs.Shown.{shown_of, shown_text}
use Rattle.gauges.specs.declared.reading.Reading.{Reading}

pub record Example : Type 0 where
  pub reading : Reading
  pub unit : ℕ
  pub sent : String

-- a good reading of a linear gauge
abbrev pub linear : ℤ → ℤ → ℕ → String → Example
linear m e u t = record { reading = record { kind = 5; status = 0; value = record { mantissa = m; exponent = e } }; unit = u; sent = t }

abbrev pub none : ℕ → String → Example
none u t = record { reading = no_reading; unit = u; sent = t }

abbrev pub examples : List Example
examples =
    none 0 "5,+2.0000E-02"
    ∷ none 2 "5,+2.0000E+00"
    ∷ none 3 "5,+1.5001E+01"
    ∷ none 4 "5,+2.0000E-02"
    ∷ linear (pos 0) (pos 0) 1 "0,+0.0000E+00"
    ∷ linear (negsuc 13332) (pos 0) 1 "0,-1.0001E+00"
    ∷ linear (pos 10133) (pos 3) 2 "0,+1.0133E+05"
    ∷ linear (pos 10133) (pos 3) 3 "0,+7.6004E+05"
    ∷ linear (pos 99999) (pos 20) 3 "0,+7.5005E+23"
    ∷ linear (pos 10000) (negsuc 19) 1 "0,+7.5006E-21"
    ∷ []

pub shown_examples_hold : map (λ (r : Example). shown_text (shown_of r.reading r.unit)) examples ≡ map (λ (r : Example). ascii r.sent) examples
unfolding bare scientific climb_within digits power rounded scaled_by
shown_examples_hold = refl

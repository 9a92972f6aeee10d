-- What the definitions give where docs/promises/ names a wrong answer.
use Rattle.std.specs.Prelude.{Some, None}
use mathlib.Core.Path.{◌≡◌, refl}
use mathlib.Core.List.{List, [], ◌∷◌, map}
use lib.IntN.{pos, negsuc}
use Rattle.text.specs.Text.{ascii}
use Rattle.numbers.specs.declared.threshold.Threshold.{Threshold}
use Rattle.numbers.specs.declared.value.Value.{Value}
use Rattle.numerals.specs.Runs.{lead, rest, head_is, value}
use Rattle.numerals.specs.Whole.{number_of, behind_point, factor_of}
use Rattle.numerals.specs.Writing.{scientific, threshold_text, value_text}

-- tenths, hundredths and thousandths; and a comma, which is no point
pub factor_places : map factor_of (ascii "0.5" ∷ ascii "0.05" ∷ ascii "0.005" ∷ ascii "0,5" ∷ []) ≡ Some 500 ∷ Some 50 ∷ Some 5 ∷ None ∷ []
unfolding lead rest head_is value number_of behind_point factor_of
factor_places = refl

-- "sign (+ for zero), d.ddddE, sign, two digits"
abbrev values : List Value
values = record { mantissa = pos 0; exponent = pos 0 } ∷ record { mantissa = negsuc 67889; exponent = negsuc 11 } ∷ []

pub value_texts : map value_text values ≡ ascii "+0.0000E+00" ∷ ascii "-6.7890E-12" ∷ []
unfolding scientific
value_texts = refl

-- what is no number: a mantissa of six digits and an exponent of three, one of four, and zero beside an exponent
abbrev outside : List Threshold
outside = record { mantissa = 123456; exponent = pos 120 } ∷ record { mantissa = 999; exponent = negsuc 99 } ∷ record { mantissa = 0; exponent = pos 5 } ∷ []

pub last_digits : map threshold_text outside ≡ ascii "2.3456E+20" ∷ ascii "0.0999E-00" ∷ ascii "0.0000E+05" ∷ []
unfolding scientific
last_digits = refl

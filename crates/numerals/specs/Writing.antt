-- Numbers of five digits as the box sends them (01, "Settings" and "Readings, switching, streaming").
use Rattle.std.specs.Prelude.{ℕ, ◌/◌, List, ◌∷◌, ◌++◌, ℤ, pos, negsuc, nat_abs}
use Prim.Native.Char.{code}
use Rattle.text.specs.Digits.{dig}
use Rattle.numbers.specs.declared.threshold.Threshold.{Threshold}
use Rattle.numbers.specs.declared.value.Value.{Value}

-- "sign (+ for zero)"
abbrev pub sign_byte : ℤ → ℕ
sign_byte (pos n) = code "+"
sign_byte (negsuc n) = code "-"

-- "d.ddddE, sign, two digits"
unfoldable pub scientific : ℕ → ℤ → List ℕ
scientific m e = dig 1 (m / 10000) ++ (code "." ∷ (dig 4 m ++ (code "E" ∷ sign_byte e ∷ dig 2 (nat_abs e))))

-- "thresholds as d.ddddE, sign, two digits"
abbrev pub threshold_text : Threshold → List ℕ
threshold_text t = scientific t.mantissa t.exponent

-- "sign (+ for zero), d.ddddE, sign, two digits"
abbrev pub value_text : Value → List ℕ
value_text v = sign_byte v.mantissa ∷ scientific (nat_abs v.mantissa) v.exponent

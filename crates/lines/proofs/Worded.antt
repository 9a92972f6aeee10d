-- The error word's digits, as the code writes them one by one.
use Prim.Native.Char.{code}
use mathlib.Core.Path.{◌≡◌, refl}
use mathlib.Core.List.{[], ◌∷◌}
use mathlib.Core.Bool.{Bool, true, false}
use Rattle.text.specs.Text.{ascii}
use Rattle.text.specs.Digits.{binary}
use Rattle.lines.specs.Words.{word_text, no_error}

pub word_digits : (a b c : Bool) → code "0" ∷ binary a ∷ binary b ∷ binary c ∷ [] ≡ word_text (record { hardware = a; parameter = b; syntax = c })
word_digits true true true = refl
word_digits true true false = refl
word_digits true false true = refl
word_digits true false false = refl
word_digits false true true = refl
word_digits false true false = refl
word_digits false false true = refl
word_digits false false false = refl

pub word_none : word_text no_error ≡ ascii "0000"
word_none = refl

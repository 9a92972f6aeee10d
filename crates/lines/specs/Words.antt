-- The error word (01, "Bytes from the host").
use Rattle.std.specs.Prelude.{ℕ, ◌+◌, List, [], ◌∷◌, true, false, cond}
use Rattle.ground.specs.Members.{by_number}
use Rattle.text.specs.Digits.{padded_text}
use Rattle.lines.specs.declared.verdict.Fault.{Fault}
use Rattle.lines.specs.declared.verdict.Fault.TheVariants.{Syntax, Parameter, Hardware}
use Rattle.lines.specs.declared.word.Word.{Word}

-- "0100 no hardware, 0010 inadmissible parameter, 0001 syntax"
abbrev pub error_word : Fault → ℕ
error_word Syntax = 1
error_word Parameter = 10
error_word Hardware = 100

-- the fault of a word: `fault 10` is one; `fault 11`, which is no fault's word, is of another type
abbrev pub faults : List Fault
faults = Syntax ∷ Parameter ∷ Hardware ∷ []

abbrev pub fault : (w : ℕ) → (by_number error_word faults w).0
fault w = (by_number error_word faults w).1

-- the digits that are set; "1000 never arises here."
abbrev pub word_number : Word → ℕ
word_number w =
    cond w.hardware (error_word Hardware) 0 + cond w.parameter (error_word Parameter) 0 + cond w.syntax (error_word Syntax) 0

-- "The error word is four digits"
abbrev pub word_text : Word → List ℕ
word_text w = padded_text (word_number w) 4

-- "then it is 0000"
abbrev pub no_error : Word
no_error = record { hardware = false; parameter = false; syntax = false }

-- "Digits gather until the word is sent"
abbrev pub gathered : Word → Fault → Word
gathered w Syntax = record { hardware = w.hardware; parameter = w.parameter; syntax = true }
gathered w Parameter = record { hardware = w.hardware; parameter = true; syntax = w.syntax }
gathered w Hardware = record { hardware = true; parameter = w.parameter; syntax = w.syntax }

-- How the code walks the host's bytes: characters and spaces a run at a time, and an ENQ by what it leaves of the port.
use Rattle.std.specs.Prelude.{ℕ, List, [], ◌∷◌, Bool, false, cond, not, ◌&&◌, ◌||◌, eqb, Option, Some, None}
use Rattle.text.specs.Control.{space, is_character}
use Rattle.settings.specs.Mnemonics.{is_err}
use Rattle.ports.specs.Line.{grown, is_empty}
use Rattle.ports.specs.Stream.{stopped}
use Rattle.ports.specs.Hearing.{with_mark}
use Rattle.ports.specs.declared.Port.{Port}
use Rattle.settings.specs.declared.mnemonic.Replying.{Replying}

-- whether a selection answers "as often as asked" with nothing changed: any but ERR, whose word is gone once it is sent
abbrev pub again : Option Replying → Bool
again None = false
again (Some a) = not (is_err a)

-- so on "an empty line"
abbrev pub repeats : Port → Bool
repeats p = is_empty p && again p.selection

-- "Every host byte stops the stream", and no byte but a CR is one that an LF can stand "straight after"
abbrev pub settled : Port → Port
settled p = stopped (with_mark p false)

-- a character or a space
abbrev pub is_typed : ℕ → Bool
is_typed b = eqb b space || is_character b

-- the characters and spaces before the first byte that is none, as the CR that "ends a line"
unfoldable pub typing : List ℕ → List ℕ
typing [] = []
typing (b ∷ bs) = cond (is_typed b) (b ∷ typing bs) []

-- one of them: "every space, is dropped", and "A line holds up to 80 characters, spaces not counted."
unfoldable pub typed_one : Port → ℕ → Port
typed_one p b = cond (eqb b space) (settled p) (grown (settled p) b)

-- one after the other: "An 81st .. makes it bad"
unfoldable pub typed_all : Port → List ℕ → Port
typed_all p [] = p
typed_all p (b ∷ bs) = typed_all (typed_one p b) bs

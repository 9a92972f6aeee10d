-- A line is judged (01, "Bytes from the host": "A line is checked in this order, and the first fault decides"). The tests in
-- their order: bad or empty (`judged`), mnemonic unknown and PR2 or CF2 on a 361 (`named`), number of fields (`with_fields`),
-- form of every field (`formed`), value of every field (`valued`).
use Rattle.std.specs.Prelude.{ℕ, List, [], ◌∷◌, map, cond, eqb, length, Option, Some, None, Ok, Err}
use Rattle.numbers.specs.declared.threshold.Threshold.{Threshold}
use Rattle.settings.specs.Rows.{plain, row_of}
use Rattle.settings.specs.Table.{entry, kinds, stored}
use Rattle.settings.specs.Mnemonics.{recognised, is_there}
use Rattle.settings.specs.declared.model.Model.{Model}
use Rattle.settings.specs.declared.mnemonic.Mnemonic.{Mnemonic}
use Rattle.settings.specs.declared.mnemonic.Mnemonic.TheVariants.{OfReplying, Com, Sav}
use Rattle.settings.specs.declared.table.Kind.{Kind}
use Rattle.settings.specs.declared.Settings.{Settings}
use Rattle.lines.specs.Splitting.{fields}
use Rattle.lines.specs.Words.{fault}
use Rattle.lines.specs.Fields.{read}
use Rattle.lines.specs.declared.verdict.Fault.TheVariants.{Syntax, Parameter, Hardware}
use Rattle.lines.specs.declared.verdict.Order.TheVariants.{Asks, Writes}
use Rattle.lines.specs.Verdicts.{Field, Verdict}

-- each field read by its kind
unfoldable pub fields_read : List Kind → List (List ℕ) → List Field
fields_read [] fs = []
fields_read (k ∷ ks) [] = []
fields_read (k ∷ ks) (f ∷ fs) = read k f ∷ fields_read ks fs

-- a malformed field is refused, whatever else would be said
abbrev pub form_or : Field → Verdict → Verdict
form_or (Ok c) v = v
form_or (Err Syntax) v = Err (fault 1)
form_or (Err Parameter) v = v
form_or (Err Hardware) v = v

-- "form of every field, left to right, 0001"
unfoldable pub formed : List Field → Verdict → Verdict
formed [] v = v
formed (r ∷ rs) v = form_or r (formed rs v)

-- a field with a fault is refused with it; behind the test of form that is one of value
abbrev pub value_or : Field → Verdict → Verdict
value_or (Ok c) v = v
value_or (Err x) v = Err x

-- "value of every field, left to right"
unfoldable pub valued : List Field → Verdict → Verdict
valued [] v = v
valued (r ∷ rs) v = value_or r (valued rs v)

-- the cell that a field holds
abbrev pub cell_of : Field → Threshold
cell_of (Ok c) = c
cell_of (Err x) = plain 0

-- the form of all fields, then the value of each, then what the line writes
abbrev pub judged_fields : Mnemonic → List Field → Verdict
judged_fields m rs = formed rs (valued rs (Ok (Writes m (row_of (map cell_of rs)))))

-- "With no comma the line asks for the setting; only COM (0 to 2) and SAV (0 to 1) then have a default"
abbrev pub alone : Model → Mnemonic → Verdict
alone model (OfReplying a) = Ok (Asks a)
alone model Com = Ok (Writes Com ((entry Com).default model))
alone model Sav = Ok (Writes Sav ((entry Sav).default model))

-- "number of fields, 0001", then their form and their value
unfoldable pub with_fields : Model → Mnemonic → List (List ℕ) → Verdict
with_fields model m [] = alone model m
with_fields model m (f ∷ fs) =
    cond (eqb (length (f ∷ fs)) (length (kinds model m))) (judged_fields m (fields_read (kinds model m) (f ∷ fs))) (Err (fault 1))

-- "mnemonic unknown .., 0001; PR2 or CF2 on a 361, 0100"
abbrev pub named : Model → Option Mnemonic → List (List ℕ) → Verdict
named model None fs = Err (fault 1)
named model (Some m) fs = cond (is_there model m) (with_fields model m fs) (Err (fault 100))

-- the mnemonic ends at "a comma or the end"
abbrev pub parted : Model → List (List ℕ) → Verdict
parted model [] = Err (fault 1)
parted model (n ∷ fs) = named model (recognised model n) fs

-- "bad or empty line, 0001", then the other tests in their order; a bad line holds nothing
unfoldable pub judged : Model → List ℕ → Verdict
judged model [] = Err (fault 1)
judged model (b ∷ line) = parted model (fields (b ∷ line))

-- what a line does to the settings: only one that writes changes any of them
abbrev pub effect : Model → Settings → Verdict → Settings
effect model s (Ok (Asks a)) = s
effect model s (Ok (Writes m r)) = stored model s m r
effect model s (Err x) = s

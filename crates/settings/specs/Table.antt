-- The table of 01, "Settings", with the column of 02, W-201, row for row, and the mnemonics beside it: the name of each, its fields and
-- its default; and storing.
use Rattle.std.specs.Prelude.{Option, Some, None, eqb, ℕ, ◌+◌, ◌-◌, List, [], ◌∷◌, ◌++◌, map, cond, length, get_or, set, take, replicate, ltb, negsuc}
use Rattle.text.specs.Text.{ascii}
use Rattle.numbers.specs.declared.threshold.Threshold.{Threshold}
use Rattle.settings.specs.Models.{by_unit, channels, first_following}
use Rattle.settings.specs.Rows.{pair_row, cells_of, first_number, second_number, pair_of, listed, mixed, row, with_factors, with_row}
use Rattle.settings.specs.declared.Switching.{Switching}
use Rattle.settings.specs.declared.Settings.{Settings}
use Rattle.settings.specs.declared.model.Model.{Model}
use Rattle.settings.specs.declared.mnemonic.Setting.{Setting}
use Rattle.settings.specs.declared.mnemonic.Setting.TheVariants.{Uni, Cal, Sp, Stored}
use Rattle.settings.specs.declared.mnemonic.Query.TheVariants.{Sps, Pr, Prx, Tid, Ayt, Pnr, Err}
use Rattle.settings.specs.declared.mnemonic.Replying.{Replying}
use Rattle.settings.specs.declared.mnemonic.Replying.TheVariants.{OfSetting, Cf, OfQuery}
use Rattle.settings.specs.declared.mnemonic.Mnemonic.{Mnemonic}
use Rattle.settings.specs.declared.mnemonic.Mnemonic.TheVariants.{OfReplying, Com, Sav}
use Rattle.settings.specs.declared.table.Kind.{Kind}
use Rattle.settings.specs.declared.table.Kind.TheVariants.{OfWhole, OfFactor, OfThreshold}
use Rattle.settings.specs.declared.table.Fields.{Fields}
use Rattle.settings.specs.declared.table.Column.{Column}
use Rattle.settings.specs.declared.table.Entry.{Entry}
use Rattle.settings.specs.declared.rows.Row.{Row}

-- ---- kinds of fields

-- a whole number from low to high
abbrev pub whole : ℕ → ℕ → Kind
whole low high = OfWhole (record { least = low; most = high; paired = high })

-- "Assignment 3 and ERA 3 need channel 2": up to the one of the model's last channel; that of channel 2 is "0100 where it needs channel 2
-- on a 361", and W-201: "01's rules for 2 and 3" on a 262, which lacks none
abbrev pub channel_choice : Model → Kind
channel_choice model = OfWhole (record { least = 0; most = first_following model + (channels model - 1); paired = first_following model + 1 })

-- "0.100 to 10.000"; W-201: "CAL 0.100 to 9.990 whichever gauge is there"
abbrev pub factor : Model → Kind
factor model = let most : ℕ = by_unit 10000 9990 model in OfFactor (record { least = 100; most = most; paired = most })

-- the kinds of the fields, one after the other
abbrev pub kinds_of : Fields → List Kind
kinds_of f = take f.count (f.first ∷ f.others ∷ f.others ∷ [])

-- the kind of a field by its place, counted from 0, if there are so many
unfoldable pub kind_at : Fields → ℕ → Option Kind
kind_at f place = cond (ltb place f.count) (Some (cond (eqb place 0) f.first f.others)) None

-- ---- rows

-- a row of the table: a mnemonic's name, its fields and its default, those for each model
pub record TableRow : Type 0 where
  pub name : List ℕ
  pub fields : Model → Fields
  pub default : Model → Row

-- a row of numbers: what a model has of it is a column
abbrev pub of_numbers : List ℕ → (Model → Column) → TableRow
of_numbers s column = record {
  name = s;
  fields = λ model. record { count = (column model).count; first = (column model).kind; others = (column model).kind };
  default = λ model. pair_row (column model).first (column model).second;
}

-- one whole number: least, most, default
abbrev pub single : ℕ → ℕ → ℕ → Model → Column
single low high default model = record { count = 1; kind = whole low high; first = default; second = 0 }

-- "per channel"
abbrev pub per_channel : ℕ → ℕ → ℕ → Model → Column
per_channel low high default model = record { count = channels model; kind = whole low high; first = default; second = default }

-- one whole number where another model has one per channel: the place that it lacks has its own default
abbrev pub once : ℕ → ℕ → ℕ → Model → Column
once low high default model = record { count = 1; kind = whole low high; first = default; second = default }

-- one choice of a channel: "ERA | 0 to 3 | 0"
abbrev pub choosing : Model → Column
choosing model = record { count = 1; kind = channel_choice model; first = 0; second = 0 }

-- so many factors: "0.100 to 10.000 per channel | 1.000"
abbrev pub factors : ℕ → Model → Column
factors count model = record { count = count; kind = factor model; first = 1000; second = 1000 }

-- W-201: "Cells a model lacks stay at their default", which is that of the models that have them
abbrev pub lacking : Column → Column
lacking c = record { count = 0; kind = c.kind; first = c.first; second = c.second }

-- a row with a column for the units of 01 and one for the older unit; and where only those, or only this one, have it
abbrev pub on_both : List ℕ → (Model → Column) → (Model → Column) → TableRow
on_both s newer older = of_numbers s (λ model. by_unit (newer model) (older model) model)

abbrev pub on_newer : List ℕ → (Model → Column) → TableRow
on_newer s column = on_both s column (λ model. lacking (column model))

abbrev pub on_older : List ℕ → (Model → Column) → TableRow
on_older s column = on_both s (λ model. lacking (column model)) column

-- "take no field"
abbrev pub fieldless : List ℕ → TableRow
fieldless s = of_numbers s (λ model. record { count = 0; kind = whole 0 0; first = 0; second = 0 })

-- a number that is none of its family: no field, and a name that no host can send
abbrev pub nothing : TableRow
nothing = fieldless (0 ∷ 0 ∷ 0 ∷ [])

-- a name that ends with a number, counted from 1
abbrev pub numbered : List ℕ → ℕ → List ℕ
numbered s k = s ++ (get_or (ascii "1234") k 0 ∷ [])

-- ---- the table

-- "0, 1.0000E-09, 9.0000E-07 (ours)"
abbrev pub default_switching : Switching
default_switching = record { assignment = 0; lower = record { mantissa = 10000; exponent = negsuc 8 }; upper = record { mantissa = 90000; exponent = negsuc 6 } }

-- "SP1..SP4 | assignment 0 to 3, lower, upper"
abbrev pub switchings : ℕ → TableRow
switchings k = record {
  name = numbered (ascii "SP") k;
  fields = λ model. record { count = 3; first = channel_choice model; others = OfThreshold };
  default = λ model. cells_of default_switching;
}

-- name; least, most, default: on a 361 or 362 (01), on a 262 (W-201)
abbrev pub stored_table : List TableRow
stored_table =
    on_both (ascii "FIL") (per_channel 0 3 2) (per_channel 0 2 1)
    ∷ on_both (ascii "DCD") (per_channel 0 4 0) (once 2 3 2)
    ∷ on_newer (ascii "ERA") choosing
    ∷ on_newer (ascii "EVA") (single 0 1 0)
    ∷ on_newer (ascii "FMT") (single 0 1 0)
    ∷ on_newer (ascii "LNG") (single 0 2 0)
    ∷ on_newer (ascii "NAD") (single 1 24 1)
    ∷ on_newer (ascii "PRE") (single 0 1 0)
    ∷ on_newer (ascii "PRO") (single 0 2 0)
    ∷ on_both (ascii "PUC") (once 0 1 0) (per_channel 0 1 0)
    ∷ on_newer (ascii "DCS") (single 0 6 0)
    ∷ on_older (ascii "DIC") (single 0 1 0)
    ∷ on_older (ascii "SCT") (single 0 1 0)
    ∷ on_older (ascii "WDT") (single 0 1 1)
    ∷ on_older (ascii "TLC") (single 0 1 0)
    ∷ on_older (ascii "LOC") (single 0 1 0)
    ∷ []

-- a family's row by its number
unfoldable pub switching_entry : ℕ → TableRow
switching_entry k = cond (ltb k 4) (switchings k) nothing

unfoldable pub stored_entry : ℕ → TableRow
stored_entry k = get_or stored_table k nothing

abbrev pub setting_entry : Setting → TableRow
setting_entry Uni = on_both (ascii "UNI") (single 0 4 4) (single 0 2 0)
setting_entry Cal = of_numbers (ascii "CAL") (λ model. factors (channels model) model)
setting_entry (Sp k) = switching_entry k
setting_entry (Stored k) = stored_entry k

-- "CFx takes one factor"; "SPS, PR1, PR2, PRX, TID, AYT and ERR take no field", nor does PNR (001, 2.2.5)
abbrev pub replying_entry : Replying → TableRow
replying_entry (OfSetting x) = setting_entry x
replying_entry (Cf k) = of_numbers (numbered (ascii "CF") k) (factors 1)
replying_entry (OfQuery Sps) = fieldless (ascii "SPS")
replying_entry (OfQuery (Pr k)) = fieldless (numbered (ascii "PR") k)
replying_entry (OfQuery Prx) = fieldless (ascii "PRX")
replying_entry (OfQuery Tid) = fieldless (ascii "TID")
replying_entry (OfQuery Ayt) = fieldless (ascii "AYT")
replying_entry (OfQuery Pnr) = fieldless (ascii "PNR")
replying_entry (OfQuery Err) = fieldless (ascii "ERR")

-- "only COM (0 to 2) and SAV (0 to 1) then have a default": "COM alone is 1", "SAV with 0 or nothing"
abbrev pub entry : Mnemonic → TableRow
entry (OfReplying a) = replying_entry a
entry Com = of_numbers (ascii "COM") (single 0 2 1)
entry Sav = of_numbers (ascii "SAV") (single 0 1 0)

-- a row as the code hands it about
abbrev pub on : Model → TableRow → Entry
on model e = record { name = e.name; fields = e.fields model; default = e.default model }

-- the fields that a mnemonic takes on a model
abbrev pub kinds : Model → Mnemonic → List Kind
kinds model m = kinds_of ((entry m).fields model)

-- the column "Default"
abbrev pub defaults : Model → Settings
defaults model = record {
  unit = first_number ((setting_entry Uni).default model);
  factors = first_number ((setting_entry Cal).default model) ∷ second_number ((setting_entry Cal).default model) ∷ [];
  switching = replicate 4 default_switching;
  stored = map (λ (e : TableRow). pair_of (e.default model)) stored_table;
}

-- ---- storing

-- "per channel": a model has as many cells of a setting as it takes fields
abbrev pub field_count : Model → Setting → ℕ
field_count model x = length (kinds_of ((setting_entry x).fields model))

-- and those are they
abbrev pub cells : Model → Settings → Setting → List Threshold
cells model s x = take (field_count model x) (listed (row s x))

-- the settings after an accepted line: as many cells of its setting as it has fields; CFx: "it writes CAL's own cell"
abbrev pub stored : Model → Settings → Mnemonic → Row → Settings
stored model s (OfReplying (OfSetting x)) r = with_row s x (mixed (field_count model x) r (row s x))
stored model s (OfReplying (Cf k)) r = with_factors s (set s.factors k (first_number r))
stored model s (OfReplying (OfQuery q)) r = s
stored model s Com r = s
stored model s Sav r = s

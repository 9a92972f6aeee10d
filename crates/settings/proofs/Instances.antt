-- What the definitions give where docs/promises/ names a wrong answer, for each of the three models.
use Rattle.std.specs.Prelude.{Some, None}
use Prim.Native.Nat.{ℕ}
use Prim.Native.String.{String}
use mathlib.Core.Path.{◌≡◌, refl}
use mathlib.Core.Bool.{Bool, true, false}
use mathlib.Core.List.{List, [], ◌∷◌, map}
use lib.IntN.{ℤ, pos, negsuc}
use lib.ListN.{length, drop, replicate, set}
use Rattle.ground.specs.Members.{every, those}
use Rattle.ground.proofs.Tables.{entries}
use Rattle.text.specs.Text.{ascii}
use Rattle.numbers.specs.Numbers.{less}
use Rattle.numbers.specs.Rounding.{climb_within, digits, power, rounded, held_within, multiplied_by}
use Rattle.numbers.specs.declared.threshold.Threshold.{Threshold}
use Rattle.settings.specs.Models.{model_of, channels, names, power_on_mode, starts_on, follows, agrees}
use Rattle.settings.specs.Kinds.{gauge_kinds, kind_name}
use Rattle.settings.specs.Rows.{pair_row, first_number, second_number, listed, row, switching_in, with_stored}
use Rattle.settings.specs.Table.{switching_entry, stored_entry, defaults}
use Rattle.settings.specs.Mnemonics.{settings_held, sheet, sheet_at, setting, knows, others, known, name, same, found, recognised, channel_of, is_err}
use Rattle.settings.specs.Limits.{cells_fit, within}
use Rattle.settings.specs.declared.model.Model.{Model}
use Rattle.settings.specs.declared.model.Model.TheVariants.{Tpg361, Tpg362, Tpg262}
use Rattle.settings.specs.declared.mnemonic.Setting.{Setting}
use Rattle.settings.specs.declared.mnemonic.Setting.TheVariants.{Cal, Sp, Stored}
use Rattle.settings.specs.declared.mnemonic.Query.TheVariants.{Pr, Ayt, Err}
use Rattle.settings.specs.declared.mnemonic.Replying.TheVariants.{Cf, OfQuery}
use Rattle.settings.specs.declared.mnemonic.Mnemonic.TheVariants.{OfReplying, Sav}
use Rattle.settings.specs.declared.Switching.{Switching}
use Rattle.settings.proofs.Every.{models}

-- the same on a 361 and a 362, and on a 262
abbrev unlike : {A : Type 0} → A → A → List A
unlike newer older = newer ∷ newer ∷ older ∷ []

-- ---- models

pub model_numbers : map model_of (361 ∷ 362 ∷ 262 ∷ 263 ∷ []) ≡ Some Tpg361 ∷ Some Tpg362 ∷ Some Tpg262 ∷ None ∷ []
model_numbers = refl

pub model_channels : map channels models ≡ 1 ∷ 2 ∷ 2 ∷ []
model_channels = refl

pub model_names : map names models ≡ map ascii ("TPG361,PTG28040" ∷ "TPG362,PTG28290" ∷ "" ∷ [])
model_names = refl

pub model_modes : map power_on_mode models ≡ 1 ∷ 1 ∷ 1 ∷ []
model_modes = refl

-- the assignments 0 to 3; a 262 has none that is off or on
pub on_at_first : map (λ (model : Model). entries (starts_on model) 4 0) models ≡ unlike (false ∷ true ∷ false ∷ false ∷ []) (replicate 4 false)
on_at_first = refl

pub with_channel_one : map (λ (model : Model). entries (λ (a : ℕ). follows model a 0) 4 0) models ≡ unlike (false ∷ false ∷ true ∷ false ∷ []) (true ∷ false ∷ false ∷ false ∷ [])
with_channel_one = refl

pub found_off : map (λ (model : Model). entries (λ (a : ℕ). agrees model a false) 4 0) models ≡ unlike (true ∷ false ∷ true ∷ true ∷ []) (replicate 4 true)
found_off = refl

pub found_on : map (λ (model : Model). entries (λ (a : ℕ). agrees model a true) 4 0) models ≡ unlike (false ∷ true ∷ true ∷ true ∷ []) (replicate 4 true)
found_on = refl

-- ---- kinds of gauges

pub kind_counts : map gauge_kinds models ≡ unlike 8 9
kind_counts = refl

-- the kinds 1 and 5 and the last ones, and a number that is none
pub kind_names_lem : map (λ (model : Model). map (kind_name model) (1 ∷ 5 ∷ 6 ∷ 7 ∷ 8 ∷ 9 ∷ [])) models
    ≡ unlike (map ascii ("IKR" ∷ "CMR/APR" ∷ "noSEn" ∷ "noid" ∷ "" ∷ "" ∷ [])) (map ascii ("IKR9" ∷ "CMR" ∷ "noSEn" ∷ "noid" ∷ "IKR11" ∷ "" ∷ []))
kind_names_lem = refl

-- ---- mnemonics

-- the lines of the sheet, and one past the last
pub sheet_names : map (λ (model : Model). entries (λ (i : ℕ). name (setting (sheet_at model i))) (length (sheet model)) 0) models
    ≡ unlike (map ascii ("UNI" ∷ "FIL" ∷ "CAL" ∷ "DCD" ∷ "SP1" ∷ "SP2" ∷ "SP3" ∷ "SP4" ∷ "ERA" ∷ "EVA" ∷ "FMT" ∷ "LNG" ∷ "NAD" ∷ "PRE" ∷ "PRO" ∷ "PUC" ∷ "DCS" ∷ []))
    (map ascii ("UNI" ∷ "FIL" ∷ "CAL" ∷ "DCD" ∷ "SP1" ∷ "SP2" ∷ "SP3" ∷ "SP4" ∷ "PUC" ∷ "DIC" ∷ "SCT" ∷ "WDT" ∷ "TLC" ∷ "LOC" ∷ []))
unfolding sheet switching_entry stored_entry
sheet_names = refl

pub past_the_sheet : map (λ (model : Model). name (setting (sheet_at model (length (sheet model))))) models ≡ replicate 3 (ascii "UNI")
unfolding sheet switching_entry stored_entry
past_the_sheet = refl

-- the others that each knows
pub other_names : map (λ (model : Model). map name (those (knows model) others)) models
    ≡ unlike (map ascii ("CF1" ∷ "CF2" ∷ "SPS" ∷ "PR1" ∷ "PR2" ∷ "PRX" ∷ "TID" ∷ "AYT" ∷ "ERR" ∷ "COM" ∷ "SAV" ∷ []))
    (map ascii ("SPS" ∷ "PR1" ∷ "PR2" ∷ "PRX" ∷ "TID" ∷ "PNR" ∷ "ERR" ∷ "COM" ∷ "SAV" ∷ []))
other_names = refl

pub words : map (λ (model : Model). map (λ (w : String). recognised model (ascii w)) ("PR1" ∷ "PR2" ∷ "ERR" ∷ "SAV" ∷ "SAW" ∷ [])) models
    ≡ replicate 3 (Some (OfReplying (OfQuery (Pr 0))) ∷ Some (OfReplying (OfQuery (Pr 1))) ∷ Some (OfReplying (OfQuery Err)) ∷ Some Sav ∷ None ∷ [])
unfolding known same found recognised switching_entry stored_entry
words = refl

pub err_alone : map is_err (OfQuery Err ∷ OfQuery Ayt ∷ []) ≡ true ∷ false ∷ []
unfolding is_err same
err_alone = refl

-- PR2 and CF2, the channels counted from 0
pub second_channel : map channel_of (OfQuery (Pr 1) ∷ Cf 1 ∷ []) ≡ 1 ∷ 1 ∷ []
second_channel = refl

-- ---- settings

-- the first cell of each, and the second of FIL, CAL, DCD and PUC
pub default_numbers : map (λ (model : Model). map (λ (x : Setting). first_number (row (defaults model) x)) settings_held) models
    ≡ unlike (4 ∷ 2 ∷ 1000 ∷ 0 ∷ 0 ∷ 0 ∷ 0 ∷ 0 ∷ 0 ∷ 0 ∷ 0 ∷ 0 ∷ 1 ∷ 0 ∷ 0 ∷ 0 ∷ 0 ∷ 0 ∷ 0 ∷ 1 ∷ 0 ∷ 0 ∷ [])
    (0 ∷ 1 ∷ 1000 ∷ 2 ∷ 0 ∷ 0 ∷ 0 ∷ 0 ∷ 0 ∷ 0 ∷ 0 ∷ 0 ∷ 1 ∷ 0 ∷ 0 ∷ 0 ∷ 0 ∷ 0 ∷ 0 ∷ 1 ∷ 0 ∷ 0 ∷ [])
default_numbers = refl

pub default_seconds : map (λ (model : Model). map (λ (x : Setting). second_number (row (defaults model) x)) (Stored 0 ∷ Cal ∷ Stored 1 ∷ Stored 9 ∷ [])) models
    ≡ unlike (2 ∷ 1000 ∷ 0 ∷ 0 ∷ []) (1 ∷ 1000 ∷ 2 ∷ 0 ∷ [])
default_seconds = refl

-- lower and upper of each switching function
pub default_thresholds : (model : Model) → entries (λ (k : ℕ). drop 1 (listed (row (defaults model) (Sp k)))) 4 0 ≡ replicate 4 (record { mantissa = 10000; exponent = negsuc 8 } ∷ record { mantissa = 90000; exponent = negsuc 6 } ∷ [])
default_thresholds model = refl

pub pair_numbers : (a b : ℕ) → map (λ (c : Threshold). c.mantissa) (listed (pair_row a b)) ≡ a ∷ b ∷ 0 ∷ []
pair_numbers a b = refl

-- a box that is fresh but for two cells of a stored setting
abbrev holding : ℕ → ℕ → ℕ → List Bool
holding k a b = map (λ (m : Model). within m (with_stored (defaults m) (set (defaults m).stored k (record { first = a; second = b })))) models

-- FIL 2,3: channel 2 of a 361, and 3 on a 262
pub second_filter : holding 0 2 3 ≡ false ∷ true ∷ false ∷ []
unfolding every cells_fit switching_entry stored_entry within
second_filter = refl

-- cells that a model lacks: DCD 3,3 and 3,2; NAD 2; PUC 1,1; WDT 0
pub lacking_cells : holding 1 3 3 ∷ holding 1 3 2 ∷ holding 6 2 0 ∷ holding 9 1 1 ∷ holding 13 0 0 ∷ []
    ≡ (false ∷ true ∷ false ∷ []) ∷ (false ∷ true ∷ true ∷ []) ∷ unlike true false ∷ unlike false true ∷ unlike false true ∷ []
unfolding every cells_fit switching_entry stored_entry within
lacking_cells = refl

-- W-202: "all eight", whatever the assignment: 1 and 2 hPa in Pa
abbrev one_and_two : ℤ → ℕ → Switching
one_and_two power n = record { assignment = n; lower = record { mantissa = 10000; exponent = power }; upper = record { mantissa = 20000; exponent = power } }

pub all_follow : entries (λ (n : ℕ). switching_in 4 2 (one_and_two (pos 0) n)) 4 0 ≡ entries (one_and_two (pos 2)) 4 0
unfolding less climb_within digits power rounded held_within multiplied_by
all_follow = refl

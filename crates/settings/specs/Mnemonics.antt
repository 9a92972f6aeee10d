-- The mnemonics, their names and the sheet (01, "What the box answers to"; 02, W-201).
use Rattle.std.specs.Prelude.{ℕ, List, [], ◌∷◌, ◌++◌, map, Bool, true, false, cond, not, ◌&&◌, get_or, eqb, ltb, Option, Some, None}
use Rattle.ground.specs.Members.{those}
use Rattle.text.specs.Text.{ascii}
use Rattle.settings.specs.Models.{is_older, channels}
use Rattle.settings.specs.Table.{setting_entry, entry}
use Rattle.settings.specs.declared.model.Model.{Model}
use Rattle.settings.specs.declared.mnemonic.Setting.{Setting}
use Rattle.settings.specs.declared.mnemonic.Setting.TheVariants.{Uni, Cal, Sp, Stored}
use Rattle.settings.specs.declared.mnemonic.Query.TheVariants.{Sps, Pr, Prx, Tid, Ayt, Pnr, Err}
use Rattle.settings.specs.declared.mnemonic.Replying.{Replying}
use Rattle.settings.specs.declared.mnemonic.Replying.TheVariants.{OfSetting, Cf, OfQuery}
use Rattle.settings.specs.declared.mnemonic.Mnemonic.{Mnemonic}
use Rattle.settings.specs.declared.mnemonic.Mnemonic.TheVariants.{OfReplying, Com, Sav}

-- all settings that are held: "UNI FIL CAL DCD SP1 SP2 SP3 SP4 ERA EVA FMT LNG NAD PRE PRO PUC DCS (.. in this order)", and
-- W-201: "New there: DIC, SCT, TLC, LOC .. and WDT", in its sheet's order
abbrev pub settings_held : List Setting
settings_held =
    Uni ∷ Stored 0 ∷ Cal ∷ Stored 1 ∷ Sp 0 ∷ Sp 1 ∷ Sp 2 ∷ Sp 3 ∷ Stored 2 ∷ Stored 3 ∷ Stored 4 ∷ Stored 5 ∷ Stored 6 ∷ Stored 7 ∷ Stored 8
    ∷ Stored 9 ∷ Stored 10 ∷ Stored 11 ∷ Stored 12 ∷ Stored 13 ∷ Stored 14 ∷ Stored 15 ∷ []

-- the model has a field of the setting
abbrev pub takes : Model → Setting → Bool
takes model x = ltb 0 ((setting_entry x).fields model).count

-- the sheet: those that the model takes; W-201: "UNI FIL CAL DCD SP1 to SP4 PUC DIC SCT WDT TLC LOC, fourteen lines" (`sheet_names`)
unfoldable pub sheet : Model → List Setting
sheet model = those (takes model) settings_held

-- a line of the sheet; past the last one it is the first
abbrev pub sheet_at : Model → ℕ → Setting
sheet_at model i = get_or (sheet model) i Uni

-- a setting as a mnemonic
abbrev pub setting : Setting → Mnemonic
setting x = OfReplying (OfSetting x)

-- W-201: "01's remaining mnemonics that 001 lacks are unknown on it", which are CF1, CF2 and AYT; PNR is "new there"
abbrev pub knows : Model → Mnemonic → Bool
knows model (OfReplying (OfSetting x)) = takes model x
knows model (OfReplying (Cf k)) = not (is_older model)
knows model (OfReplying (OfQuery Ayt)) = not (is_older model)
knows model (OfReplying (OfQuery Pnr)) = is_older model
knows model (OfReplying (OfQuery Sps)) = true
knows model (OfReplying (OfQuery (Pr k))) = true
knows model (OfReplying (OfQuery Prx)) = true
knows model (OfReplying (OfQuery Tid)) = true
knows model (OfReplying (OfQuery Err)) = true
knows model Com = true
knows model Sav = true

-- "and CF1 CF2 SPS PR1 PR2 PRX TID AYT ERR COM SAV", and PNR
abbrev pub others : List Mnemonic
others = map OfReplying (Cf 0 ∷ Cf 1 ∷ OfQuery Sps ∷ OfQuery (Pr 0) ∷ OfQuery (Pr 1) ∷ OfQuery Prx ∷ OfQuery Tid ∷ OfQuery Ayt ∷ OfQuery Pnr ∷ OfQuery Err ∷ []) ++ (Com ∷ Sav ∷ [])

-- all mnemonics of all models, and one by its place
abbrev pub mnemonics : List Mnemonic
mnemonics = map setting settings_held ++ others

abbrev pub mnemonic_at : ℕ → Mnemonic
mnemonic_at i = get_or mnemonics i (setting Uni)

-- all that a model knows: those of its sheet, and of the others what it has
unfoldable pub known : Model → List Mnemonic
known model = those (knows model) mnemonics

-- the name of a mnemonic
abbrev pub name : Mnemonic → List ℕ
name m = (entry m).name

-- two lists of bytes are the same
unfoldable pub same : List ℕ → List ℕ → Bool
same [] [] = true
same [] (y ∷ ys) = false
same (x ∷ xs) [] = false
same (x ∷ xs) (y ∷ ys) = eqb x y && same xs ys

-- the first mnemonic of the list that a word names
unfoldable pub found : List ℕ → List Mnemonic → Option Mnemonic
found word [] = None
found word (m ∷ ms) = cond (same (name m) word) (Some m) (found word ms)

-- "Every other mnemonic is unknown"
unfoldable pub recognised : Model → List ℕ → Option Mnemonic
recognised model word = found word (known model)

-- "PR2 or CF2" are about channel 1, counted from 0
abbrev pub channel_of : Replying → ℕ
channel_of (OfSetting x) = 0
channel_of (Cf k) = k
channel_of (OfQuery Sps) = 0
channel_of (OfQuery (Pr k)) = k
channel_of (OfQuery Prx) = 0
channel_of (OfQuery Tid) = 0
channel_of (OfQuery Ayt) = 0
channel_of (OfQuery Pnr) = 0
channel_of (OfQuery Err) = 0

-- the model has the channel that a mnemonic is about; those that are about none are there on every model
abbrev pub is_there : Model → Mnemonic → Bool
is_there model (OfReplying a) = ltb (channel_of a) (channels model)
is_there model Com = true
is_there model Sav = true

-- "a selection that the model can answer": it is known, and about a channel that the model has
unfoldable pub answers : Model → Replying → Bool
answers model a = knows model (OfReplying a) && is_there model (OfReplying a)

-- ERR, whose reply is the error word
unfoldable pub is_err : Replying → Bool
is_err a = same (name (OfReplying a)) (ascii "ERR")

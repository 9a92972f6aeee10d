-- A sheet of settings as lines, and what lines do to the settings (01, "What the promises have to decide": demand 3).
use Rattle.std.specs.Prelude.{ℕ, List, [], ◌∷◌, ◌++◌}
use Prim.Native.Char.{code}
use Rattle.settings.specs.Mnemonics.{setting, name}
use Rattle.settings.specs.declared.model.Model.{Model}
use Rattle.settings.specs.declared.mnemonic.Setting.{Setting}
use Rattle.settings.specs.declared.Settings.{Settings}
use Rattle.lines.specs.Judging.{judged, effect}
use Rattle.lines.specs.Replies.{setting_text}

-- a setting's line of the sheet: its name, a comma and its reply
abbrev pub sheet_line : Model → Settings → Setting → List ℕ
sheet_line model s x = name (setting x) ++ (code "," ∷ setting_text model s x)

-- the settings after lines, one after the other
abbrev pub settings_after : Model → Settings → List (List ℕ) → Settings
settings_after model s [] = s
settings_after model s (line ∷ lines) = settings_after model (effect model s (judged model line)) lines

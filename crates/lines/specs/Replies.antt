-- The reply of each setting (01, "Settings": "commas between, then CR LF").
use Rattle.std.specs.Prelude.{ℕ, List, [], ◌∷◌}
use Rattle.numbers.specs.declared.threshold.Threshold.{Threshold}
use Rattle.settings.specs.Table.{kinds, cells}
use Rattle.settings.specs.Mnemonics.{setting}
use Rattle.settings.specs.declared.model.Model.{Model}
use Rattle.settings.specs.declared.mnemonic.Setting.{Setting}
use Rattle.settings.specs.declared.mnemonic.Setting.TheVariants.{Cal}
use Rattle.settings.specs.declared.table.Kind.{Kind}
use Rattle.settings.specs.declared.Settings.{Settings}
use Rattle.lines.specs.Splitting.{joined}
use Rattle.lines.specs.Fields.{write}

-- each cell written by its kind
abbrev pub texts : List Kind → List Threshold → List (List ℕ)
texts [] cs = []
texts (k ∷ ks) [] = []
texts (k ∷ ks) (c ∷ cs) = write k c ∷ texts ks cs

-- the cells that the model has of a setting, commas between
unfoldable pub setting_text : Model → Settings → Setting → List ℕ
setting_text model s x = joined (texts (kinds model (setting x)) (cells model s x))

-- "CFx takes one factor and answers one per channel": those of CAL
abbrev pub factors_text : Model → Settings → List ℕ
factors_text model s = setting_text model s Cal

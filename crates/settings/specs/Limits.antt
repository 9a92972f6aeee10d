-- The limits of settings on a model (01, "Readings, switching, streaming": "every value above in range, on a 361
-- channel-2 cells at their defaults and no channel-2 choice"; 02, W-201: "Cells a model lacks stay at their default").
use Rattle.std.specs.Prelude.{◌≡◌, Option, Some, None, List, [], ◌∷◌, Bool, true, false, ◌&&◌, length, eqb, ℤ, pos, negsuc}
use Rattle.ground.specs.Members.{every}
use Rattle.ground.specs.Ranges.{in_range}
use Rattle.numbers.specs.Numbers.{within_stops}
use Rattle.numbers.specs.declared.threshold.Threshold.{Threshold}
use Rattle.settings.specs.Rows.{listed, row}
use Rattle.settings.specs.Table.{kinds_of, setting_entry}
use Rattle.settings.specs.Mnemonics.{settings_held}
use Rattle.settings.specs.declared.model.Model.{Model}
use Rattle.settings.specs.declared.mnemonic.Setting.{Setting}
use Rattle.settings.specs.declared.table.Limits.{Limits}
use Rattle.settings.specs.declared.table.Kind.{Kind}
use Rattle.settings.specs.declared.table.Kind.TheVariants.{OfWhole, OfFactor, OfThreshold}
use Rattle.settings.specs.declared.table.Fields.{Fields}
use Rattle.settings.specs.declared.rows.Row.{Row}
use Rattle.settings.specs.declared.Settings.{Settings}

-- two whole numbers of either sign are equal
abbrev pub same_number : ℤ → ℤ → Bool
same_number (pos a) (pos b) = eqb a b
same_number (negsuc a) (negsuc b) = eqb a b
same_number (pos a) (negsuc b) = false
same_number (negsuc a) (pos b) = false

-- two cells are equal
abbrev pub same_cell : Threshold → Threshold → Bool
same_cell c d = eqb c.mantissa d.mantissa && same_number c.exponent d.exponent

-- a plain number from the least to the most
abbrev pub inside : Limits → Threshold → Bool
inside l c = same_number c.exponent (pos 0) && in_range l.least l.most c.mantissa

-- a field of the kind may hold the cell
abbrev pub fits : Kind → Threshold → Bool
fits (OfWhole l) c = inside l c
fits (OfFactor l) c = inside l c
fits OfThreshold c = within_stops c

-- a cell beside the field that is there for it, if one is, and its default
abbrev pub place_fits : Option Kind → Threshold → Threshold → Bool
place_fits (Some k) c d = fits k c
place_fits None c d = same_cell c d

-- "every value above in range": a cell fits its field; "channel-2 cells at their defaults": a cell without a field is at its default
unfoldable pub cells_fit : List Kind → List Threshold → List Threshold → Bool
cells_fit ks [] ds = true
cells_fit ks (c ∷ cs) [] = false
cells_fit [] (c ∷ cs) (d ∷ ds) = same_cell c d && cells_fit [] cs ds
cells_fit (k ∷ ks) (c ∷ cs) (d ∷ ds) = fits k c && cells_fit ks cs ds

-- a row beside its default
abbrev pub row_fits : Fields → Row → Row → Bool
row_fits f r d = cells_fit (kinds_of f) (listed r) (listed d)

-- a setting on a model
abbrev pub row_within : Model → Settings → Setting → Bool
row_within model s x = row_fits ((setting_entry x).fields model) (row s x) ((setting_entry x).default model)

-- all settings that are held, on the model's sheet or not
unfoldable pub within : Model → Settings → Bool
within model s = every (row_within model s) settings_held

-- the arrays have their lengths, as the type of the settings says; what a list of a definition cannot say by itself
pub record SettingsShaped (s : Settings) : Type 0 where
  pub factors : length s.factors ≡ 2
  pub switching : length s.switching ≡ 4
  pub stored : length s.stored ≡ 16

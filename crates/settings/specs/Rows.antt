-- The settings by their rows of three cells, the same three for every model (01, "Settings"); thresholds in another unit (02, W-202).
use Rattle.std.specs.Prelude.{ℕ, List, [], ◌∷◌, ◌++◌, map, get_or, set, take, drop, pos}
use Rattle.numbers.specs.Units.{re_expressed}
use Rattle.numbers.specs.declared.threshold.Threshold.{Threshold}
use Rattle.settings.specs.declared.mnemonic.Setting.{Setting}
use Rattle.settings.specs.declared.mnemonic.Setting.TheVariants.{Uni, Cal, Sp, Stored}
use Rattle.settings.specs.declared.Switching.{Switching}
use Rattle.settings.specs.declared.Pair.{Pair}
use Rattle.settings.specs.declared.Settings.{Settings}
use Rattle.settings.specs.declared.rows.Row.{Row}

-- a whole number, or a factor in thousandths, as a cell
abbrev pub plain : ℕ → Threshold
plain n = record { mantissa = n; exponent = pos 0 }

-- up to two numbers
abbrev pub pair_row : ℕ → ℕ → Row
pair_row a b = record { first = plain a; second = plain b; third = plain 0 }

-- "assignment .., lower, upper"
abbrev pub cells_of : Switching → Row
cells_of w = record { first = plain w.assignment; second = w.lower; third = w.upper }

-- the numbers in the first two cells, and a switching function from its cells
abbrev pub first_number : Row → ℕ
first_number r = r.first.mantissa

abbrev pub second_number : Row → ℕ
second_number r = r.second.mantissa

abbrev pub pair_of : Row → Pair
pair_of r = record { first = first_number r; second = second_number r }

abbrev pub switching_of : Row → Switching
switching_of r = record { assignment = first_number r; lower = r.second; upper = r.third }

-- a row as a list, and up to three cells as a row
abbrev pub listed : Row → List Threshold
listed r = r.first ∷ r.second ∷ r.third ∷ []

abbrev pub row_of : List Threshold → Row
row_of cs = record { first = get_or cs 0 (plain 0); second = get_or cs 1 (plain 0); third = get_or cs 2 (plain 0) }

-- the first n cells of r, and the others of q
abbrev pub mixed : ℕ → Row → Row → Row
mixed n r q = row_of (take n (listed r) ++ drop n (listed q))

-- a switching function, and a pair, that is not there
abbrev pub no_switching : Switching
no_switching = record { assignment = 0; lower = plain 0; upper = plain 0 }

abbrev pub no_pair : Pair
no_pair = record { first = 0; second = 0 }

-- a pair's cells
abbrev pub row_of_pair : Pair → Row
row_of_pair p = pair_row p.first p.second

-- the three cells of a setting
abbrev pub row : Settings → Setting → Row
row s Uni = pair_row s.unit 0
row s Cal = pair_row (get_or s.factors 0 0) (get_or s.factors 1 0)
row s (Sp k) = cells_of (get_or s.switching k no_switching)
row s (Stored k) = row_of_pair (get_or s.stored k no_pair)

-- W-202: "re-expresses all eight": a switching function in another unit, whatever its assignment
abbrev pub switching_in : ℕ → ℕ → Switching → Switching
switching_in old new w = record { assignment = w.assignment; lower = re_expressed old new w.lower; upper = re_expressed old new w.upper }

-- the three cells of a setting as they are in a unit: "thresholds are in the current unit", and nothing else is
abbrev pub row_in : ℕ → Settings → Setting → Row
row_in unit s Uni = row s Uni
row_in unit s Cal = row s Cal
row_in unit s (Sp k) = cells_of (switching_in s.unit unit (get_or s.switching k no_switching))
row_in unit s (Stored k) = row s (Stored k)

-- the settings with one part replaced; with another unit, "thresholds follow the unit"
abbrev pub with_unit : Settings → ℕ → Settings
with_unit s v = record { unit = v; factors = s.factors; switching = map (switching_in s.unit v) s.switching; stored = s.stored }

abbrev pub with_factors : Settings → List ℕ → Settings
with_factors s v = record { unit = s.unit; factors = v; switching = s.switching; stored = s.stored }

abbrev pub with_switching : Settings → List Switching → Settings
with_switching s v = record { unit = s.unit; factors = s.factors; switching = v; stored = s.stored }

abbrev pub with_stored : Settings → List Pair → Settings
with_stored s v = record { unit = s.unit; factors = s.factors; switching = s.switching; stored = v }

-- the settings with other cells for a setting
abbrev pub with_row : Settings → Setting → Row → Settings
with_row s Uni r = with_unit s (first_number r)
with_row s Cal r = with_factors s (first_number r ∷ second_number r ∷ [])
with_row s (Sp k) r = with_switching s (set s.switching k (switching_of r))
with_row s (Stored k) r = with_stored s (set s.stored k (pair_of r))

-- The units and their exact factors from hPa, and from one to another (01, "Settings": UNI; "Readings, switching, streaming"; 02, W-202).
use Rattle.std.specs.Prelude.{ℕ, ◌*◌, List, [], ◌∷◌, get_or}
use Rattle.numbers.specs.Rounding.{multiplied_by}
use Rattle.numbers.specs.declared.threshold.Threshold.{Threshold}
use Rattle.numbers.specs.declared.value.Ratio.{Ratio}

-- n / d
abbrev pub ratio : ℕ → ℕ → Ratio
ratio n d = record { over = n; under = d }

-- "0 to 4: mbar, Torr, Pa, micron, hPa"; "Pa is times 100; Torr times 3040/4053 (from 760 Torr = 101325 Pa); micron a thousand times Torr"
abbrev pub units : List Ratio
units = ratio 1 1 ∷ ratio 3040 4053 ∷ ratio 100 1 ∷ ratio 3040000 4053 ∷ ratio 1 1 ∷ []

-- the factor from hPa to a unit; a number that is no unit leaves hPa
abbrev pub from_hpa : ℕ → Ratio
from_hpa unit = get_or units unit (ratio 1 1)

-- W-202: "the exact factor" from one unit to another: the new one's from hPa, divided by the old one's
abbrev pub factor_between : ℕ → ℕ → Ratio
factor_between old new = ratio ((from_hpa new).over * (from_hpa old).under) ((from_hpa new).under * (from_hpa old).over)

-- W-202: "re-expresses .. by the exact factor, one rounding to five digits, half upwards, held within": a threshold in another unit
abbrev pub re_expressed : ℕ → ℕ → Threshold → Threshold
re_expressed old new t = multiplied_by t (factor_between old new)

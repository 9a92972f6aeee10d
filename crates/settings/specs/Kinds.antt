-- The kinds of gauges by model (01, "Readings, switching, streaming"; 000, 1.5.7; 02, W-201).
use Rattle.std.specs.Prelude.{ℕ, List, [], ◌∷◌, length, get_or}
use Rattle.text.specs.Text.{ascii}
use Rattle.settings.specs.Models.{by_unit}
use Rattle.settings.specs.declared.model.Model.{Model}

-- "gauge kind 0 to 7 (TPR/PCR, IKR, PKR, PBR, IMR, CMR/APR, noSEn, noid)"
abbrev pub newer_kinds : List (List ℕ)
newer_kinds =
    ascii "TPR/PCR" ∷ ascii "IKR" ∷ ascii "PKR" ∷ ascii "PBR" ∷ ascii "IMR" ∷ ascii "CMR/APR" ∷ ascii "noSEn" ∷ ascii "noid" ∷ []

-- W-201: "TID tells IKR9 (kind 1) from IKR11 (a new kind 8) and says TPR and CMR."
abbrev pub older_kinds : List (List ℕ)
older_kinds =
    ascii "TPR" ∷ ascii "IKR9" ∷ ascii "PKR" ∷ ascii "PBR" ∷ ascii "IMR" ∷ ascii "CMR" ∷ ascii "noSEn" ∷ ascii "noid" ∷ ascii "IKR11" ∷ []

abbrev pub kind_names : Model → List (List ℕ)
kind_names = by_unit newer_kinds older_kinds

-- W-201: "kind 8 on a 361 or 362 is answer 5": the kinds that a model has are those with a name
abbrev pub gauge_kinds : Model → ℕ
gauge_kinds model = length (kind_names model)

-- "TID sends the name of each channel's kind."; another number has no name
abbrev pub kind_name : Model → ℕ → List ℕ
kind_name model kind = get_or (kind_names model) kind []

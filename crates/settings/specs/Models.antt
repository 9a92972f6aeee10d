-- The models and what they start with (01, "What the box answers to" and "Readings, switching, streaming"; 02, W-201).
use Rattle.std.specs.Prelude.{ℕ, ◌+◌, List, [], Bool, true, false, cond, ◌&&◌, ◌||◌, eqb, leb, ltb, Option, Some, None}
use Rattle.std.specs.Bool.{beq}
use Rattle.text.specs.Text.{ascii}
use Rattle.settings.specs.declared.model.Model.{Model}
use Rattle.settings.specs.declared.model.Model.TheVariants.{Tpg361, Tpg362, Tpg262}

-- "model not 361 or 362", and W-201: "answer 2 now allows 262": a model by its number
abbrev pub model_of : ℕ → Option Model
model_of n = cond (eqb n 361) (Some Tpg361) (cond (eqb n 362) (Some Tpg362) (cond (eqb n 262) (Some Tpg262) None))

-- W-201: "the unit of source document 001"; the tables have a column for it and one for the units of 01
abbrev pub is_older : Model → Bool
is_older Tpg361 = false
is_older Tpg362 = false
is_older Tpg262 = true

-- what the units of 01 have, and what the older one has
abbrev pub by_unit : {A : Type 0} → A → A → Model → A
by_unit newer older model = cond (is_older model) older newer

-- "a TPG 361 (one channel) or TPG 362 (two channels)"; W-201: "channel 1 or 2"
abbrev pub channels : Model → ℕ
channels Tpg361 = 1
channels Tpg362 = 2
channels Tpg262 = 2

-- "AYT on a 362 .. sends TPG362,PTG28290,..; a 361 sends TPG361 and PTG28040"; a 262 does not know AYT
abbrev pub names : Model → List ℕ
names Tpg361 = ascii "TPG361,PTG28040"
names Tpg362 = ascii "TPG362,PTG28290"
names Tpg262 = []

-- "otherwise starts as a fresh box does: no line, selection, error or reading, mode 1 streaming"
abbrev pub power_on_mode : Model → ℕ
power_on_mode model = 1

-- "For 2 and 3 (channel 1, 2)"; W-201: "Assignment is 0 or 1 for channel 1 or 2": the assignment of channel 1
abbrev pub first_following : Model → ℕ
first_following = by_unit 2 0

-- "Assignment 0 is off, 1 is on. For 2 and 3 (channel 1, 2) .. a fresh box or a power cycle sets it off.": of those below channel 1's
abbrev pub starts_on : Model → ℕ → Bool
starts_on model assignment = ltb assignment (first_following model) && eqb assignment 1

-- a switching function follows the readings of its channel, counted from 0
abbrev pub follows : Model → ℕ → ℕ → Bool
follows model assignment channel = eqb assignment (channel + first_following model)

-- "switch status matching assignments 0 and 1": those never leave what they start with. W-201: "none is off or on, so 01's state limit
-- on switches asks nothing here"
abbrev pub agrees : Model → ℕ → Bool → Bool
agrees model assignment on = leb (first_following model) assignment || beq on (starts_on model assignment)

-- What happens to the instrument of a box (01, "Settings" and "Readings, switching, streaming").
use Rattle.std.specs.Prelude.{ℕ, List, [], ◌∷◌, Bool, false, cond, get_or, set, eqb, Ok, Err}
use Rattle.gauges.specs.Readings.{no_reading}
use Rattle.gauges.specs.Shown.{shown_of, switched}
use Rattle.gauges.specs.declared.reading.Reading.{Reading}
use Rattle.gauges.specs.declared.shown.Shown.{Shown}
use Rattle.settings.specs.Models.{starts_on, follows}
use Rattle.settings.specs.Rows.{first_number, no_switching}
use Rattle.settings.specs.Table.{defaults, stored}
use Rattle.settings.specs.declared.model.Model.{Model}
use Rattle.settings.specs.declared.mnemonic.Setting.TheVariants.{Uni, Cal, Sp, Stored}
use Rattle.settings.specs.declared.mnemonic.Replying.TheVariants.{OfSetting, Cf, OfQuery}
use Rattle.settings.specs.declared.mnemonic.Mnemonic.{Mnemonic}
use Rattle.settings.specs.declared.mnemonic.Mnemonic.TheVariants.{OfReplying, Com, Sav}
use Rattle.settings.specs.declared.rows.Row.{Row}
use Rattle.settings.specs.declared.Switching.{Switching}
use Rattle.settings.specs.declared.Settings.{Settings}
use Rattle.instrument.specs.declared.Instrument.{Instrument}
use Rattle.lines.specs.declared.verdict.Order.TheVariants.{Asks, Writes}
use Rattle.lines.specs.Verdicts.{Verdict}

-- one status for each of the four switching functions
abbrev pub each_four : (ℕ → Bool) → List Bool
each_four f = f 0 ∷ f 1 ∷ f 2 ∷ f 3 ∷ []

-- a switching function by its place
abbrev pub function_at : Settings → ℕ → Switching
function_at s i = get_or s.switching i no_switching

-- whether it is on
abbrev pub is_on : Instrument → ℕ → Bool
is_on s i = get_or s.switches i false

-- "takes the settings from it, and otherwise starts as a fresh box does": no reading, and switches as they start
abbrev pub started : Model → ℕ → Settings → Instrument
started model serial saved = record {
  model = model;
  serial = serial;
  settings = saved;
  saved = saved;
  readings = no_reading ∷ no_reading ∷ [];
  switches = each_four (λ i. starts_on model (function_at saved i).assignment);
}

-- "A reading of that channel .. sets it"; one of another channel does not
abbrev pub following : Model → ℕ → Shown → Switching → Bool → Bool
following model channel shown w was = cond (follows model w.assignment channel) (switched shown w.lower w.upper was) was

-- a reading of a channel: it is held, and moves the switches that follow it by "its shown value"
unfoldable pub measured : Instrument → ℕ → Reading → Instrument
measured s channel r = record {
  model = s.model;
  serial = s.serial;
  settings = s.settings;
  saved = s.saved;
  readings = set s.readings channel r;
  switches = each_four (λ i. following s.model channel (shown_of r s.settings.unit) (function_at s.settings i) (is_on s i));
}

-- "SAV with 0 or nothing makes the saved set the defaults ..; SAV,1 makes it the present settings."
abbrev pub saved_by : Instrument → Mnemonic → Row → Settings
saved_by s (OfReplying a) r = s.saved
saved_by s Com r = s.saved
saved_by s Sav r = cond (eqb (first_number r) 0) (defaults s.model) s.settings

-- "an accepted SPx with fields .. sets it off", and with assignment 1 "on": as the assignment starts; no other line moves a switch
abbrev pub switches_by : Instrument → Mnemonic → Row → List Bool
switches_by s (OfReplying (OfSetting (Sp k))) r = set s.switches k (starts_on s.model (first_number r))
switches_by s (OfReplying (OfSetting Uni)) r = s.switches
switches_by s (OfReplying (OfSetting Cal)) r = s.switches
switches_by s (OfReplying (OfSetting (Stored k))) r = s.switches
switches_by s (OfReplying (Cf k)) r = s.switches
switches_by s (OfReplying (OfQuery q)) r = s.switches
switches_by s Com r = s.switches
switches_by s Sav r = s.switches

-- what a line that writes does
unfoldable pub written : Instrument → Mnemonic → Row → Instrument
written s m r = record {
  model = s.model;
  serial = s.serial;
  settings = stored s.model s.settings m r;
  saved = saved_by s m r;
  readings = s.readings;
  switches = switches_by s m r;
}

-- no other line changes anything
abbrev pub applied : Instrument → Verdict → Instrument
applied s (Ok (Asks a)) = s
applied s (Ok (Writes m r)) = written s m r
applied s (Err x) = s

-- The limits of the instrument (01, "Readings, switching, streaming": "State limits"; 02, W-201).
use Rattle.std.specs.Prelude.{ℕ, ◌≡◌, List, Bool, false, ◌&&◌, ◌||◌, length, get_or, eqb, leb, ltb}
use Rattle.gauges.specs.Readings.{no_reading, within_limits}
use Rattle.gauges.specs.declared.reading.Reading.{Reading}
use Rattle.settings.specs.Models.{channels, agrees}
use Rattle.settings.specs.Kinds.{gauge_kinds}
use Rattle.settings.specs.Rows.{no_switching}
use Rattle.settings.specs.Limits.{within, SettingsShaped}
use Rattle.settings.specs.declared.model.Model.{Model}
use Rattle.settings.specs.declared.Switching.{Switching}
use Rattle.instrument.specs.declared.Instrument.{Instrument}

-- W-201: "kind 8 on a 361 or 362 is answer 5": a reading that a gauge of the model's kinds can give
abbrev pub gauge_within : Model → Reading → Bool
gauge_within model r = within_limits (gauge_kinds model) r

-- a reading has its limits; "on a 361 channel-2 cells at their defaults": no reading
abbrev pub reading_within : Model → ℕ → Reading → Bool
reading_within model k r = gauge_within model r && (ltb k (channels model) || eqb r.kind 6)

-- the status of one switching function beside its assignment
abbrev pub switch_within : Model → List Switching → List Bool → ℕ → Bool
switch_within model ws on i = agrees model (get_or ws i no_switching).assignment (get_or on i false)

-- "switch status matching assignments 0 and 1", for all four
abbrev pub switches_within : Model → List Switching → List Bool → Bool
switches_within model ws on = switch_within model ws on 0 && (switch_within model ws on 1 && (switch_within model ws on 2 && switch_within model ws on 3))

-- "serial above 99999999" is none
abbrev pub serial_within : ℕ → Bool
serial_within serial = leb serial 99999999

-- all limits of the instrument: settings, saved set, readings, switches
unfoldable pub instrument_within : Instrument → Bool
instrument_within s =
    serial_within s.serial
    && ((within s.model s.settings && within s.model s.saved)
    && ((reading_within s.model 0 (get_or s.readings 0 no_reading) && reading_within s.model 1 (get_or s.readings 1 no_reading))
    && switches_within s.model s.settings.switching s.switches))

-- the arrays have their lengths, as the type says
pub record InstrumentShaped (s : Instrument) : Type 0 where
  pub settings : SettingsShaped s.settings
  pub saved : SettingsShaped s.saved
  pub readings : length s.readings ≡ 2
  pub switches : length s.switches ≡ 4

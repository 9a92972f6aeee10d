-- The state of a box (01, "Readings, switching, streaming": "State limits"; "Settings").
use Rattle.std.specs.Prelude.{ℕ, ◌≡◌, Bool, true, ◌&&◌}
use Rattle.settings.specs.Table.{defaults}
use Rattle.settings.specs.declared.model.Model.{Model}
use Rattle.settings.specs.declared.Settings.{Settings}
use Rattle.ports.specs.Hearing.{fresh_port}
use Rattle.ports.specs.Limits.{port_within, PortShaped}
use Rattle.instrument.specs.Events.{started}
use Rattle.instrument.specs.Limits.{instrument_within, InstrumentShaped}
use Rattle.tpg.specs.declared.State.{State}

-- "State limits": those of the instrument and of the port
unfoldable pub state_within : State → Bool
state_within s = instrument_within s.instrument && port_within s.instrument.model s.port

-- a box that starts with a saved set
abbrev pub started_box : Model → ℕ → Settings → State
started_box model serial saved = record { instrument = started model serial saved; port = fresh_port model }

-- a fresh box: its saved set is "the defaults"
abbrev pub fresh_box : Model → ℕ → State
fresh_box model serial = started_box model serial (defaults model)

-- "A power cycle keeps model, serial and saved set, takes the settings from it, and otherwise starts as a fresh box does"
abbrev pub cycled : State → State
cycled s = started_box s.instrument.model s.instrument.serial s.instrument.saved

-- the arrays of a state have their lengths, as its type says
pub record StateShaped (s : State) : Type 0 where
  pub instrument : InstrumentShaped s.instrument
  pub port : PortShaped s.port

-- a state that a box can be in: its arrays have their lengths and its values their limits
pub record Sound (s : State) : Type 0 where
  pub shaped : StateShaped s
  pub within : state_within s ≡ true

-- The limits of a port (01, "Readings, switching, streaming": "State limits").
use Rattle.std.specs.Prelude.{ℕ, ◌≡◌, Bool, true, not, ◌&&◌, ◌||◌, length, take, drop, eqb, leb, ltb, Option, Some, None}
use Rattle.ground.specs.Members.{every}
use Rattle.ground.specs.Ranges.{in_range}
use Rattle.text.specs.Control.{is_character}
use Rattle.settings.specs.Mnemonics.{answers}
use Rattle.settings.specs.declared.model.Model.{Model}
use Rattle.ports.specs.Stream.{interval_of}
use Rattle.ports.specs.declared.Port.{Port}
use Rattle.settings.specs.declared.mnemonic.Replying.{Replying}

-- "the line at most 80 with unused places zero, empty when bad"; a used place holds a character
unfoldable pub line_within : Port → Bool
line_within p =
    leb p.len 80
    && (every is_character (take p.len p.line) && every (in_range 0 0) (drop p.len p.line) && (not p.bad || eqb p.len 0))

-- the interval of a mode
abbrev pub is_interval : ℕ → Bool
is_interval n = eqb n (interval_of 0) || (eqb n (interval_of 1) || eqb n (interval_of 2))

-- "the tick count below the interval, 0 when not streaming"
abbrev pub stream_within : Port → Bool
stream_within p = eqb p.interval 0 && eqb p.ticks 0 || is_interval p.interval && ltb p.ticks p.interval

-- "a selection that the model can answer"
abbrev pub selection_within : Model → Option Replying → Bool
selection_within model None = true
selection_within model (Some a) = answers model a

-- all limits of a port
unfoldable pub port_within : Model → Port → Bool
port_within model p = line_within p && (stream_within p && selection_within model p.selection)

-- the line has its eighty places, as the type of the port says
pub record PortShaped (p : Port) : Type 0 where
  pub line : length p.line ≡ 80

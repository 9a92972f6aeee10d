-- The stream of a host (01, "Readings, switching, streaming").
use Rattle.std.specs.Prelude.{ℕ, ◌+◌, [], ◌∷◌, true, false, cond, get_or, eqb, ltb}
use Rattle.settings.specs.Rows.{first_number}
use Rattle.settings.specs.declared.mnemonic.Mnemonic.{Mnemonic}
use Rattle.settings.specs.declared.mnemonic.Mnemonic.TheVariants.{OfReplying, Com, Sav}
use Rattle.settings.specs.declared.rows.Row.{Row}
use Rattle.ports.specs.declared.Port.{Port}
use Rattle.ports.specs.declared.Ticked.{Ticked}

-- "COM, 0, 1 or 2 streams every 1, 10 or 600 ticks"; a number that is no mode streams nothing
abbrev pub interval_of : ℕ → ℕ
interval_of mode = get_or (1 ∷ 10 ∷ 600 ∷ []) mode 0

-- the port with another stream
abbrev pub with_stream : Port → ℕ → ℕ → Port
with_stream p interval ticks = record { line = p.line; len = p.len; bad = p.bad; ended = p.ended; selection = p.selection; error = p.error; interval = interval; ticks = ticks }

-- "Every host byte stops the stream"
abbrev pub stopped : Port → Port
stopped p = with_stream p 0 0

-- "an accepted COM line then starts it at its CR, the tick count at 0"; no other line does
abbrev pub begun : Port → Mnemonic → Row → Port
begun p (OfReplying a) r = p
begun p Com r = with_stream p (interval_of (first_number r)) 0
begun p Sav r = p

-- one tick: a line is due at every interval's end, "The first line comes one whole interval later."
unfoldable pub ticked : Port → Ticked
ticked p =
    cond (eqb p.interval 0) (record { port = p; due = false })
    (cond (ltb (p.ticks + 1) p.interval)
    (record { port = with_stream p p.interval (p.ticks + 1); due = false })
    (record { port = with_stream p p.interval 0; due = true }))

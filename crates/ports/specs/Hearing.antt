-- One byte of the host (01, "Bytes from the host").
use Rattle.std.specs.Prelude.{ℕ, Bool, true, false, cond, ◌&&◌, ◌||◌, eqb, Option, Some, None, Ok, Err}
use Rattle.text.specs.Control.{etx, enq, lf, cr, space, is_character}
use Rattle.settings.specs.Models.{power_on_mode}
use Rattle.settings.specs.Mnemonics.{is_err}
use Rattle.settings.specs.declared.model.Model.{Model}
use Rattle.settings.specs.declared.mnemonic.Query.TheVariants.{Err as ErrQuery}
use Rattle.settings.specs.declared.mnemonic.Replying.{Replying}
use Rattle.settings.specs.declared.mnemonic.Replying.TheVariants.{OfQuery}
use Rattle.settings.specs.declared.mnemonic.Mnemonic.{Mnemonic}
use Rattle.settings.specs.declared.mnemonic.Mnemonic.TheVariants.{OfReplying, Com, Sav}
use Rattle.lines.specs.Words.{no_error, gathered}
use Rattle.lines.specs.Judging.{judged}
use Rattle.lines.specs.declared.word.Word.{Word}
use Rattle.lines.specs.declared.verdict.Fault.{Fault}
use Rattle.ports.specs.Line.{blank, emptied, spoilt, grown, held, is_empty}
use Rattle.ports.specs.Stream.{interval_of, stopped, begun}
use Rattle.ports.specs.declared.Port.{Port}
use Rattle.ports.specs.declared.Event.TheVariants.{Silent, Line, Reply}
use Rattle.ports.specs.declared.Heard.{Heard}
use Rattle.ports.specs.declared.hearing.ByteKind.{ByteKind}
use Rattle.ports.specs.declared.hearing.ByteKind.TheVariants.{Cr, Dropped, Etx, Enq, Character, Spoiling}
use Rattle.lines.specs.declared.verdict.Order.TheVariants.{Asks, Writes}
use Rattle.lines.specs.Verdicts.{Verdict}

-- "Any other LF, and every space, is dropped."
abbrev pub is_dropped : ℕ → Bool
is_dropped b = eqb b lf || eqb b space

-- CR, LF or space, ETX, ENQ; "a byte below 32 other than CR, LF, ETX and ENQ, or one of 127 and above, makes it bad"
unfoldable pub kind_of : ℕ → ByteKind
kind_of b =
    cond (eqb b cr) Cr
    (cond (is_dropped b) Dropped
    (cond (eqb b etx) Etx
    (cond (eqb b enq) Enq
    (cond (is_character b) Character Spoiling))))

-- "no line, selection, error or reading, mode 1 streaming"; an LF "after a fresh box or a power cycle, is another LF"
abbrev pub fresh_port : Model → Port
fresh_port model = record { line = blank; len = 0; bad = false; ended = false; selection = None; error = no_error; interval = interval_of (power_on_mode model); ticks = 0 }

-- the port with another mark of "straight after a CR"
abbrev pub with_mark : Port → Bool → Port
with_mark p ended = record { line = p.line; len = p.len; bad = p.bad; ended = ended; selection = p.selection; error = p.error; interval = p.interval; ticks = p.ticks }

-- the port with another selection and error word
abbrev pub with_choice : Port → Option Replying → Word → Port
with_choice p selection error = record { line = p.line; len = p.len; bad = p.bad; ended = p.ended; selection = selection; error = error; interval = p.interval; ticks = p.ticks }

-- "selects its mnemonic; after COM and SAV the selection is none"
abbrev pub selected : Mnemonic → Option Replying
selected (OfReplying a) = Some a
selected Com = None
selected Sav = None

-- "An accepted line .. selects its mnemonic"
abbrev pub accepted : Port → Mnemonic → Port
accepted p m = with_choice p (selected m) p.error

-- "A refused one .. sets its error digit and clears the selection."
abbrev pub refused : Port → Fault → Port
refused p x = with_choice p None (gathered p.error x)

-- a line that asks, one that writes, which can begin the stream, one that is refused
unfoldable pub concluded : Port → Verdict → Port
concluded p (Ok (Asks a)) = accepted p (OfReplying a)
concluded p (Ok (Writes m r)) = begun (accepted p m) m r
concluded p (Err x) = refused p x

-- "CR ends a line."
abbrev pub cr_heard : Model → Port → Heard
cr_heard model p = let v = judged model (held p) in record { port = concluded (with_mark (emptied p) true) v; event = Line v }

-- "ETX empties the line, a bad one too, clears the selection"; an ENQ "drops line and selection"
abbrev pub dropped : Port → Word → Port
dropped p error = with_choice (emptied p) None error

-- "it drops line and selection and sends the error word"; "then it is 0000"
abbrev pub worded : Port → Heard
worded p = record { port = dropped p no_error; event = Reply (OfQuery ErrQuery) p.error }

-- "sends the selected mnemonic's reply, as often as asked"; the error word is sent "through ERR" too
abbrev pub replied : Port → Replying → Heard
replied p a = record { port = cond (is_err a) (with_choice p (Some a) no_error) p; event = Reply a p.error }

-- with a selection, or with none
abbrev pub by_selection : Port → Option Replying → Heard
by_selection p None = worded p
by_selection p (Some a) = replied p a

-- "ENQ on an empty line"; "With no selection, or on a line that is not empty (bad ones too)"
unfoldable pub asked : Port → Heard
asked p = cond (is_empty p) (by_selection p p.selection) (worded p)

-- nothing is sent
abbrev pub quiet : Port → Heard
quiet p = record { port = p; event = Silent }

-- "Any other LF, and every space, is dropped."; ETX "sends nothing; the error word stays"
unfoldable pub by_kind : Model → ByteKind → Port → ℕ → Heard
by_kind model Cr p b = cr_heard model p
by_kind model Dropped p b = quiet p
by_kind model Etx p b = quiet (dropped p p.error)
by_kind model Enq p b = asked p
by_kind model Character p b = quiet (grown p b)
by_kind model Spoiling p b = quiet (spoilt p)

-- "An LF straight after a CR has no effect at all", "but a second LF .. is another LF"; "Every host byte stops the stream, except an LF straight after CR"
unfoldable pub heard : Model → Port → ℕ → Heard
heard model p b =
    let q = with_mark p false in
    cond (p.ended && eqb b lf) (quiet q) (by_kind model (kind_of b) (stopped q) b)

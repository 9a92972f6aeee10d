-- Lines and replies as bytes on the wire (01, "Bytes from the host"; 000, "Transmission protocol" and "Reception protocol").
use Rattle.std.specs.Prelude.{ℕ, zero, suc, ◌≡◌, List, [], ◌∷◌, ◌++◌, Bool, true, cond, ◌&&◌, ◌≢◌, leb, length, set, take, replicate, Option, Some, None, Ok, Err}
use Rattle.ground.specs.Members.{every}
use Rattle.text.specs.Control.{etx, enq, ack, cr, nak, cr_lf, is_character}
use Rattle.settings.specs.Rows.{listed}
use Rattle.settings.specs.Table.{kinds, field_count, cells}
use Rattle.settings.specs.Mnemonics.{setting, is_there, is_err}
use Rattle.settings.specs.declared.mnemonic.Setting.TheVariants.{Cal}
use Rattle.settings.specs.declared.mnemonic.Replying.{Replying}
use Rattle.settings.specs.declared.mnemonic.Replying.TheVariants.{OfSetting, Cf, OfQuery}
use Rattle.settings.specs.declared.mnemonic.Mnemonic.{Mnemonic}
use Rattle.settings.specs.declared.mnemonic.Mnemonic.TheVariants.{OfReplying, Com, Sav}
use Rattle.settings.specs.declared.mnemonic.Query.TheVariants.{Err as ErrQuery}
use Rattle.settings.specs.declared.rows.Row.{Row}
use Rattle.lines.specs.Splitting.{joined}
use Rattle.lines.specs.Words.{fault, no_error, gathered}
use Rattle.lines.specs.Replies.{texts}
use Rattle.lines.specs.declared.word.Word.{Word}
use Rattle.ports.specs.Line.{is_empty}
use Rattle.ports.specs.Hearing.{is_dropped, selected}
use Rattle.instrument.specs.Events.{written}
use Rattle.instrument.specs.Replies.{reply_text}
use Rattle.instrument.specs.declared.Instrument.{Instrument}
use Rattle.tpg.specs.declared.State.{State}
use Rattle.lines.specs.declared.verdict.Order.TheVariants.{Asks, Writes}
use Rattle.lines.specs.Verdicts.{Verdict}

-- "sends ACK CR LF", "sends NAK CR LF"
abbrev pub ack_line : List ℕ
ack_line = ack ∷ cr_lf

abbrev pub nak_line : List ℕ
nak_line = nak ∷ cr_lf

-- ---- the line that bytes make

-- the bytes that a line is made of: all but the three that end or drop one, CR, ETX and ENQ
abbrev pub Inner : ℕ → Type 0
Inner b = (b ≢ cr) × (b ≢ etx) × (b ≢ enq)

-- the other bytes
unfoldable pub undropped : List ℕ → List ℕ
undropped [] = []
undropped (b ∷ bytes) = cond (is_dropped b) (undropped bytes) (b ∷ undropped bytes)

-- "A line holds up to 80 characters"
unfoldable pub is_good : List ℕ → Bool
is_good l = every is_character l && leb (length l) 80

-- the line that bytes make; a bad one "holds nothing"
abbrev pub line_in : List ℕ → List ℕ
line_in bytes = cond (is_good (undropped bytes)) (undropped bytes) []

-- ---- how a host sends a line

-- 000: "Mnemonics [and parameters] <CR>[<LF>]", what stands in brackets being optional
pub data End : Type 0 where
  by_cr : End
  by_cr_lf : End

abbrev pub end_bytes : End → List ℕ
end_bytes by_cr = cr ∷ []
end_bytes by_cr_lf = cr_lf

-- bytes, and "CR ends a line"
abbrev pub ended : End → List ℕ → List ℕ
ended e bytes = bytes ++ end_bytes e

-- "ETX empties the line, a bad one too, clears the selection"
abbrev pub anew : List ℕ → List ℕ
anew bytes = etx ∷ bytes

-- a line begins where the line is empty already, or with an ETX whatever came before
pub data Start : Type 0 where
  on_empty : Start
  after_etx : Start

abbrev pub opened : Start → List ℕ → List ℕ
opened on_empty bytes = bytes
opened after_etx bytes = anew bytes

-- a box is ready for the first where its line is empty, and for the second always
abbrev pub Ready : Start → State → Type 0
Ready on_empty s = is_empty s.port ≡ true
Ready after_etx s = Unit {0}

-- a way of sending a line: how it begins and ends, and how many ENQs come behind it, each "Request for data transmission" (000)
pub record Way : Type 0 where
  pub start : Start
  pub end : End
  pub enqs : ℕ

abbrev pub enquiries : ℕ → List ℕ
enquiries n = replicate n enq

abbrev pub sending : Way → List ℕ → List ℕ
sending w bytes = opened w.start (ended w.end bytes ++ enquiries w.enqs)

-- ---- what comes back

-- 000: "Additional strings .. are read out by repetitive transmission of <ENQ>"; the error word is sent once, "then it is 0000"
unfoldable pub as_often : ℕ → (Word → List ℕ) → Word → List ℕ
as_often zero text error = []
as_often (suc n) text error = text error ++ as_often n text no_error

-- "An accepted line .. selects its mnemonic"; "A refused one .. clears the selection."
abbrev pub choice : Verdict → Option Replying
choice (Ok (Asks a)) = Some a
choice (Ok (Writes m r)) = selected m
choice (Err x) = None

-- ENQ "sends the selected mnemonic's reply"; "With no selection .. sends the error word", as ERR does
abbrev pub enq_text : Instrument → Option Replying → Word → List ℕ
enq_text s None error = reply_text s error (OfQuery ErrQuery)
enq_text s (Some a) error = reply_text s error a

-- what comes back for a line and so many ENQs behind it
abbrev pub answered : ℕ → Instrument → Word → Verdict → List ℕ
answered n s error (Ok (Asks a)) = ack_line ++ as_often n (enq_text s (Some a)) error
answered n s error (Ok (Writes m r)) = ack_line ++ as_often n (enq_text (written s m r) (selected m)) error
answered n s error (Err x) = nak_line ++ as_often n (enq_text s None) (gathered error x)

-- ---- what it leaves behind

-- "Digits gather until the word is sent"
abbrev pub gathering : Word → Verdict → Word
gathering error (Ok (Asks a)) = error
gathering error (Ok (Writes m r)) = error
gathering error (Err x) = gathered error x

-- "in either way of an ENQ or through ERR": whether an ENQ behind the line sends the word
abbrev pub tells_error : Option Replying → Bool
tells_error None = true
tells_error (Some a) = is_err a

-- "then it is 0000"
abbrev pub error_left : ℕ → Word → Verdict → Word
error_left zero error v = gathering error v
error_left (suc n) error v = cond (tells_error (choice v)) no_error (gathering error v)

-- ---- reading and writing a setting

-- for a mnemonic alone that has a reply: "PR2 or CF2 on a 361, 0100", and any other is told
abbrev pub read_text : ℕ → Instrument → Word → Replying → List ℕ
read_text n s error a =
    cond (is_there s.model (OfReplying a)) (ack_line ++ as_often n (enq_text s (Some a)) error) (nak_line ++ as_often n (enq_text s None) (gathered error (fault 100)))

-- what the ENQ tells after a line that wrote: the line's own values; "CFx takes one factor and answers one per channel"; a mnemonic without
-- fields has nothing to write
abbrev pub written_text : Instrument → Mnemonic → Row → Word → List ℕ
written_text s (OfReplying (OfSetting x)) r error = joined (texts (kinds s.model (setting x)) (take (field_count s.model x) (listed r))) ++ cr_lf
written_text s (OfReplying (Cf k)) r error = joined (texts (kinds s.model (setting Cal)) (set (cells s.model s.settings Cal) k r.first)) ++ cr_lf
written_text s (OfReplying (OfQuery q)) r error = reply_text s error (OfQuery q)
written_text s Com r error = enq_text s None error
written_text s Sav r error = enq_text s None error

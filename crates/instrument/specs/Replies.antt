-- What a box sends of its instrument (01, "Readings, switching, streaming" and "Settings"; 02, W-201).
use Rattle.std.specs.Prelude.{ℕ, List, [], ◌∷◌, ◌++◌, map, Bool, false, get_or, take, ⊤}
use Prim.Native.Char.{code}
use Rattle.std.specs.Borrow.{MutBor}
use Rattle.text.specs.Text.{ascii}
use Rattle.text.specs.Writing.{Wrote}
use Rattle.text.specs.declared.writer.Writer.{Writer}
use Rattle.text.specs.Digits.{padded_text, binary}
use Rattle.text.specs.Control.{cr_lf}
use Rattle.gauges.specs.Readings.{no_reading}
use Rattle.gauges.specs.Shown.{shown_of, shown_text}
use Rattle.gauges.specs.declared.reading.Reading.{Reading}
use Rattle.settings.specs.Models.{channels, names}
use Rattle.settings.specs.Kinds.{kind_name}
use Rattle.settings.specs.declared.model.Model.{Model}
use Rattle.settings.specs.declared.mnemonic.Query.{Query}
use Rattle.settings.specs.declared.mnemonic.Query.TheVariants.{Sps, Pr, Prx, Tid, Ayt, Pnr, Err}
use Rattle.settings.specs.declared.mnemonic.Replying.{Replying}
use Rattle.settings.specs.declared.mnemonic.Replying.TheVariants.{OfSetting, Cf, OfQuery}
use Rattle.lines.specs.Splitting.{joined}
use Rattle.lines.specs.Words.{word_text}
use Rattle.lines.specs.Replies.{setting_text, factors_text}
use Rattle.lines.specs.declared.word.Word.{Word}
use Rattle.instrument.specs.Events.{each_four}
use Rattle.instrument.specs.declared.Instrument.{Instrument}

-- the reading of a channel, counted from 0; "A channel without a reading is status 5, kind 6."
abbrev pub reading_at : List Reading → ℕ → Reading
reading_at rs k = get_or rs k no_reading

-- "status, comma, sign .., d.ddddE, sign, two digits", in the unit chosen
abbrev pub shown_at : ℕ → List Reading → ℕ → List ℕ
shown_at unit rs k = shown_text (shown_of (reading_at rs k) unit)

-- "the name of each channel's kind"
abbrev pub kind_at : Model → List Reading → ℕ → List ℕ
kind_at model rs k = kind_name model (reading_at rs k).kind

-- "each the model has", commas between
unfoldable pub each_channel : Model → (ℕ → List ℕ) → List ℕ
each_channel model text = joined (map text (take (channels model) (0 ∷ 1 ∷ [])))

-- a writer that puts each channel's text behind what is put already
abbrev pub Writes : (MutBor Writer → ℕ → ⊤ → MutBor Writer → Type 0) → (ℕ → List ℕ) → Type 0
Writes post text = (out : MutBor Writer) (k : ℕ) (nothing : ⊤) (after : MutBor Writer) → post out k nothing after → Wrote out.now after.now (text k)

-- "SPS sends four digits with commas."
abbrev pub switches_text : List Bool → List ℕ
switches_text on = joined (map (λ (b : Bool). binary b ∷ []) (each_four (λ i. get_or on i false)))

-- "sends TPG362,PTG28290,44990000,010100,010100"; "The serial has eight digits."
abbrev pub serial_text : Model → ℕ → List ℕ
serial_text model serial = names model ++ (code "," ∷ (padded_text serial 8 ++ ascii ",010100,010100"))

-- "PRX and the stream: each the model has"
abbrev pub readings_text : Instrument → List ℕ
readings_text s = each_channel s.model (shown_at s.settings.unit s.readings)

-- the replies of those that take no field; ERR sends the error word, and W-201: "PNR, which sends 302-510--"
abbrev pub query_text : Instrument → Word → Query → List ℕ
query_text s error Sps = switches_text s.switches
query_text s error (Pr k) = shown_at s.settings.unit s.readings k
query_text s error Prx = readings_text s
query_text s error Tid = each_channel s.model (kind_at s.model s.readings)
query_text s error Ayt = serial_text s.model s.serial
query_text s error Pnr = ascii "302-510--"
query_text s error Err = word_text error

-- the reply of each mnemonic that has one, "then CR LF"
unfoldable pub reply_text : Instrument → Word → Replying → List ℕ
reply_text s error (OfSetting x) = setting_text s.model s.settings x ++ cr_lf
reply_text s error (Cf k) = factors_text s.model s.settings ++ cr_lf
reply_text s error (OfQuery q) = query_text s error q ++ cr_lf

-- a line of the stream, "then CR LF"
unfoldable pub stream_text : Instrument → List ℕ
stream_text s = readings_text s ++ cr_lf

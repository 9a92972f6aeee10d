-- The starred examples of 01, "Lines on either side", as one statement over a list of them; 01's example, its other examples and its wrong readings
-- as another; a 262 (02, W-201), and thresholds that follow the unit (02, W-202). All are worked out from the definitions, through the calls on a fresh box.
use Prim.Native.Nat.{ℕ}
use Prim.Native.String.{String}
use mathlib.Core.Path.{◌≡◌, refl}
use mathlib.Core.List.{List, [], ◌∷◌, ◌++◌, map, flat_map}
use lib.IntN.{ℤ, pos, negsuc}
use lib.ListN.{replicate}
use Rattle.ground.specs.Members.{every}
use Rattle.text.specs.Text.{ascii}
use Rattle.text.specs.Digits.{bare}
use Rattle.text.specs.Spans.{until}
use Rattle.text.specs.Control.{cr_lf, enq, lf}
use Rattle.numbers.specs.Numbers.{less, is_below, is_above}
use Rattle.numbers.specs.Rounding.{climb_within, digits, power, rounded, fitted_to, scaled_by, held_within, multiplied_by}
use Rattle.numerals.specs.Runs.{lead, rest, head_is, value}
use Rattle.numerals.specs.Whole.{number_of, behind_point, factor_of}
use Rattle.numerals.specs.Exponential.{after_plus, after_sign, power_of, composed, fraction, after_fraction, threshold_of}
use Rattle.numerals.specs.Writing.{scientific}
use Rattle.gauges.specs.Readings.{within_limits, no_reading}
use Rattle.gauges.specs.Shown.{switched}
use Rattle.settings.specs.Table.{switching_entry, stored_entry}
use Rattle.settings.specs.Mnemonics.{sheet, known, same, found, recognised, answers, is_err}
use Rattle.settings.specs.Limits.{cells_fit, within}
use Rattle.settings.specs.declared.model.Model.TheVariants.{Tpg361, Tpg362, Tpg262}
use Rattle.lines.specs.Splitting.{fields}
use Rattle.lines.specs.Fields.{limited}
use Rattle.lines.specs.Judging.{fields_read, formed, valued, with_fields, judged}
use Rattle.lines.specs.Replies.{setting_text}
use Rattle.ports.specs.Line.{grown}
use Rattle.ports.specs.Stream.{ticked}
use Rattle.ports.specs.Hearing.{kind_of, concluded, asked, by_kind, heard}
use Rattle.ports.specs.Limits.{line_within, port_within}
use Rattle.instrument.specs.Events.{measured, written}
use Rattle.instrument.specs.Limits.{instrument_within}
use Rattle.instrument.specs.Replies.{each_channel, reply_text, stream_text}
use Rattle.tpg.specs.States.{state_within, fresh_box}
use Rattle.tpg.specs.Steps.{event_text, next, sent, after, said, taken}
use Rattle.tpg.specs.Calls.{admits, roomed, roomed_bytes, hosted, tick_text, counted, after_ticks, ticks_text, reading_call, cycle_call}
use Rattle.tpg.specs.declared.State.{State}
use Rattle.demands.specs.Calls.{Call, host, reading, ticks, cycle, outcome, call_bytes}
use Rattle.demands.specs.Wire.{ack_line, nak_line, by_cr, by_cr_lf, ended, enquiries}
use Rattle.demands.specs.Sheets.{copy_lines, copy_of, lines_sent}

-- all that calls send, one after the other
abbrev pub sends : State → List Call → List ℕ
sends s [] = []
sends s (c ∷ cs) = call_bytes s c ++ sends (outcome s c).state cs

-- ---- calls

-- an output that is long enough for each of them
abbrev room : ℕ
room = 2000

-- host bytes as they are
abbrev raw : List ℕ → Call
raw bs = host bs room

-- a line, one with CR LF, and one with an ENQ behind it
abbrev line : String → Call
line s = raw (ended by_cr (ascii s))

abbrev windows : String → Call
windows s = raw (ended by_cr_lf (ascii s))

abbrev asking : List ℕ → List ℕ
asking l = ended by_cr l ++ enquiries 1

abbrev asks : String → Call
asks s = raw (asking (ascii s))

-- an ENQ alone
abbrev enq_call : Call
enq_call = raw (enquiries 1)

-- so many ticks
abbrev waits : ℕ → Call
waits n = ticks n room

-- a good reading of a linear gauge, kind 5, on a channel
abbrev linear : ℕ → ℤ → ℤ → Call
linear channel m e = reading channel (record { kind = 5; status = 0; value = record { mantissa = m; exponent = e } })

-- ---- examples

abbrev reply : String → List ℕ
reply s = ascii s ++ cr_lf

-- a line that is refused, and the error word that the ENQ behind it is sent
abbrev refused : String → List ℕ
refused word = nak_line ++ reply word

pub record Example : Type 0 where
  pub box : State
  pub calls : List Call
  pub got : List ℕ

abbrev on362 : List Call → List ℕ → Example
on362 cs got = record { box = fresh_box Tpg362 44990000; calls = cs; got = got }

abbrev on361 : List Call → List ℕ → Example
on361 cs got = record { box = fresh_box Tpg361 0; calls = cs; got = got }

-- each box sends what its row says
abbrev pub Hold : List Example → Type 0
Hold rs = map (λ (r : Example). sends r.box r.calls) rs ≡ map (λ (r : Example). r.got) rs

-- ---- the starred examples

-- a threshold in both places of SP1, and what the ENQ behind it is sent
abbrev threshold : String → List ℕ → Example
threshold t got = on362 (raw (asking (ascii "SP1,1," ++ ascii t ++ ascii "," ++ ascii t)) ∷ []) got

abbrev held : String → List ℕ
held t = ack_line ++ ascii "1," ++ ascii t ++ ascii "," ++ reply t

-- what PR1 sends in Torr after a call or none
abbrev torr : List Call → String → Example
torr cs t = on362 (line "UNI,1" ∷ (cs ++ asks "PR1" ∷ [])) (ack_line ++ ack_line ++ reply t)

abbrev pub starred : List Example
starred =
    threshold "6.80E-3" (held "6.8000E-03")
    ∷ threshold "123456" (held "1.2346E+05")
    ∷ threshold "999994" (held "9.9999E+05")
    ∷ threshold "999995" (held "1.0000E+06")
    ∷ threshold "9.99995E-21" (held "1.0000E-20")
    ∷ threshold "9.9999E-21" (refused "0010")
    ∷ threshold "9.99994E20" (held "9.9999E+20")
    ∷ threshold "9.99995E20" (refused "0010")
    ∷ threshold "0.0" (refused "0010")
    ∷ threshold "." (refused "0001")
    ∷ threshold "5." (held "5.0000E+00")
    ∷ on362 (asks "CAL,0.099,1" ∷ []) (refused "0010")
    ∷ on362 (asks "CAL,0.1,10" ∷ []) (ack_line ++ reply "0.100,10.000")
    ∷ on362 (asks "FIL,,2" ∷ []) (refused "0001")
    ∷ on362 (asks "FIL,4,2" ∷ []) (refused "0010")
    ∷ on362 (asks "FIL,4," ∷ []) (refused "0001")
    -- "+1.0000E+03 hPa, kind 5, in Torr"
    ∷ torr (linear 1 (pos 10000) (pos 3) ∷ []) "0,+7.5006E+02"
    -- "mantissa 13332, 13333, exponent 0, kind 5, Torr"
    ∷ torr (linear 1 (pos 13332) (pos 0) ∷ []) "0,+9.9998E-01"
    ∷ torr (linear 1 (pos 13333) (pos 0) ∷ []) "0,+1.0001E+00"
    -- "status 5 in Torr": a channel without a reading
    ∷ torr [] "5,+1.5001E-02"
    ∷ []

pub starred_hold : Hold starred
unfolding bare less climb_within digits power rounded fitted_to scaled_by held_within multiplied_by lead rest head_is value number_of behind_point factor_of after_plus after_sign power_of composed fraction after_fraction threshold_of scientific within_limits every known same found sheet recognised answers switching_entry stored_entry cells_fit within fields limited fields_read formed valued with_fields judged setting_text grown kind_of concluded is_err asked by_kind heard line_within port_within measured written instrument_within reply_text state_within event_text next sent after said taken admits roomed roomed_bytes hosted reading_call
starred_hold = refl

-- ---- 01's example, its other examples and its wrong readings

abbrev pub examples : List Example
examples =
    -- 01's example: the stream of power-on, a reply, a refusal, and the stream stopped by the bytes
    on362 (waits 10 ∷ asks "FIL" ∷ asks "FOL,1,2" ∷ waits 10 ∷ [])
    (reply "5,+2.0000E-02,5,+2.0000E-02" ++ ack_line ++ reply "2,2" ++ refused "0001")
    -- "Letting the LF of CR LF stop the stream its own COM line began."
    ∷ on362 (windows "COM,1" ∷ waits 10 ∷ []) (ack_line ++ reply "5,+2.0000E-02,5,+2.0000E-02")
    ∷ on362 (windows "COM,1" ∷ raw (lf ∷ []) ∷ waits 10 ∷ []) ack_line
    -- a refused COM starts nothing, and the first line comes a whole interval later
    ∷ on362 (line "COM,3" ∷ waits 10 ∷ enq_call ∷ []) (refused "0010")
    ∷ on362 (waits 9 ∷ line "COM" ∷ waits 9 ∷ []) ack_line
    -- "Storing fields while checking them: SP1,2,1E-3, then stores an assignment."
    ∷ on362 (line "SP1,2,1E-3," ∷ asks "SP1" ∷ []) (nak_line ++ ack_line ++ reply "0,1.0000E-09,9.0000E-07")
    -- "Sending a CF1 reply back as CF1: two fields on a 362, refused."
    ∷ on362 (asks "CF1" ∷ line "CF1,1.000,1.000" ∷ asks "CF2,2.5" ∷ []) (ack_line ++ reply "1.000,1.000" ++ nak_line ++ ack_line ++ reply "1.000,2.500")
    -- "Keeping the old selection after a NAK, so ENQ answers an earlier question."
    ∷ on362 (line "UNI" ∷ asks "UNI,9" ∷ enq_call ∷ []) (ack_line ++ refused "0010" ++ reply "0000")
    -- "Naming a linear gauge CMR": the list says CMR/APR
    ∷ on362 (linear 2 (pos 10000) (pos 0) ∷ asks "TID" ∷ []) (ack_line ++ reply "noSEn,CMR/APR")
    -- digits gather until the word is sent, here through ERR; ENQ on a bad line sends it too, and not the selection
    ∷ on362 (line "FOL" ∷ line "UNI,5" ∷ asks "ERR" ∷ enq_call ∷ []) (nak_line ++ nak_line ++ ack_line ++ reply "0011" ++ reply "0000")
    ∷ on362 (line "UNI" ∷ raw (1 ∷ enq ∷ enq ∷ []) ∷ []) (ack_line ++ reply "0000" ++ reply "0000")
    -- "80 / 81 characters": CF2 on a 361 is 0100 before its fields are looked at, and a bad line is 0001
    ∷ on361 (raw (asking (ascii "CF2," ++ replicate 76 48)) ∷ []) (refused "0100")
    ∷ on361 (raw (asking (ascii "CF2," ++ replicate 77 48)) ∷ []) (refused "0001")
    -- spaces are not counted, ETX empties a bad line, and ENQ on a full one drops it
    ∷ on362 (raw (replicate 81 32) ∷ asks "F I L" ∷ []) (ack_line ++ reply "2,2")
    ∷ on362 (raw (replicate 81 65 ++ 3 ∷ []) ∷ asks "FIL" ∷ []) (ack_line ++ reply "2,2")
    ∷ on362 (asks "FIL" ∷ raw (replicate 80 48 ++ 5 ∷ []) ∷ []) (ack_line ++ reply "2,2" ++ reply "0000")
    -- switching: below the lower threshold on, between no change, above the upper off; on again, and a status that is not 0 off
    ∷ on362 (line "SP1,2,1E-3,1E-2" ∷ linear 1 (pos 99999) (negsuc 3) ∷ asks "SPS" ∷ linear 1 (pos 50000) (negsuc 2) ∷ enq_call
    ∷ linear 1 (pos 10001) (negsuc 1) ∷ enq_call ∷ linear 1 (pos 99999) (negsuc 3) ∷ enq_call ∷ reading 1 no_reading ∷ enq_call ∷ [])
    (ack_line ++ ack_line ++ reply "1,0,0,0" ++ reply "1,0,0,0" ++ reply "0,0,0,0" ++ reply "1,0,0,0" ++ reply "0,0,0,0")
    ∷ on362 (line "SP2,1,1,2" ∷ asks "SPS" ∷ []) (ack_line ++ ack_line ++ reply "0,1,0,0")
    -- SAV keeps what a power cycle takes back; a power cycle forgets readings
    ∷ on362 (line "UNI,1" ∷ line "SAV,1" ∷ line "UNI,2" ∷ linear 1 (pos 10000) (pos 3) ∷ asks "PR1" ∷ cycle ∷ asks "UNI" ∷ asks "PR1" ∷ [])
    (ack_line ++ ack_line ++ ack_line ++ ack_line ++ reply "0,+1.0000E+05" ++ ack_line ++ reply "1" ++ ack_line ++ reply "5,+1.5001E-02")
    -- AYT, and what a 361 has not
    ∷ on362 (asks "AYT" ∷ []) (ack_line ++ reply "TPG362,PTG28290,44990000,010100,010100")
    ∷ on361 (asks "AYT" ∷ asks "PRX" ∷ asks "PR2" ∷ asks "CF2" ∷ asks "ERA,3" ∷ [])
    (ack_line ++ reply "TPG361,PTG28040,00000000,010100,010100" ++ ack_line ++ reply "5,+2.0000E-02" ++ refused "0100" ++ refused "0100" ++ refused "0100")
    ∷ []

pub examples_hold : Hold examples
unfolding bare less is_below is_above climb_within digits power rounded fitted_to scaled_by held_within multiplied_by lead rest head_is value number_of behind_point factor_of after_plus after_sign power_of composed fraction after_fraction threshold_of scientific within_limits switched every known same found sheet recognised answers switching_entry stored_entry cells_fit within fields limited fields_read formed valued with_fields judged setting_text grown ticked kind_of concluded is_err asked by_kind heard line_within port_within measured written instrument_within each_channel reply_text stream_text state_within event_text next sent after said taken admits roomed roomed_bytes hosted tick_text counted after_ticks ticks_text reading_call cycle_call
examples_hold = refl

-- ---- W-201

abbrev on262 : List Call → List ℕ → Example
on262 cs got = record { box = fresh_box Tpg262 0; calls = cs; got = got }

-- a good reading of a gauge of some kind, 1.0000E-10 hPa
abbrev gauge : ℕ → ℕ → Call
gauge channel kind = reading channel (record { kind = kind; status = 0; value = record { mantissa = pos 10000; exponent = negsuc 9 } })

abbrev older_replies : List String
older_replies =
    "0" ∷ "1,1" ∷ "1.000,1.000" ∷ "2" ∷ "0,1.0000E-09,9.0000E-07" ∷ "0,1.0000E-09,9.0000E-07" ∷ "0,1.0000E-09,9.0000E-07" ∷ "0,1.0000E-09,9.0000E-07"
    ∷ "0,0" ∷ "0" ∷ "0" ∷ "1" ∷ "0" ∷ "0" ∷ []

abbrev replies : List String → List ℕ
replies [] = []
replies (t ∷ ts) = ack_line ++ (reply t ++ replies ts)

abbrev refusals : List String → List ℕ
refusals [] = []
refusals (t ∷ ts) = refused "0001" ++ refusals ts

abbrev older_unknown : List String
older_unknown = "CF1" ∷ "CF2" ∷ "AYT" ∷ "ERA" ∷ "EVA" ∷ "FMT" ∷ "LNG" ∷ "NAD" ∷ "PRE" ∷ "PRO" ∷ "DCS" ∷ []

abbrev pub older : List Example
older =
    -- a fresh box: its fourteen lines, no channel with good data, the eleven that it does not know
    on262 (map asks ("UNI" ∷ "FIL" ∷ "CAL" ∷ "DCD" ∷ "SP1" ∷ "SP2" ∷ "SP3" ∷ "SP4" ∷ "PUC" ∷ "DIC" ∷ "SCT" ∷ "WDT" ∷ "TLC" ∷ "LOC" ∷ [])) (replies older_replies)
    ∷ on262 (waits 10 ∷ asks "PRX" ∷ asks "PNR" ∷ []) (reply "5,+2.0000E-02,5,+2.0000E-02" ++ replies ("5,+2.0000E-02,5,+2.0000E-02" ∷ "302-510--" ∷ []))
    ∷ on262 (map asks older_unknown) (refusals older_unknown)
    -- "TID tells IKR9 (kind 1) from IKR11 (a new kind 8)"; "kind 8 on a 361 or 362 is answer 5", so the channel stays without a reading
    ∷ on262 (gauge 1 1 ∷ gauge 2 8 ∷ asks "TID" ∷ gauge 1 9 ∷ enq_call ∷ []) (ack_line ++ reply "IKR9,IKR11" ++ reply "IKR9,IKR11")
    ∷ on362 (gauge 1 8 ∷ gauge 2 1 ∷ asks "TID" ∷ []) (replies ("noSEn,IKR" ∷ []))
    ∷ on361 (gauge 1 8 ∷ asks "PRX" ∷ []) (replies ("5,+2.0000E-02" ∷ []))
    -- all four functions listen to channel 1 and start off; a channel that lost its gauge sets them off
    ∷ on262 (asks "SPS" ∷ gauge 2 8 ∷ enq_call ∷ gauge 1 8 ∷ enq_call ∷ reading 1 no_reading ∷ enq_call ∷ [])
    (replies ("0,0,0,0" ∷ []) ++ reply "0,0,0,0" ++ reply "1,1,1,1" ++ reply "0,0,0,0")
    -- assignment 1 is channel 2, and is not on by itself
    ∷ on262 (line "SP2,1,1,2" ∷ asks "SPS" ∷ gauge 2 8 ∷ enq_call ∷ []) (ack_line ++ replies ("0,0,0,0" ∷ []) ++ reply "0,1,0,0")
    -- SAV,0 and a power cycle bring WDT's default back, which is 1
    ∷ on262 (line "WDT,0" ∷ line "SAV,1" ∷ cycle ∷ asks "WDT" ∷ line "SAV,0" ∷ cycle ∷ asks "WDT" ∷ [])
    (ack_line ++ ack_line ++ replies ("0" ∷ []) ++ ack_line ++ replies ("1" ∷ []))
    ∷ []

pub older_hold : Hold older
unfolding bare less is_below is_above climb_within digits power rounded fitted_to scaled_by held_within multiplied_by lead rest head_is value number_of behind_point factor_of after_plus after_sign power_of composed fraction after_fraction threshold_of scientific within_limits switched every known same found sheet recognised answers switching_entry stored_entry cells_fit within fields limited fields_read formed valued with_fields judged setting_text grown ticked kind_of concluded is_err asked by_kind heard line_within port_within measured written instrument_within each_channel reply_text stream_text state_within event_text next sent after said taken admits roomed roomed_bytes hosted tick_text counted after_ticks ticks_text reading_call cycle_call
older_hold = refl

-- a sheet read and copied: the lines that a host makes of it, and of the second box's sheet after them
abbrev pub older_sheet : List String
older_sheet =
    "UNI,1" ∷ "FIL,2,0" ∷ "CAL,9.990,0.100" ∷ "DCD,3" ∷ "SP1,1,1.0000E+00,2.0000E+00" ∷ "SP2,0,1.0000E-09,9.0000E-07" ∷ "SP3,0,1.0000E-09,9.0000E-07" ∷ "SP4,0,1.0000E-09,9.0000E-07"
    ∷ "PUC,1,0" ∷ "DIC,1" ∷ "SCT,1" ∷ "WDT,0" ∷ "TLC,1" ∷ "LOC,1" ∷ []

abbrev set_from : List String → State
set_from ls = after (fresh_box Tpg262 0) (lines_sent by_cr (map ascii ls))

pub older_sheet_copied : copy_of said by_cr (set_from older_sheet) ≡ map ascii older_sheet
unfolding flat_map copy_lines until bare less is_below is_above climb_within digits power rounded fitted_to scaled_by held_within multiplied_by lead rest head_is value number_of behind_point factor_of after_plus after_sign power_of composed fraction after_fraction threshold_of scientific within_limits switched every known same found sheet recognised answers switching_entry stored_entry cells_fit within fields limited fields_read formed valued with_fields judged setting_text grown ticked kind_of concluded is_err asked by_kind heard line_within port_within measured written instrument_within each_channel reply_text stream_text state_within event_text next sent after said taken admits roomed roomed_bytes hosted tick_text counted after_ticks ticks_text reading_call cycle_call
older_sheet_copied = refl

-- ---- W-202

-- SP1 with two thresholds in the one unit, and what is told of them in the other
abbrev follow : String → String → String → String → Example
follow old thresholds new got =
    on362 (line old ∷ raw (ended by_cr (ascii "SP1,0," ++ ascii thresholds)) ∷ line new ∷ asks "SP1" ∷ []) (ack_line ++ ack_line ++ ack_line ++ ack_line ++ (ascii "0," ++ reply got))

abbrev pub followed : List Example
followed =
    -- 760 Torr is 1013.25 mbar, and 1.064 Torr 1.41855 mbar: exact halves, rounded upwards
    follow "UNI,1" "760,1.064" "UNI,0" "1.0133E+03,1.4186E+00"
    -- the end stops
    ∷ follow "UNI,4" "1,1E20" "UNI,2" "1.0000E+02,9.9999E+20"
    ∷ follow "UNI,4" "1E-20,1" "UNI,1" "1.0000E-20,7.5006E-01"
    -- Torr and micron keep every digit, there and back, but at an end stop
    ∷ on362 (line "UNI,1" ∷ line "SP1,0,1.2345E-20,6.7891E17" ∷ asks "UNI,3" ∷ asks "SP1" ∷ asks "UNI,1" ∷ asks "SP1" ∷ []) (ack_line ++ ack_line ++ replies ("3" ∷ "0,1.2345E-17,6.7891E+20" ∷ "1" ∷ "0,1.2345E-20,6.7891E+17" ∷ []))
    ∷ follow "UNI,1" "1.2345E17,1.2345E18" "UNI,3" "1.2345E+20,9.9999E+20"
    -- mbar is hPa, and a unit is itself
    ∷ follow "UNI,4" "1.3333,9.9999" "UNI,0" "1.3333E+00,9.9999E+00"
    ∷ follow "UNI,3" "1.3333,9.9999" "UNI,3" "1.3333E+00,9.9999E+00"
    -- going back does not restore
    ∷ on362 (line "SP1,0,1.3333,1" ∷ line "UNI,1" ∷ asks "SP1" ∷ line "UNI,4" ∷ asks "SP1" ∷ []) (ack_line ++ ack_line ++ replies ("0,1.0001E+00,7.5006E-01" ∷ []) ++ ack_line ++ replies ("0,1.3334E+00,1.0000E+00" ∷ []))
    -- all eight, whatever the assignment
    ∷ on362 (line "SP1,0,1,2" ∷ line "SP2,1,3,4" ∷ line "SP3,2,5,6" ∷ line "SP4,3,7,8" ∷ line "UNI,2" ∷ map asks ("SP1" ∷ "SP2" ∷ "SP3" ∷ "SP4" ∷ []))
    (ack_line ++ ack_line ++ ack_line ++ ack_line ++ ack_line ++ replies ("0,1.0000E+02,2.0000E+02" ∷ "1,3.0000E+02,4.0000E+02" ∷ "2,5.0000E+02,6.0000E+02" ∷ "3,7.0000E+02,8.0000E+02" ∷ []))
    -- the saved set is untouched, a power cycle takes unit and digits together, and SAV,0 stores the defaults' digits
    ∷ on362 (line "SP1,0,1,2" ∷ line "SAV,1" ∷ line "UNI,2" ∷ asks "SP1" ∷ cycle ∷ asks "UNI" ∷ asks "SP1" ∷ [])
    (ack_line ++ ack_line ++ ack_line ++ replies ("0,1.0000E+02,2.0000E+02" ∷ "4" ∷ "0,1.0000E+00,2.0000E+00" ∷ []))
    ∷ on362 (line "UNI,2" ∷ line "SAV,1" ∷ cycle ∷ asks "SP1" ∷ line "SAV,0" ∷ cycle ∷ asks "UNI" ∷ asks "SP1" ∷ [])
    (ack_line ++ ack_line ++ replies ("0,1.0000E-07,9.0000E-05" ∷ []) ++ ack_line ++ replies ("4" ∷ "0,1.0000E-09,9.0000E-07" ∷ []))
    -- a refused line changes nothing, and a question neither
    ∷ on362 (line "UNI,5" ∷ line "UNI,," ∷ line "UNI," ∷ line "UNI,2,2" ∷ asks "UNI" ∷ asks "SP1" ∷ []) (nak_line ++ nak_line ++ nak_line ++ nak_line ++ replies ("4" ∷ "0,1.0000E-09,9.0000E-07" ∷ []))
    -- a switch waits for the next reading: 1.3333 hPa is 1.0001 Torr and not below that, but below 1.3334 hPa
    ∷ on362 (line "UNI,1" ∷ line "SP1,2,1.0001,2" ∷ linear 1 (pos 13333) (pos 0) ∷ line "UNI,4" ∷ asks "SPS" ∷ linear 1 (pos 13333) (pos 0) ∷ enq_call ∷ [])
    (ack_line ++ ack_line ++ ack_line ++ replies ("0,0,0,0" ∷ []) ++ reply "1,0,0,0")
    -- and then by the new thresholds: 2.0001 hPa is 1.5002 Torr, above 2 hPa as 1.5001 and below 2 Torr
    ∷ on362 (line "SP1,2,1,2" ∷ linear 1 (pos 50000) (negsuc 0) ∷ line "UNI,1" ∷ asks "SPS" ∷ linear 1 (pos 20001) (pos 0) ∷ enq_call ∷ [])
    (ack_line ++ ack_line ++ replies ("1,0,0,0" ∷ []) ++ reply "0,0,0,0")
    -- a 262, from mbar
    ∷ on262 (line "SP4,1,1,760" ∷ line "UNI,1" ∷ asks "SP4" ∷ line "UNI,2" ∷ asks "SP4" ∷ []) (ack_line ++ ack_line ++ replies ("1,7.5006E-01,5.7005E+02" ∷ []) ++ ack_line ++ replies ("1,1.0000E+02,7.6000E+04" ∷ []))
    ∷ []

pub followed_hold : Hold followed
unfolding bare less is_below is_above climb_within digits power rounded fitted_to scaled_by held_within multiplied_by lead rest head_is value number_of behind_point factor_of after_plus after_sign power_of composed fraction after_fraction threshold_of scientific within_limits switched every known same found sheet recognised answers switching_entry stored_entry cells_fit within fields limited fields_read formed valued with_fields judged setting_text grown ticked kind_of concluded is_err asked by_kind heard line_within port_within measured written instrument_within each_channel reply_text stream_text state_within event_text next sent after said taken admits roomed roomed_bytes hosted tick_text counted after_ticks ticks_text reading_call cycle_call
followed_hold = refl

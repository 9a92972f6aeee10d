-- Lines and the verdicts on them, as one statement over a list; and a reply of CF1 sent back is refused.
use Rattle.std.specs.Prelude.{Ok, Err}
use Prim.Native.Nat.{ℕ, zero, suc, ◌<◌}
use Prim.Native.Char.{code}
use Prim.Native.String.{String}
use mathlib.Core.Path.{◌≡◌, refl}
use mathlib.Core.List.{List, [], ◌∷◌, ◌++◌, map}
use native.Mathlib.Omega.{arith}
use borrow.Author.Tests.{lt-ltb}
use lib.ListN.{length, take}
use Rattle.text.specs.Text.{ascii}
use Rattle.text.specs.Digits.{dig, bare}
use Rattle.numbers.specs.Rounding.{climb_within, digits, power, rounded, fitted_to}
use Rattle.numerals.specs.Runs.{lead, rest, head_is, value}
use Rattle.numerals.specs.Whole.{number_of, behind_point, factor_of}
use Rattle.numerals.specs.Exponential.{after_plus, after_sign, power_of, composed, fraction, after_fraction, threshold_of}
use Rattle.numerals.specs.Writing.{scientific}
use Rattle.settings.specs.Rows.{listed}
use Rattle.settings.specs.Table.{switching_entry, stored_entry, kinds, cells}
use Rattle.settings.specs.Mnemonics.{setting, known, name, same, found, recognised}
use Rattle.settings.specs.declared.model.Model.{Model}
use Rattle.settings.specs.declared.model.Model.TheVariants.{Tpg361, Tpg362, Tpg262}
use Rattle.settings.specs.declared.mnemonic.Setting.TheVariants.{Cal}
use Rattle.settings.specs.declared.mnemonic.Replying.TheVariants.{Cf}
use Rattle.settings.specs.declared.mnemonic.Mnemonic.TheVariants.{OfReplying}
use Rattle.settings.specs.declared.Settings.{Settings}
use Rattle.settings.proofs.Sheets.{known_at}
use Rattle.lines.specs.Splitting.{fields, joined}
use Rattle.lines.specs.Words.{error_word}
use Rattle.lines.specs.Fields.{limited}
use Rattle.lines.specs.Judging.{fields_read, formed, valued, with_fields, judged}
use Rattle.lines.specs.Replies.{texts, setting_text, factors_text}
use Rattle.lines.specs.declared.verdict.Fault.TheVariants.{Syntax}
use Rattle.lines.proofs.Accepted.{Spelt, all_spelt, line_fields, plain_texts}
use Rattle.lines.specs.declared.verdict.Order.TheVariants.{Asks, Writes}
use Rattle.lines.specs.Verdicts.{Verdict}

-- a verdict in words: what it asks for, what it writes as a reply would say it, or the error word
abbrev pub says : Model → Verdict → List ℕ
says model (Ok (Asks a)) = ascii "asks " ++ name (OfReplying a)
says model (Ok (Writes m r)) =
    ascii "writes " ++ joined (name m ∷ texts (kinds model m) (take (length (kinds model m)) (listed r)))
says model (Err x) = dig 4 (error_word x)

pub record Line : Type 0 where
  pub model : Model
  pub sent : String
  pub said : String

abbrev pub on : Model → String → String → Line
on model s t = record { model = model; sent = s; said = t }

abbrev pub lines : List Line
lines =
    -- readings of the manual that are wrong: nothing is stored of a line with a fault
    on Tpg362 "SP1,2,1E-3," "0001"
    -- what needs channel 2 on a 361
    ∷ on Tpg361 "ERA,3" "0100"
    ∷ on Tpg361 "CF2" "0100"
    ∷ on Tpg361 "CF2,," "0100"
    ∷ on Tpg361 "SP1,3,0,1" "0100"
    ∷ on Tpg361 "SP1,4,1,1" "0010"
    ∷ on Tpg361 "SP1,3,,1" "0001"
    -- the mnemonic and its end
    ∷ on Tpg362 "" "0001"
    ∷ on Tpg362 "FIL" "asks FIL"
    ∷ on Tpg362 "FILX" "0001"
    ∷ on Tpg362 "FOL,1,2" "0001"
    ∷ on Tpg362 "uni" "0001"
    -- fields and their limits
    ∷ on Tpg362 "UNI,5" "0010"
    ∷ on Tpg362 "NAD,0" "0010"
    ∷ on Tpg362 "DCS,6" "writes DCS,6"
    ∷ on Tpg362 "PRX,1" "0001"
    -- only COM and SAV have a default, and an empty field is none
    ∷ on Tpg362 "COM" "writes COM,1"
    ∷ on Tpg362 "SAV" "writes SAV,0"
    ∷ on Tpg362 "COM," "0001"
    ∷ []

-- W-201: the limits of a 262 on either side
abbrev pub older_lines : List Line
older_lines =
    map (λ (t : String × String). on Tpg262 t.0 t.1)
    (("UNI,2", "writes UNI,2") ∷ ("UNI,3", "0010")
    ∷ ("FIL,2,0", "writes FIL,2,0") ∷ ("FIL,3,0", "0010") ∷ ("FIL,0,3", "0010") ∷ ("FIL,,1", "0001")
    ∷ ("CAL,0.100,9.985", "writes CAL,0.100,9.985") ∷ ("CAL,9.990,1", "writes CAL,9.990,1.000") ∷ ("CAL,9.991,1", "0010") ∷ ("CAL,1,0.099", "0010") ∷ ("CAL,10,1", "0010")
    ∷ ("DCD,2", "writes DCD,2") ∷ ("DCD,3", "writes DCD,3") ∷ ("DCD,1", "0010") ∷ ("DCD,4", "0010") ∷ ("DCD,2,2", "0001") ∷ ("DCD,", "0001")
    ∷ ("SP1,0,1,2", "writes SP1,0,1.0000E+00,2.0000E+00") ∷ ("SP4,1,1,2", "writes SP4,1,1.0000E+00,2.0000E+00") ∷ ("SP1,2,1,2", "0010") ∷ ("SP1,3,1,2", "0010")
    ∷ ("PUC,1,0", "writes PUC,1,0") ∷ ("PUC,0,2", "0010") ∷ ("PUC,1", "0001") ∷ ("PUC,1,", "0001")
    ∷ ("DIC,1", "writes DIC,1") ∷ ("DIC,2", "0010") ∷ ("SCT,1", "writes SCT,1") ∷ ("SCT,2", "0010") ∷ ("WDT,0", "writes WDT,0") ∷ ("WDT,2", "0010")
    ∷ ("TLC,1", "writes TLC,1") ∷ ("TLC,2", "0010") ∷ ("LOC,1", "writes LOC,1") ∷ ("LOC,2", "0010") ∷ ("LOC,", "0001")
    ∷ ("PNR", "asks PNR") ∷ ("PNR,1", "0001") ∷ ("PR2", "asks PR2") ∷ ("COM", "writes COM,1") ∷ [])

-- what each does not know, 0001 whatever follows
abbrev unknown : Model → List String → List Line
unknown model = map (λ (s : String). on model s "0001")

abbrev pub unknown_lines : List Line
unknown_lines =
    unknown Tpg262 ("CF1" ∷ "CF2" ∷ "AYT" ∷ "ERA" ∷ "EVA" ∷ "FMT" ∷ "LNG" ∷ "NAD" ∷ "PRE" ∷ "PRO" ∷ "DCS" ∷ "BAU" ∷ "SEN" ∷ [])
    ++ (unknown Tpg262 ("CF1,1" ∷ "CF2,1" ∷ "AYT," ∷ "ERA,0" ∷ "EVA,0" ∷ "FMT,0" ∷ "LNG,0" ∷ "NAD,1" ∷ "PRE,0" ∷ "PRO,0" ∷ "DCS,0" ∷ "BAU,1" ∷ "SEN,0,0" ∷ [])
    ++ (unknown Tpg361 ("DIC" ∷ "SCT" ∷ "WDT" ∷ "TLC" ∷ "LOC" ∷ "PNR" ∷ [])
    ++ unknown Tpg362 ("DIC,0" ∷ "SCT,0" ∷ "WDT,1" ∷ "TLC,0" ∷ "LOC,0" ∷ "PNR" ∷ [])))

abbrev pub answers : List Line → List (List ℕ)
answers = map (λ (l : Line). says l.model (judged l.model (ascii l.sent)))

abbrev pub expected : List Line → List (List ℕ)
expected = map (λ (l : Line). ascii l.said)

abbrev Hold : List Line → Type 0
Hold ls = answers ls ≡ expected ls

pub lines_hold : Hold lines
unfolding bare climb_within digits power rounded fitted_to lead rest head_is value number_of after_plus after_sign power_of composed fraction after_fraction threshold_of known same found recognised switching_entry stored_entry fields limited fields_read formed valued with_fields judged
lines_hold = refl

pub older_lines_hold : Hold older_lines
unfolding bare climb_within digits power rounded fitted_to lead rest head_is value number_of behind_point factor_of after_plus after_sign power_of composed fraction after_fraction threshold_of scientific known same found recognised switching_entry stored_entry fields limited fields_read formed valued with_fields judged
older_lines_hold = refl

pub unknown_lines_hold : Hold unknown_lines
unfolding known same found recognised switching_entry stored_entry fields judged
unknown_lines_hold = refl

-- ---- "Sending a CF1 reply back as CF1: two fields on a 362, refused."

factor_spelt : (k : ℕ) → k < 2 → Spelt Tpg362 (OfReplying (Cf k))
factor_spelt zero h = known_at (Spelt Tpg362) Tpg362 (all_spelt Tpg362) 22 refl
factor_spelt (suc zero) h = known_at (Spelt Tpg362) Tpg362 (all_spelt Tpg362) 23 refl
factor_spelt (suc (suc k)) h = absurd (omega arith)

pub factors_refused : (s : Settings) (k : ℕ) → k < 2 → judged Tpg362 (name (OfReplying (Cf k)) ++ (code "," ∷ factors_text Tpg362 s)) ≡ Err Syntax
unfolding setting_text with_fields
factors_refused s k h =
    let ks = kinds Tpg362 (setting Cal) in
    let cs = cells Tpg362 s Cal in
    line_fields Tpg362 (OfReplying (Cf k)) (factor_spelt k h) (texts ks cs) (lt-ltb k 2 h) (plain_texts ks cs)

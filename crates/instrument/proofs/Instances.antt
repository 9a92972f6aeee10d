-- What the definitions give where docs/promises/ names a wrong answer.
use Rattle.std.specs.Prelude.{Ok}
use Prim.Native.Nat.{ℕ, ◌≤◌, ◌<◌}
use mathlib.Core.Path.{◌≡◌, refl}
use mathlib.Core.List.{List, [], ◌∷◌, ◌++◌, map}
use mathlib.Core.Bool.{Bool, true, false, and-eq-true_iff}
use native.Mathlib.Omega.{arith}
use borrow.Author.Tests.{eqb-true, lt-leb}
use lib.Dec.{eqb}
use lib.ListN.{get_or, replicate}
use lib.Seq.{get_or-set_same}
use Rattle.text.specs.Text.{ascii}
use Rattle.text.specs.Digits.{binary}
use Rattle.text.specs.Control.{cr_lf}
use Rattle.gauges.specs.Readings.{no_reading, within_limits, zero_value}
use Rattle.gauges.specs.Shown.{shown_of}
use Rattle.gauges.specs.declared.reading.Reading.{Reading}
use Rattle.settings.specs.Models.{starts_on}
use Rattle.settings.specs.Rows.{first_number, with_unit}
use Rattle.settings.specs.Table.{defaults}
use Rattle.settings.specs.Mnemonics.{setting}
use Rattle.settings.specs.Limits.{within}
use Rattle.settings.specs.declared.model.Model.{Model}
use Rattle.settings.specs.declared.model.Model.TheVariants.{Tpg361, Tpg362}
use Rattle.settings.specs.declared.mnemonic.Setting.TheVariants.{Uni, Sp}
use Rattle.settings.specs.declared.mnemonic.Query.TheVariants.{Sps, Prx, Ayt}
use Rattle.settings.specs.declared.mnemonic.Replying.TheVariants.{OfQuery}
use Rattle.settings.specs.declared.mnemonic.Mnemonic.TheVariants.{Sav}
use Rattle.settings.specs.declared.rows.Row.{Row}
use Rattle.settings.specs.declared.Settings.{Settings}
use Rattle.settings.proofs.Every.{models}
use Rattle.settings.proofs.Storing.{unit_stored}
use Rattle.lines.specs.declared.word.Word.{Word}
use Rattle.instrument.specs.Events.{function_at, is_on, started, following, measured, written, applied}
use Rattle.instrument.specs.Limits.{gauge_within, instrument_within, InstrumentShaped}
use Rattle.instrument.specs.Replies.{shown_at, each_channel, reply_text, stream_text}
use Rattle.instrument.specs.declared.Instrument.{Instrument}
use Rattle.instrument.proofs.InstrumentLimits.{four_at, instrument_parts}
use Rattle.lines.specs.declared.verdict.Order.TheVariants.{Writes}

-- ---- power-on and a reading

-- each switch starts by its own function's assignment
pub started_switch : (model : Model) (serial : ℕ) (saved : Settings) (i : ℕ) → i ≤ 3
    → is_on (started model serial saved) i ≡ starts_on model (function_at saved i).assignment
started_switch model serial saved i h = four_at (λ i. starts_on model (function_at saved i).assignment) i h

module _ (s : Instrument) (channel : ℕ) (r : Reading) where
  pub measured_held : InstrumentShaped s → channel < 2 → get_or (measured s channel r).readings channel no_reading ≡ r
  unfolding measured
  measured_held t h = get_or-set_same s.readings channel r no_reading (omega (arith, t.readings))

  -- each switch is moved by its own function
  pub measured_switch : (i : ℕ) → i ≤ 3
      → is_on (measured s channel r) i ≡ following s.model channel (shown_of r s.settings.unit) (function_at s.settings i) (is_on s i)
  unfolding measured
  measured_switch i h = four_at (λ i. following s.model channel (shown_of r s.settings.unit) (function_at s.settings i) (is_on s i)) i h

-- ---- a line

module _ (s : Instrument) (r : Row) where
  pub unit_written : (applied s (Ok (Writes (setting Uni) r))).settings ≡ with_unit s.settings (first_number r)
  unfolding written
  unit_written = unit_stored s.model s.settings r

  pub sav_zero : first_number r ≡ 0 → (applied s (Ok (Writes Sav r))).saved ≡ defaults s.model
  unfolding written
  sav_zero e = rw e

  pub assigned_starts : (k : ℕ) → InstrumentShaped s → k ≤ 3 → is_on (applied s (Ok (Writes (setting (Sp k)) r))) k ≡ starts_on s.model (first_number r)
  unfolding written
  assigned_starts k t h = get_or-set_same s.switches k (starts_on s.model (first_number r)) false (omega (arith, t.switches))

-- ---- replies

-- the serial number has eight digits, a short one too
module _ (saved : Settings) (error : Word) where
  abbrev identity : Model → ℕ → List ℕ
  identity model serial = reply_text (started model serial saved) error (OfQuery Ayt)

  pub identities : identity Tpg362 44990000 ∷ identity Tpg361 7 ∷ []
      ≡ map (λ (t : List ℕ). t ++ cr_lf) (ascii "TPG362,PTG28290,44990000,010100,010100" ∷ ascii "TPG361,PTG28040,00000007,010100,010100" ∷ [])
  unfolding reply_text
  identities = refl

module _ (s : Instrument) where
  pub switches_reply : (error : Word) (a b c d : Bool) → s.switches ≡ a ∷ b ∷ c ∷ d ∷ []
      → reply_text s error (OfQuery Sps) ≡ binary a ∷ 44 ∷ binary b ∷ 44 ∷ binary c ∷ 44 ∷ binary d ∷ cr_lf
  unfolding reply_text
  switches_reply error a b c d e = rw e

  pub prx_as_stream : (error : Word) → reply_text s error (OfQuery Prx) ≡ stream_text s
  unfolding reply_text stream_text
  prx_as_stream error = refl

  abbrev shown : ℕ → List ℕ
  shown = shown_at s.settings.unit s.readings

  pub stream_of_two : s.model ≡ Tpg362 → stream_text s ≡ (shown 0 ++ 44 ∷ shown 1) ++ cr_lf
  unfolding stream_text each_channel
  stream_of_two e = rw e

  pub stream_of_one : s.model ≡ Tpg361 → stream_text s ≡ shown 0 ++ cr_lf
  unfolding stream_text each_channel
  stream_of_one e = rw e

-- ---- the limits

module _ (s : Instrument) where
  pub saved_within : instrument_within s ≡ true → within s.model s.saved ≡ true
  saved_within w = (instrument_parts s w).saved

  pub second_absent : s.model ≡ Tpg361 → instrument_within s ≡ true → (get_or s.readings 1 no_reading).kind ≡ 6
  second_absent e w =
      let r = get_or s.readings 1 no_reading in
      let h : eqb r.kind 6 ≡ true = ((and-eq-true_iff (gauge_within Tpg361 r) (eqb r.kind 6)).0 (rw e at ((instrument_parts s w).readings 1 (omega arith)))).1 in
      eqb-true r.kind 6 h

  pub long_serial : 99999999 < s.serial → instrument_within s ≡ false
  unfolding instrument_within
  long_serial h = rw (lt-leb s.serial 99999999 h)

-- kinds 8 and 9 with good data, and kind 8 without a sensor: a 262 has kind 8, and none is without a sensor but kind 6
abbrev kind_given : ℕ → ℕ → List Bool
kind_given kind status = map (λ (m : Model). gauge_within m (record { kind = kind; status = status; value = zero_value })) models

pub eighth_kind : kind_given 7 6 ∷ kind_given 8 0 ∷ kind_given 8 5 ∷ kind_given 9 0 ∷ []
    ≡ replicate 3 true ∷ (false ∷ false ∷ true ∷ []) ∷ replicate 3 false ∷ replicate 3 false ∷ []
unfolding within_limits
eighth_kind = refl

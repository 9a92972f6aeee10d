-- Every event keeps the limits of the instrument and the lengths of its arrays, and a refused line changes nothing.
use Rattle.std.specs.Prelude.{Ok, Err}
use Prim.Native.Nat.{ℕ, ◌+◌, ◌≤◌, ◌<◌}
use mathlib.Core.Path.{◌≡◌, refl, sym, ap, subst}
use mathlib.Core.List.{List, [], ◌∷◌}
use mathlib.Core.Bool.{Bool, beq, true, false, ◌&&◌, and-eq-true_iff}
use mathlib.Core.Logic.{◌≢◌, ⊎_elim}
use mathlib.Mathlib.Data.Bool.Basic.{dichotomy}
use native.Mathlib.Omega.{arith}
use borrow.Author.Tests.{eqb-true, eqb-false, lt-ltb, le-leb}
use lib.Dec.{eqb, leb, ltb}
use lib.ListN.{length, get_or, set, length-set}
use lib.Seq.{get_or-set_same, get_or-set_other}
use Rattle.ground.proofs.Tables.{tabled}
use Rattle.ground.proofs.Ranges.{upto, upto_each, each_upto}
use Rattle.ground.proofs.Cases.{or_right, cond_cases}
use Rattle.ground.proofs.Members.{each_at}
use Rattle.gauges.specs.Readings.{no_reading}
use Rattle.gauges.specs.Shown.{shown_of, switched}
use Rattle.gauges.specs.declared.reading.Reading.{Reading}
use Rattle.gauges.specs.declared.shown.Shown.{Shown}
use Rattle.gauges.proofs.ReadingLimits.{none_within}
use Rattle.settings.specs.Models.{channels, first_following, starts_on, follows, agrees}
use Rattle.settings.specs.Kinds.{gauge_kinds}
use Rattle.settings.specs.Rows.{first_number, switching_of, mixed, no_switching, row, with_unit}
use Rattle.settings.specs.Table.{TableRow, kinds_of, defaults, field_count, stored}
use Rattle.settings.specs.Mnemonics.{setting}
use Rattle.settings.specs.Limits.{within, SettingsShaped}
use Rattle.settings.specs.declared.model.Model.{Model}
use Rattle.settings.specs.declared.mnemonic.Setting.TheVariants.{Uni, Cal, Sp, Stored}
use Rattle.settings.specs.declared.mnemonic.Replying.TheVariants.{OfSetting, Cf, OfQuery}
use Rattle.settings.specs.declared.mnemonic.Mnemonic.{Mnemonic}
use Rattle.settings.specs.declared.mnemonic.Mnemonic.TheVariants.{OfReplying, Com, Sav}
use Rattle.settings.specs.declared.rows.Row.{Row}
use Rattle.settings.specs.declared.Switching.{Switching}
use Rattle.settings.specs.declared.Settings.{Settings}
use Rattle.settings.proofs.Every.{channels_few}
use Rattle.settings.proofs.KindNames.{absent_kind}
use Rattle.settings.proofs.Storing.{function_in, unit_stored}
use Rattle.settings.proofs.Tabled.{switching_there}
use Rattle.settings.proofs.StoredLimits.{defaults_within, defaults_shaped}
use Rattle.lines.specs.Judging.{judged, effect}
use Rattle.lines.specs.declared.verdict.Fault.{Fault}
use Rattle.lines.proofs.WrittenLimits.{effect_shaped, effect_within}
use Rattle.instrument.specs.Events.{each_four, function_at, is_on, started, following, measured, saved_by, switches_by, written, applied}
use Rattle.instrument.specs.Limits.{gauge_within, reading_within, switch_within, serial_within, instrument_within, InstrumentShaped}
use Rattle.instrument.specs.declared.Instrument.{Instrument}
use Rattle.lines.specs.declared.verdict.Order.TheVariants.{Asks, Writes}
use Rattle.lines.specs.Verdicts.{Verdict}

-- ---- the limits, part by part

module _ (s : Instrument) where
  -- the reading of a channel
  abbrev pub reading : ℕ → Bool
  reading k = reading_within s.model k (get_or s.readings k no_reading)

  -- the status of a switching function
  abbrev pub status : ℕ → Bool
  status = switch_within s.model s.settings.switching s.switches

  pub record Parts : Type 0 where
    pub serial : serial_within s.serial ≡ true
    pub settings : within s.model s.settings ≡ true
    pub saved : within s.model s.saved ≡ true
    pub readings : (k : ℕ) → k ≤ 1 → reading k ≡ true
    pub switches : (i : ℕ) → i ≤ 3 → status i ≡ true

  pub instrument_parts : instrument_within s ≡ true → Parts
  unfolding instrument_within
  instrument_parts w =
      let a = (and-eq-true_iff (serial_within s.serial) _).0 w in
      let b = (and-eq-true_iff (within s.model s.settings && within s.model s.saved) _).0 a.1 in
      let c = (and-eq-true_iff (within s.model s.settings) (within s.model s.saved)).0 b.0 in
      let d = (and-eq-true_iff (upto 1 reading) (upto 3 status)).0 b.1 in
      record { serial = a.0; settings = c.0; saved = c.1; readings = upto_each 1 reading d.0; switches = upto_each 3 status d.1 }

  together : Parts → instrument_within s ≡ true
  unfolding instrument_within
  together p =
      let r = each_upto 1 reading p.readings in
      let o = each_upto 3 status p.switches in
      rw (p.serial, p.settings, p.saved, r) o

-- ---- power-on

-- a status as it starts agrees with its assignment
starts_agree : (model : Model) (a : ℕ) → agrees model a (starts_on model a) ≡ true
starts_agree model a = or_right (leb (first_following model) a) (beq (starts_on model a) (starts_on model a)) (self (starts_on model a))
  where
    self : (b : Bool) → beq b b ≡ true
    self true = refl
    self false = refl

-- one of the four
pub four_at : (f : ℕ → Bool) (i : ℕ) → i ≤ 3 → get_or (each_four f) i false ≡ f i
four_at f i h = sym (tabled f 4 (each_four f) refl i false (omega arith))

module _ (model : Model) (serial : ℕ) (saved : Settings) where
  pub started_shaped : SettingsShaped saved → InstrumentShaped (started model serial saved)
  started_shaped sh = record { settings = sh; saved = sh; readings = refl; switches = refl }

  pub started_within : serial_within serial ≡ true → within model saved ≡ true → instrument_within (started model serial saved) ≡ true
  started_within n w =
      together (started model serial saved)
      (record { serial = n; settings = w; saved = w; readings = (λ k h. none k); switches = on })
    where
      none : (k : ℕ) → reading_within model k (get_or (no_reading ∷ no_reading ∷ []) k no_reading) ≡ true
      none k =
          rw (each_at (λ r. r ≡ no_reading) (no_reading ∷ no_reading ∷ []) no_reading refl (refl, (refl, tt)) k, none_within (gauge_kinds model) (absent_kind model))
          (or_right (ltb k (channels model)) true refl)

      on : (i : ℕ) → i ≤ 3 → status (started model serial saved) i ≡ true
      on i h = rw (four_at (λ i. starts_on model (function_at saved i).assignment) i h) (starts_agree model (function_at saved i).assignment)

-- ---- a reading

module _ (s : Instrument) (channel : ℕ) (r : Reading) (t : InstrumentShaped s) where
  pub measured_shaped : InstrumentShaped (measured s channel r)
  unfolding measured
  measured_shaped =
      record { settings = t.settings; saved = t.saved; readings = rw (length-set s.readings channel r) t.readings; switches = refl }

  -- a switching function that follows a channel agrees in both states, and any other keeps its own
  following_agrees : (shown : Shown) (w : Switching) (was : Bool) → agrees s.model w.assignment was ≡ true
      → agrees s.model w.assignment (following s.model channel shown w was) ≡ true
  following_agrees shown w was h =
      cond_cases (λ (b : Bool). agrees s.model w.assignment b ≡ true) (follows s.model w.assignment channel)
      (switched shown w.lower w.upper was) was
      (λ e. rw (le-leb (first_following s.model) w.assignment (omega (arith, eqb-true w.assignment (channel + first_following s.model) e)))) (λ _. h)

  pub measured_within : instrument_within s ≡ true → channel < channels s.model → gauge_within s.model r ≡ true → instrument_within (measured s channel r) ≡ true
  unfolding measured
  measured_within w c l =
      let p = instrument_parts s w in
      together (measured s channel r)
      (record {
        serial = p.serial;
        settings = p.settings;
        saved = p.saved;
        readings = (λ k h. read k (p.readings k h));
        switches = (λ i h. rw (four_at (λ i. following s.model channel (shown_of r s.settings.unit) (function_at s.settings i) (is_on s i)) i h)
            (following_agrees (shown_of r s.settings.unit) (function_at s.settings i) (is_on s i) (p.switches i h)));
      })
    where
      own : reading_within s.model channel (get_or (set s.readings channel r) channel no_reading) ≡ true
      own =
          rw (get_or-set_same s.readings channel r no_reading (omega (arith, channels_few s.model, t.readings)), l, lt-ltb channel (channels s.model) c)

      read : (k : ℕ) → reading s k ≡ true → reading_within s.model k (get_or (set s.readings channel r) k no_reading) ≡ true
      read k h =
          ⊎_elim (λ (n : eqb k channel ≡ false). rw (get_or-set_other s.readings channel k r no_reading (eqb-false k channel n)) h)
          (λ (e : eqb k channel ≡ true). rw (eqb-true k channel e) own) (dichotomy (eqb k channel))

-- ---- a line

module _ (s : Instrument) (r : Row) where
  -- what holds of the settings, of the saved set and of the defaults holds of what is saved
  saved_keeps : (P : Settings → Type 0) → P s.settings → P s.saved → P (defaults s.model) → (m : Mnemonic) → P (saved_by s m r)
  saved_keeps P a b d (OfReplying m) = b
  saved_keeps P a b d Com = b
  saved_keeps P a b d Sav = cond_cases P (eqb (first_number r) 0) (defaults s.model) s.settings (λ _. d) (λ _. a)

  -- only SPx moves a switch, and the switching function beside it; UNI takes all functions to the unit
  moved_by : (P : List Switching → List Bool → Type 0) → P s.settings.switching s.switches
      → P (with_unit s.settings (first_number r)).switching s.switches
      → ((k : ℕ) → P (stored s.model s.settings (setting (Sp k)) r).switching (set s.switches k (starts_on s.model (first_number r))))
      → (m : Mnemonic) → P (stored s.model s.settings m r).switching (switches_by s m r)
  moved_by P same unit moved (OfReplying (OfSetting (Sp k))) = moved k
  moved_by P same unit moved (OfReplying (OfSetting Uni)) = subst (λ (t : Settings). P t.switching s.switches) (sym (unit_stored s.model s.settings r)) unit
  moved_by P same unit moved (OfReplying (OfSetting Cal)) = same
  moved_by P same unit moved (OfReplying (OfSetting (Stored k))) = same
  moved_by P same unit moved (OfReplying (Cf k)) = same
  moved_by P same unit moved (OfReplying (OfQuery q)) = same
  moved_by P same unit moved Com = same
  moved_by P same unit moved Sav = same

  switches_count : (m : Mnemonic) → length (switches_by s m r) ≡ length s.switches
  switches_count = moved_by (λ ws on. length on ≡ length s.switches) refl refl (λ k. length-set s.switches k (starts_on s.model (first_number r)))

  module _ (t : InstrumentShaped s) (i : ℕ) (l : i ≤ 3) (h : status s i ≡ true) where
    -- after SPx that switching function is as it starts, and the others are as they were
    assigned : (k : ℕ) (w : Switching) → (k < 4 → w.assignment ≡ first_number r)
        → switch_within s.model (set s.settings.switching k w) (set s.switches k (starts_on s.model (first_number r))) i ≡ true
    assigned k w a = ⊎_elim (λ (n : eqb i k ≡ false). other (eqb-false i k n)) (λ (e : eqb i k ≡ true). same (eqb-true i k e)) (dichotomy (eqb i k))
      where
        on : Bool
        on = starts_on s.model (first_number r)

        same : i ≡ k → switch_within s.model (set s.settings.switching k w) (set s.switches k on) i ≡ true
        same e =
            rw (
              e,
              get_or-set_same s.settings.switching k w no_switching (omega (arith, t.settings.switching)),
              get_or-set_same s.switches k on false (omega (arith, t.switches)),
              a (omega arith),
            )
            (starts_agree s.model (first_number r))

        other : i ≢ k → switch_within s.model (set s.settings.switching k w) (set s.switches k on) i ≡ true
        other n =
            rw (get_or-set_other s.settings.switching k i w no_switching n, get_or-set_other s.switches k i on false n) h

    -- a switching function has all three fields
    assignment_is : (k : ℕ) → k < 4 → first_number (mixed (field_count s.model (Sp k)) r (row s.settings (Sp k))) ≡ first_number r
    assignment_is k g =
        ap (λ (e : TableRow). first_number (mixed (length (kinds_of (e.fields s.model))) r (row s.settings (Sp k)))) (switching_there k g)

    written_agrees : (m : Mnemonic) → switch_within s.model (stored s.model s.settings m r).switching (switches_by s m r) i ≡ true
    written_agrees =
        moved_by (λ ws on. switch_within s.model ws on i ≡ true) h (rw (function_in s.settings (first_number r) i) h)
        (λ k. assigned k (switching_of (mixed (field_count s.model (Sp k)) r (row s.settings (Sp k)))) (assignment_is k))

module _ (s : Instrument) where
  pub applied_shaped : (v : Verdict) → InstrumentShaped s → InstrumentShaped (applied s v)
  unfolding written
  applied_shaped (Ok (Asks m)) t = t
  applied_shaped (Ok (Writes m r)) t =
      record {
        settings = effect_shaped s.model s.settings t.settings (Ok (Writes m r));
        saved = saved_keeps s r SettingsShaped t.settings t.saved (defaults_shaped s.model) m;
        readings = t.readings;
        switches = rw (switches_count s r m) t.switches;
      }
  applied_shaped (Err x) t = t

  written_within : (line : List ℕ) (m : Mnemonic) (r : Row) → InstrumentShaped s → instrument_within s ≡ true → judged s.model line ≡ Ok (Writes m r)
      → instrument_within (written s m r) ≡ true
  unfolding written
  written_within line m r t w e =
      let p = instrument_parts s w in
      together (written s m r)
      (record {
        serial = p.serial;
        settings = subst (λ v. within s.model (effect s.model s.settings v) ≡ true) e (effect_within s.model s.settings t.settings line p.settings);
        saved = saved_keeps s r (λ x. within s.model x ≡ true) p.settings p.saved (defaults_within s.model) m;
        readings = p.readings;
        switches = (λ i h. written_agrees s r t i h (p.switches i h) m);
      })

  pub applied_within : (line : List ℕ) → InstrumentShaped s → instrument_within s ≡ true → instrument_within (applied s (judged s.model line)) ≡ true
  applied_within line t w = by (judged s.model line) refl
    where
      by : (v : Verdict) → judged s.model line ≡ v → instrument_within (applied s v) ≡ true
      by (Ok (Asks m)) e = w
      by (Ok (Writes m r)) e = written_within line m r t w e
      by (Err x) e = w

  -- a refused line changes nothing
  pub applied_refused : (line : List ℕ) (x : Fault) → judged s.model line ≡ Err x → applied s (judged s.model line) ≡ s
  applied_refused line x e = rw e

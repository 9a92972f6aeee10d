-- What an accepted line writes fits its fields, so it keeps the limits of the settings.
use Rattle.std.specs.Prelude.{Option, Some, None, Result, Ok, Err}
use Prim.Native.Nat.{ℕ, ◌≤◌, ◌<◌}
use mathlib.Core.Path.{◌≡◌, refl, sym, ap, ◌∙◌, subst}
use mathlib.Core.List.{List, [], ◌∷◌, map}
use mathlib.Core.Bool.{true, ◌&&◌}
use mathlib.Core.Logic.{◌≢◌}
use native.Mathlib.Omega.{arith}
use borrow.Author.Tests.{ltb-true, eqb-true}
use lib.ListN.{length, drop}
use lib.Dec.{eqb, leb}
use Rattle.ground.specs.Members.{Each}
use Rattle.ground.proofs.Cases.{cond_cases, never}
use Rattle.numbers.specs.declared.threshold.Threshold.{Threshold}
use Rattle.numerals.specs.Runs.{lead, rest, head_is}
use Rattle.numerals.specs.Whole.{number_of, whole_of, factor_of}
use Rattle.numerals.specs.Exponential.{after_plus, composed, fraction, after_fraction, threshold_of}
use Rattle.numerals.proofs.Stops.{read_within}
use Rattle.settings.specs.Models.{channels}
use Rattle.settings.specs.Rows.{plain, pair_row, listed, row_of}
use Rattle.settings.specs.Table.{entry, kinds, stored}
use Rattle.settings.specs.Mnemonics.{setting, known, name, same, found, recognised, is_there}
use Rattle.settings.specs.Limits.{inside, fits, cells_fit, within, SettingsShaped}
use Rattle.settings.specs.declared.model.Model.{Model}
use Rattle.settings.specs.declared.mnemonic.Mnemonic.{Mnemonic}
use Rattle.settings.specs.declared.mnemonic.Replying.TheVariants.{OfSetting, Cf, OfQuery}
use Rattle.settings.specs.declared.mnemonic.Mnemonic.TheVariants.{OfReplying, Com, Sav}
use Rattle.settings.specs.declared.table.Limits.{Limits}
use Rattle.settings.specs.declared.table.Kind.{Kind}
use Rattle.settings.specs.declared.table.Kind.TheVariants.{OfWhole, OfFactor, OfThreshold}
use Rattle.settings.specs.declared.rows.Row.{Row}
use Rattle.settings.specs.declared.Settings.{Settings}
use Rattle.settings.proofs.Tabled.{few_kinds}
use Rattle.settings.proofs.Storing.{Holding, stored_shaped}
use Rattle.settings.proofs.Sheets.{held_holding, known_each}
use Rattle.settings.proofs.StoredLimits.{Fitting, stored_within, factor_within}
use Rattle.lines.specs.Splitting.{fields}
use Rattle.lines.specs.Fields.{limited, ranged, threshold_field, read}
use Rattle.lines.specs.Judging.{fields_read, formed, valued, cell_of, judged_fields, alone, with_fields, named, parted, judged, effect}
use Rattle.lines.specs.declared.verdict.Fault.{Fault}
use Rattle.lines.specs.declared.verdict.Fault.TheVariants.{Syntax, Parameter, Hardware}
use Rattle.lines.proofs.Walking.{judged_parts}
use Rattle.lines.proofs.Accepted.{AllFit}
use Rattle.lines.proofs.Accepted.AllFit.{none, next}
use Rattle.numerals.specs.declared.exponential.ThresholdFault.{ThresholdFault}
use Rattle.numerals.specs.declared.exponential.ThresholdFault.TheVariants.{Malformed, OutOfRange}
use Rattle.lines.specs.declared.verdict.Order.TheVariants.{Asks, Writes}
use Rattle.lines.specs.Verdicts.{Field, Verdict}

-- ---- a field that is held

limited_fits : (l : Limits) (n : ℕ) (c : Threshold) → limited l n ≡ Ok c → inside l c ≡ true
unfolding limited
limited_fits l n c =
    cond_cases Fit (leb l.least n && leb n l.most) (Ok (plain n)) _
    (λ t e. let s : plain n ≡ c = cc in subst (λ x. inside l x ≡ true) s t)
    (λ _. cond_cases Fit (leb l.least n && leb n l.paired) (Err Hardware) (Err Parameter)
    (λ _ e. never (cc)) (λ _ e. never (cc)))
  where
    Fit : Field → Type 0
    Fit f = f ≡ Ok c → inside l c ≡ true

number_fits : (l : Limits) (n : Option ℕ) (c : Threshold) → ranged l n ≡ Ok c → inside l c ≡ true
number_fits l (Some n) c e = limited_fits l n c e
number_fits l None c e = never (cc)

threshold_held : (t : Result Threshold ThresholdFault) (c : Threshold) → threshold_field t ≡ Ok c → t ≡ Ok c
threshold_held (Ok d) c e = ap Ok (let s : d ≡ c = cc in s)
threshold_held (Err Malformed) c e = never (cc)
threshold_held (Err OutOfRange) c e = never (cc)

-- what a field reads is what it may hold
pub read_fits : (k : Kind) (s : List ℕ) (c : Threshold) → read k s ≡ Ok c → fits k c ≡ true
read_fits (OfWhole l) s c e = number_fits l (whole_of s) c e
read_fits (OfFactor l) s c e = number_fits l (factor_of s) c e
read_fits OfThreshold s c e = read_within s c (threshold_held (threshold_of s) c e)

-- ---- a line is accepted only if all its fields are held

Holds : Field → Type 0
Holds f = f ≡ Ok (cell_of f)

-- a verdict that refuses nothing
abbrev pub Accepting : Verdict → Type 0
Accepting u = (x : Fault) → u ≢ Err x

module _ (u : Verdict) (n : Accepting u) where
  formed_out : (rs : List Field) (v : Verdict) → formed rs v ≡ u → v ≡ u
  unfolding formed
  formed_out [] v e = e
  formed_out (Ok c ∷ rs) v e = formed_out rs v e
  formed_out (Err Syntax ∷ rs) v e = absurd (n Syntax (sym e))
  formed_out (Err Parameter ∷ rs) v e = formed_out rs v e
  formed_out (Err Hardware ∷ rs) v e = formed_out rs v e

  all_hold : (rs : List Field) (v w : Verdict) → formed rs v ≡ u → valued rs w ≡ u → Each Holds rs × (w ≡ u)
  unfolding formed valued Holds
  all_hold [] v w a b = (tt, b)
  all_hold (Ok c ∷ rs) v w a b = let p = all_hold rs v w a b in ((refl, p.0), p.1)
  all_hold (Err x ∷ rs) v w a b = absurd (n x (sym b))

  fields_hold : (m : Mnemonic) (rs : List Field) → judged_fields m rs ≡ u → Each Holds rs × (Ok (Writes m (row_of (map cell_of rs))) ≡ u)
  fields_hold m rs e = let v = valued rs (Ok (Writes m (row_of (map cell_of rs)))) in all_hold rs v (Ok (Writes m (row_of (map cell_of rs)))) e (formed_out rs v e)

  -- so fields that are accepted are written
  pub fields_write : (m : Mnemonic) (rs : List Field) → judged_fields m rs ≡ u → Ok (Writes m (row_of (map cell_of rs))) ≡ u
  fields_write m rs e = (fields_hold m rs e).1

-- "An empty field is a fault of form. It never means a default.", of whatever kind
pub empty_malformed : (k : Kind) → read k [] ≡ Err Syntax
unfolding lead rest head_is number_of factor_of after_plus fraction after_fraction composed threshold_of
empty_malformed (OfWhole l) = refl
empty_malformed (OfFactor l) = refl
empty_malformed OfThreshold = refl

-- a field that has a byte
abbrev pub Filled : List ℕ → Type 0
Filled f = f ≢ []

filled : (ks : List Kind) (fs : List (List ℕ)) → length fs ≡ length ks → Each Holds (fields_read ks fs) → Each Filled fs
unfolding fields_read Holds
filled [] [] e h = tt
filled [] (f ∷ fs) e h = absurd (omega arith)
filled (k ∷ ks) [] e h = absurd (omega arith)
filled (k ∷ ks) (f ∷ fs) e h = ((λ z. never (let q = sym (empty_malformed k) ∙ ap (read k) (sym z) ∙ h.0 in cc)), filled ks fs (omega arith) h.1)

fit_readings : (ks : List Kind) (fs : List (List ℕ)) → length fs ≡ length ks → Each Holds (fields_read ks fs) → AllFit ks (map cell_of (fields_read ks fs))
unfolding fields_read Holds
fit_readings [] [] e h = none
fit_readings [] (f ∷ fs) e h = absurd (omega arith)
fit_readings (k ∷ ks) [] e h = absurd (omega arith)
fit_readings (k ∷ ks) (f ∷ fs) e h = next (read_fits k f (cell_of (read k f)) h.0) (fit_readings ks fs (omega arith) h.1)

-- ---- as a row

-- cells that fit their kinds, with nothing behind them
row_fitting : {ks : List Kind} {cs : List Threshold} → AllFit ks cs → length ks ≤ 3 → cells_fit ks (listed (row_of cs)) (listed (pair_row 0 0)) ≡ true
unfolding cells_fit
row_fitting none h = refl
row_fitting (next a none) h = rw a
row_fitting (next a (next b none)) h = rw (a, b)
row_fitting (next a (next b (next c none))) h = rw (a, b, c)
row_fitting (next a (next b (next c (next d f)))) h = absurd (omega arith)

-- ---- what a line needs to be accepted

-- its word is that of a known mnemonic about a channel that is there, and what it gets there is v
pub record Reached (model : Model) (fs : List (List ℕ)) (v : Verdict) : Type 0 where
  pub mnemonic : Mnemonic
  pub word : List ℕ
  pub known : recognised model word ≡ Some mnemonic
  pub there : is_there model mnemonic ≡ true
  pub verdict : with_fields model mnemonic fs ≡ v

-- for whatever is not refused
module _ (model : Model) (v : Verdict) (n : Accepting v) where
  named_reached : (word : List ℕ) (fs : List (List ℕ)) (c : Option Mnemonic) → recognised model word ≡ c → named model c fs ≡ v → Reached model fs v
  named_reached word fs None k e = absurd (n Syntax (sym e))
  named_reached word fs (Some m) k e =
      cond_cases (λ u. u ≡ v → Reached model fs v) (is_there model m) (with_fields model m fs) (Err Hardware)
      (λ t w. record { mnemonic = m; word = word; known = k; there = t; verdict = w })
      (λ _ w. absurd (n Hardware (sym w))) e

  parts_reached : (parts : List (List ℕ)) → parted model parts ≡ v → Reached model (drop 1 parts) v
  parts_reached [] e = absurd (n Syntax (sym e))
  parts_reached (word ∷ fs) e = named_reached word fs (recognised model word) refl e

  pub reached : (line : List ℕ) → judged model line ≡ v → Reached model (drop 1 (fields line)) v
  reached line e = parts_reached (fields line) (sym (judged_parts model line) ∙ e)

-- what is found in a list is a member of it
found_each : (P : Mnemonic → Type 0) (word : List ℕ) (ms : List Mnemonic) (m : Mnemonic) → found word ms ≡ Some m → Each P ms → P m
unfolding found
found_each P word [] m e p = never (cc)
found_each P word (n ∷ ms) m e p =
    cond_cases (λ v. v ≡ Some m → P m) (same (name n) word) (Some n) (found word ms)
    (λ _ q. let s : n ≡ m = cc in subst P s p.0) (λ _ q. found_each P word ms m q p.1) e

pub reached_known : (P : Mnemonic → Type 0) {model : Model} {fs : List (List ℕ)} {v : Verdict} (g : Reached model fs v) → Each P (known model) → P g.mnemonic
unfolding recognised
reached_known P {model} g = found_each P g.word (known model) g.mnemonic g.known

-- ---- a line that writes

module _ (model : Model) (m : Mnemonic) (r : Row) where
  -- what the fields of a line that writes are
  record Written (n : Mnemonic) (fs : List (List ℕ)) : Type 0 where
    by : n ≡ m
    fit : Fitting ((entry n).fields model) r
    all : Each Filled fs

  -- COM and SAV alone write their defaults
  alone_written : (n : Mnemonic) → alone model n ≡ Ok (Writes m r) → Written n []
  unfolding cells_fit
  alone_written (OfReplying a) e = never (cc)
  alone_written Com e = let s : (entry Com).default model ≡ r = cc in record { by = cc; fit = subst (Fitting ((entry Com).fields model)) s refl; all = tt }
  alone_written Sav e = let s : (entry Sav).default model ≡ r = cc in record { by = cc; fit = subst (Fitting ((entry Sav).fields model)) s refl; all = tt }

  fields_written : (n : Mnemonic) (fs : List (List ℕ)) → length fs ≡ length (kinds model n) → judged_fields n (fields_read (kinds model n) fs) ≡ Ok (Writes m r) → Written n fs
  fields_written n fs c e =
      let ks = kinds model n in
      let rs = fields_read ks fs in
      let p = fields_hold (Ok (Writes m r)) (λ x q. never (cc)) n rs e in
      let q : Ok (Writes n (row_of (map cell_of rs))) ≡ Ok (Writes m r) = p.1 in
      let s : row_of (map cell_of rs) ≡ r = cc in
      record { by = cc; fit = subst (Fitting ((entry n).fields model)) s (row_fitting (fit_readings ks fs c p.0) (few_kinds ((entry n).fields model))); all = filled ks fs c p.0 }

  with_written : (n : Mnemonic) (fs : List (List ℕ)) → with_fields model n fs ≡ Ok (Writes m r) → Written n fs
  unfolding with_fields
  with_written n [] = alone_written n
  with_written n (f ∷ fs) =
      cond_cases (λ v. v ≡ Ok (Writes m r) → Written n (f ∷ fs)) (eqb (length (f ∷ fs)) (length (kinds model n)))
      (judged_fields n (fields_read (kinds model n) (f ∷ fs))) (Err Syntax)
      (λ t. fields_written n (f ∷ fs) (eqb-true (length (f ∷ fs)) (length (kinds model n)) t))
      (λ _ e. never (cc))

module _ (model : Model) (line : List ℕ) (m : Mnemonic) (r : Row) (e : judged model line ≡ Ok (Writes m r)) where
  at : Reached model (drop 1 (fields line)) (Ok (Writes m r))
  at = reached model (Ok (Writes m r)) (λ x q. never (cc)) line e

  written : Written model m r at.mnemonic (drop 1 (fields line))
  written = with_written model m r at.mnemonic (drop 1 (fields line)) at.verdict

  pub writes_fitting : Fitting ((entry m).fields model) r
  writes_fitting = subst (λ n. Fitting ((entry n).fields model) r) written.by written.fit

  -- a line that writes has no empty field
  pub writes_filled : Each Filled (drop 1 (fields line))
  writes_filled = written.all

  pub writes_there : is_there model m ≡ true
  writes_there = subst (λ n. is_there model n ≡ true) written.by at.there

  pub writes_known : (P : Mnemonic → Type 0) → Each P (known model) → P m
  writes_known P k = subst P written.by (reached_known P at k)

-- ---- the settings

-- a setting that is known is one that the arrays hold, and a factor that of a channel
abbrev pub Kept : Mnemonic → Type 0
Kept (OfReplying (OfSetting x)) = Holding x
Kept (OfReplying (Cf k)) = k < 2
Kept (OfReplying (OfQuery q)) = Unit {0}
Kept Com = Unit {0}
Kept Sav = Unit {0}

-- of the others there is nothing to say
pub known_kept : (model : Model) → Each Kept (known model)
known_kept model = known_each Kept model held_holding (omega arith)

line_within_lem : (model : Model) (s : Settings) (line : List ℕ) (m : Mnemonic) (r : Row) → SettingsShaped s → within model s ≡ true → judged model line ≡ Ok (Writes m r)
    → within model (stored model s m r) ≡ true
line_within_lem model s line (OfReplying (OfSetting x)) r sh w e =
    stored_within model s r sh (writes_known model line (setting x) r e Kept (known_kept model)) w (writes_fitting model line (setting x) r e)
line_within_lem model s line (OfReplying (Cf k)) r sh w e =
    let m = OfReplying (Cf k) in
    factor_within model s r k sh (ltb-true k (channels model) (writes_there model line m r e)) w (writes_fitting model line m r e)
line_within_lem model s line (OfReplying (OfQuery q)) r sh w e = w
line_within_lem model s line Com r sh w e = w
line_within_lem model s line Sav r sh w e = w

module _ (model : Model) (s : Settings) (sh : SettingsShaped s) where
  pub effect_shaped : (v : Verdict) → SettingsShaped (effect model s v)
  effect_shaped (Ok (Asks m)) = sh
  effect_shaped (Ok (Writes m r)) = stored_shaped model s r m sh
  effect_shaped (Err x) = sh

  -- no line takes the settings out of their limits
  pub effect_within : (line : List ℕ) → within model s ≡ true → within model (effect model s (judged model line)) ≡ true
  effect_within line w = by (judged model line) refl
    where
      by : (v : Verdict) → judged model line ≡ v → within model (effect model s v) ≡ true
      by (Ok (Asks m)) e = w
      by (Ok (Writes m r)) e = line_within_lem model s line m r sh w e
      by (Err x) e = w

-- What an accepted line stores keeps the limits.
use Prim.Native.Nat.{ℕ, zero, suc, ◌≤◌, ◌<◌}
use mathlib.Core.Path.{◌≡◌, refl, sym, ap, ◌∙◌, subst}
use mathlib.Core.List.{List}
use mathlib.Core.Bool.{Bool, true, false, cond}
use mathlib.Core.Logic.{◌≢◌, ⊎_elim}
use mathlib.Mathlib.Data.Bool.Basic.{dichotomy}
use native.Mathlib.Omega.{arith}
use borrow.Author.Tests.{eqb-true, eqb-false, lt-ltb, le-ltb}
use lib.ListN.{get_or, set}
use lib.Seq.{get_or-set_same, get_or-set_other}
use lib.Dec.{ltb, eqb}
use Rattle.ground.specs.Members.{every}
use Rattle.numbers.specs.declared.threshold.Threshold.{Threshold}
use Rattle.numbers.proofs.UnitFactors.{re_expressed_stops}
use Rattle.settings.specs.Models.{channels}
use Rattle.settings.specs.Rows.{plain, pair_row, first_number, second_number, listed, mixed, row, row_in}
use Rattle.settings.specs.Table.{channel_choice, factor, TableRow, switchings, switching_entry, stored_entry, setting_entry, entry, defaults, stored}
use Rattle.settings.specs.Mnemonics.{setting}
use Rattle.settings.specs.Limits.{same_cell, fits, cells_fit, row_fits, row_within, within, SettingsShaped}
use Rattle.settings.specs.declared.model.Model.{Model}
use Rattle.settings.specs.declared.mnemonic.Setting.{Setting}
use Rattle.settings.specs.declared.mnemonic.Setting.TheVariants.{Uni, Cal, Sp, Stored}
use Rattle.settings.specs.declared.mnemonic.Replying.TheVariants.{Cf}
use Rattle.settings.specs.declared.mnemonic.Mnemonic.TheVariants.{OfReplying}
use Rattle.settings.specs.declared.table.Kind.{Kind}
use Rattle.settings.specs.declared.table.Fields.{Fields}
use Rattle.settings.specs.declared.rows.Row.{Row}
use Rattle.settings.specs.declared.Settings.{Settings}
use Rattle.settings.proofs.Every.{tested, channels_few}
use Rattle.settings.proofs.Tabled.{switching_there, numeric, Numbers, uni_numbers, uni_count, cal_numbers, stored_numbers, few, count_kinds}
use Rattle.settings.proofs.Places.{same_cell_lem, number_plain, cell, kind_there, placed, row_places, places_row}
use Rattle.settings.proofs.Storing.{Holding, canon, mixed_is, stored_row, stored_others, unit_others, factor_row, factor_others}
use Rattle.settings.proofs.Storing.Holding.{uni, cal, sp, kept}
use Rattle.settings.proofs.Sheets.{same_or_apart, within_rows, rows_within}

-- what an accepted line hands over: its cells fit their fields, and behind the last there is nothing
abbrev pub Fitting : Fields → Row → Type 0
Fitting f r = row_fits f r (pair_row 0 0) ≡ true

-- ---- it is read back as it was written

module _ (f : Fields) (r : Row) (fit : Fitting f r) where
  -- a cell of a number is one, and a cell without a field is 0
  plain_cell : (t : Bool) (k : Kind) (c : Threshold) → numeric k ≡ true → cond t (fits k c) (same_cell c (plain 0)) ≡ true → c ≡ plain c.mantissa
  plain_cell true k c n h = number_plain k c n h
  plain_cell false k c n h = let e = same_cell_lem c (plain 0) h in e ∙ ap (λ (d : Threshold). plain d.mantissa) (sym e)

  empty_cell : (i : ℕ) → i < 3 → f.count ≤ i → cell r i ≡ cell (pair_row 0 0) i
  empty_cell i l g = same_cell_lem _ _ (rw (le-ltb i f.count g) at (row_places f r (pair_row 0 0) fit i l))

  two_numbers : Numbers f → r ≡ pair_row (first_number r) (second_number r)
  two_numbers n =
      let at = row_places f r (pair_row 0 0) fit in
      let a = plain_cell (ltb 0 f.count) f.first r.first n.first (at 0 (omega arith)) in
      let b = plain_cell (ltb 1 f.count) f.others r.second n.others (at 1 (omega arith)) in
      let c = empty_cell 2 (omega arith) n.few in
      λ i. record { first = a i; second = b i; third = c i }

  one_number : Numbers f → f.count ≤ 1 → r ≡ pair_row (first_number r) 0
  one_number n l = two_numbers n ∙ ap (λ (c : Threshold). pair_row (first_number r) c.mantissa) (empty_cell 1 (omega arith) l)

-- so what a line hands over is read back unchanged
pub fitting_canon : (model : Model) (r : Row) {x : Setting} → Holding x → Fitting ((setting_entry x).fields model) r → canon x r ≡ r
fitting_canon model r uni f = sym (one_number ((setting_entry Uni).fields model) r f (uni_numbers model) (omega (arith, uni_count model)))
fitting_canon model r cal f = sym (two_numbers ((setting_entry Cal).fields model) r f (cal_numbers model))
fitting_canon model r (sp k h) f =
    let p = subst (λ (e : TableRow). Fitting (e.fields model) r) (switching_there k h) f in
    let e = number_plain (channel_choice model) r.first refl (row_places ((switchings k).fields model) r (pair_row 0 0) p 0 (omega arith)) in
    ap (λ (c : Threshold). record { first = c; second = r.second; third = r.third }) (sym e)
fitting_canon model r (kept k h) f = sym (two_numbers ((setting_entry (Stored k)).fields model) r f (stored_numbers model k))

-- ---- limits are kept

-- a change of one row, within its limits, where the others are too
changed_within : (model : Model) (c : Settings) {x : Setting} → Holding x → row_within model c x ≡ true
    → ((y : Setting) → Holding y → y ≢ x → row_within model c y ≡ true) → within model c ≡ true
changed_within model c h own others =
    rows_within model c (λ y g.
    ⊎_elim (λ (e : y ≡ _). subst (λ z. row_within model c z ≡ true) (sym e) own) (others y g) (same_or_apart h g))

-- a row that stays is within its limits
row_stays : (model : Model) (b c : Settings) → within model b ≡ true → (y : Setting) → Holding y → row c y ≡ row b y → row_within model c y ≡ true
row_stays model b c w y g e =
    subst (λ u. row_fits ((setting_entry y).fields model) u ((setting_entry y).default model) ≡ true) (sym e) (within_rows model b w y g)

-- and so is one in another unit: only thresholds follow it, and they keep to their end stops
in_unit_within : (model : Model) (b : Settings) (unit : ℕ) → within model b ≡ true → {y : Setting} → Holding y
    → row_fits ((setting_entry y).fields model) (row_in unit b y) ((setting_entry y).default model) ≡ true
in_unit_within model b unit w uni = within_rows model b w Uni uni
in_unit_within model b unit w cal = within_rows model b w Cal cal
in_unit_within model b unit w (kept k h) = within_rows model b w (Stored k) (kept k h)
in_unit_within model b unit w (sp k h) =
    subst (Beside (row_in unit b (Sp k))) (sym (switching_there k h)) (places_row ((switchings k).fields model) (row_in unit b (Sp k)) ((switchings k).default model) at)
  where
    Beside : Row → TableRow → Type 0
    Beside r e = row_fits (e.fields model) r (e.default model) ≡ true

    own : (i : ℕ) → i < 3 → placed ((switchings k).fields model) (row b (Sp k)) ((switchings k).default model) i ≡ true
    own = row_places ((switchings k).fields model) (row b (Sp k)) ((switchings k).default model) (subst (Beside (row b (Sp k))) (switching_there k h) (within_rows model b w (Sp k) (sp k h)))

    at : (i : ℕ) → i < 3 → placed ((switchings k).fields model) (row_in unit b (Sp k)) ((switchings k).default model) i ≡ true
    at zero l = own 0 l
    at (suc zero) l = re_expressed_stops b.unit unit (row b (Sp k)).second (own 1 l)
    at (suc (suc zero)) l = re_expressed_stops b.unit unit (row b (Sp k)).third (own 2 l)
    at (suc (suc (suc i))) l = absurd (omega arith)

mixed_cell : (n i : ℕ) (r q : Row) → i < 3 → cell (mixed n r q) i ≡ cond (ltb i n) (cell r i) (cell q i)
mixed_cell n zero r q h = sym (ap (λ (u : Row). u.first) (mixed_is n r q))
mixed_cell n (suc zero) r q h = sym (ap (λ (u : Row). u.second) (mixed_is n r q))
mixed_cell n (suc (suc zero)) r q h = sym (ap (λ (u : Row). u.third) (mixed_is n r q))
mixed_cell n (suc (suc (suc i))) r q h = absurd (omega arith)

mixed_placed : (t : Bool) (k : Kind) (c q z d : Threshold) → cond t (fits k c) (same_cell c z) ≡ true → cond t (fits k q) (same_cell q d) ≡ true
    → cond t (fits k (cond t c q)) (same_cell (cond t c q) d) ≡ true
mixed_placed true k c q z d p e = p
mixed_placed false k c q z d p e = e

mixed_fits : (f : Fields) (r q d : Row) → Fitting f r → row_fits f q d ≡ true → row_fits f (mixed f.count r q) d ≡ true
mixed_fits f r q d g w =
    places_row f (mixed f.count r q) d (λ i l.
    rw (mixed_cell f.count i r q l)
    (mixed_placed (ltb i f.count) (kind_there f i) (cell r i) (cell q i) (cell (pair_row 0 0) i) (cell d i)
    (row_places f r (pair_row 0 0) g i l) (row_places f q d w i l)))

-- an accepted line keeps the limits
pub stored_within : (model : Model) (b : Settings) (r : Row) {x : Setting} → SettingsShaped b → Holding x → within model b ≡ true → Fitting ((setting_entry x).fields model) r
    → within model (stored model b (setting x) r) ≡ true
stored_within model b r {x} sh h w f = changed_within model (stored model b (setting x) r) h own others
  where
    others : (y : Setting) → Holding y → y ≢ x → row_within model (stored model b (setting x) r) y ≡ true
    others y g d =
        ⊎_elim (λ (e : x ≡ Uni). subst (λ z. row_within model (stored model b (setting z) r) y ≡ true) (sym e)
        (rw (unit_others model b r y (λ q. d (q ∙ sym e))) (in_unit_within model b (stored model b (setting Uni) r).unit w g)))
        (λ (u : x ≢ Uni). row_stays model b (stored model b (setting x) r) w y g (stored_others model b r h g u d)) (same_or_apart uni h)

    own : row_within model (stored model b (setting x) r) x ≡ true
    own =
        rw (stored_row model b r sh h (fitting_canon model r h f), count_kinds ((setting_entry x).fields model) (few model (setting x)))
        (mixed_fits ((setting_entry x).fields model) r (row b x) ((setting_entry x).default model) f (within_rows model b w x h))

-- one cell changed, within its limits
set_fits : (f : Fields) (k : ℕ) (c : Threshold) (q p d : Row) → listed p ≡ set (listed q) k c → k < f.count → k < 3 → fits (kind_there f k) c ≡ true
    → row_fits f q d ≡ true → row_fits f p d ≡ true
set_fits f k c q p d e h g t w = places_row f p d at
  where
    there : (i : ℕ) (u : Threshold) → get_or (set (listed q) k c) i (plain 0) ≡ u → cond (ltb i f.count) (fits (kind_there f i) u) (same_cell u (cell d i)) ≡ true
        → placed f p d i ≡ true
    there i u z =
        subst (λ v. cond (ltb i f.count) (fits (kind_there f i) v) (same_cell v (cell d i)) ≡ true) (sym (ap (λ (m : List Threshold). get_or m i (plain 0)) e ∙ z))

    same : (i : ℕ) → i < 3 → i ≡ k → placed f p d i ≡ true
    same i l z = there i c (rw (z, get_or-set_same (listed q) k c (plain 0) g)) (rw (z, lt-ltb k f.count h) t)

    at : (i : ℕ) → i < 3 → placed f p d i ≡ true
    at i l =
        ⊎_elim
        (λ (n : eqb i k ≡ false). there i (cell q i) (get_or-set_other (listed q) k i c (plain 0) (eqb-false i k n)) (row_places f q d w i l))
        (λ (t : eqb i k ≡ true). same i l (eqb-true i k t)) (dichotomy (eqb i k))

-- CAL's fields are all factors
factor_kind : (model : Model) (k : ℕ) → k < 2 → kind_there ((setting_entry Cal).fields model) k ≡ factor model
factor_kind model zero h = refl
factor_kind model (suc zero) h = refl
factor_kind model (suc (suc k)) h = absurd (omega arith)

-- and so does a factor for a channel that the model has
pub factor_within : (model : Model) (b : Settings) (r : Row) (k : ℕ) → SettingsShaped b → k < channels model → within model b ≡ true
    → Fitting ((entry (OfReplying (Cf k))).fields model) r → within model (stored model b (OfReplying (Cf k)) r) ≡ true
factor_within model b r k sh h w f =
    let c = stored model b (OfReplying (Cf k)) r in
    changed_within model c cal own (λ y g d. row_stays model b c w y g (factor_others model b r k g d))
  where
    own : row_within model (stored model b (OfReplying (Cf k)) r) Cal ≡ true
    own =
        let two : k < 2 = omega (arith, channels_few model) in
        let first : fits (factor model) r.first ≡ true = row_places ((entry (OfReplying (Cf k))).fields model) r (pair_row 0 0) f 0 (omega arith) in
        let fit : fits (factor model) (plain (first_number r)) ≡ true = subst (λ c. fits (factor model) c ≡ true) (number_plain (factor model) r.first refl first) first in
        set_fits ((setting_entry Cal).fields model) k (plain (first_number r)) (row b Cal) (row (stored model b (OfReplying (Cf k)) r) Cal) ((setting_entry Cal).default model)
        (factor_row model b r sh k two) h (omega arith) (subst (λ x. fits x (plain (first_number r)) ≡ true) (sym (factor_kind model k two)) fit) (within_rows model b w Cal cal)

-- ---- the defaults

pub defaults_within : (model : Model) → within model (defaults model) ≡ true
unfolding within every cells_fit switching_entry stored_entry
defaults_within = tested (λ model. within model (defaults model)) refl

pub defaults_shaped : (model : Model) → SettingsShaped (defaults model)
defaults_shaped model = record { factors = refl; switching = refl; stored = refl }

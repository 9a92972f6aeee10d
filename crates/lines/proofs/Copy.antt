-- Settings sent as a sheet to another box of the model make the two equal; cut after a line, exactly those named so far are, and the others
-- are its own in the unit that it then has.
use Rattle.std.specs.Prelude.{Ok}
use Prim.Native.Nat.{ℕ, zero, suc, ◌≤◌}
use mathlib.Core.Path.{◌≡◌, refl, sym, ap, ◌∙◌, subst}
use mathlib.Core.List.{List, [], ◌∷◌, map}
use mathlib.Core.Bool.{true}
use mathlib.Core.Logic.{◌≢◌, ◌↔◌}
use lib.ListN.{take, drop}
use Rattle.ground.specs.Members.{Each}
use Rattle.ground.proofs.Members.{each_all, each_both, each_take, each_drop, map_each}
use Rattle.ground.proofs.Ranges.{upto_three}
use Rattle.settings.specs.Rows.{first_number, listed, row_of, row, row_in}
use Rattle.settings.specs.Table.{setting_entry, field_count, cells}
use Rattle.settings.specs.Mnemonics.{sheet, setting}
use Rattle.settings.specs.Limits.{within, SettingsShaped}
use Rattle.settings.specs.declared.model.Model.{Model}
use Rattle.settings.specs.declared.mnemonic.Setting.{Setting}
use Rattle.settings.specs.declared.mnemonic.Setting.TheVariants.{Uni}
use Rattle.settings.specs.declared.rows.Row.{Row}
use Rattle.settings.specs.declared.Settings.{Settings}
use Rattle.settings.proofs.Tabled.{few_kinds}
use Rattle.settings.proofs.Storing.{Holding, mixed_front, in_own_unit, stored_row, stored_others, unit_others, stored_shaped}
use Rattle.settings.proofs.Storing.Holding.{uni}
use Rattle.settings.proofs.Sheets.{OnSheet, sheet_holds, unit_first, on_sheet, Distinct, sheet_distinct, distinct_cut, distinct_take, cells_row, sheet_decides}
use Rattle.settings.proofs.StoredLimits.{fitting_canon}
use Rattle.lines.specs.Judging.{judged, effect}
use Rattle.lines.specs.Replies.{setting_text}
use Rattle.lines.specs.Sheets.{sheet_line, settings_after}
use Rattle.lines.proofs.Accepted.{sheet_accepted}
use Rattle.lines.proofs.WrittenLimits.{writes_fitting, effect_within, effect_shaped}
use Rattle.lines.specs.declared.verdict.Order.TheVariants.{Writes}

-- ---- any lines

module _ (model : Model) where
  pub after_shaped : (lines : List (List ℕ)) (s : Settings) → SettingsShaped s → SettingsShaped (settings_after model s lines)
  after_shaped [] s sh = sh
  after_shaped (line ∷ lines) s sh = after_shaped lines (effect model s (judged model line)) (effect_shaped model s sh (judged model line))

  pub after_within : (lines : List (List ℕ)) (s : Settings) → SettingsShaped s → within model s ≡ true → within model (settings_after model s lines) ≡ true
  after_within [] s sh w = w
  after_within (line ∷ lines) s sh w =
      after_within lines (effect model s (judged model line)) (effect_shaped model s sh (judged model line)) (effect_within model s sh line w)

-- ---- one line

-- UNI stands in no place but the first
abbrev UnitFirst : List Setting → Type 0
UnitFirst [] = Unit {0}
UnitFirst (x ∷ xs) = Each (λ y. Uni ≢ y) xs

behind_first : (xs : List Setting) → Each (λ y. Uni ≢ y) xs → UnitFirst xs
behind_first [] u = u
behind_first (x ∷ xs) u = u.1

-- a row has three places, so cells made a row are the cells of it
row_cells : (n : ℕ) (r : Row) → n ≤ 3 → take n (listed (row_of (take n (listed r)))) ≡ take n (listed r)
row_cells n r = upto_three (λ m. take m (listed (row_of (take m (listed r)))) ≡ take m (listed r)) refl refl refl refl n

module _ (model : Model) (a : Settings) where
  -- the row that a's line of a setting hands over
  abbrev sent : Setting → Row
  sent x = row_of (cells model a x)

  sent_cells : (x : Setting) → take (field_count model x) (listed (sent x)) ≡ cells model a x
  sent_cells x = row_cells (field_count model x) (row a x) (few_kinds ((setting_entry x).fields model))

  -- the settings b after that line
  abbrev next : Settings → Setting → Settings
  next b x = effect model b (judged model (sheet_line model a x))

  module _ (wa : within model a ≡ true) where
    line_accepted : {x : Setting} → OnSheet model x → judged model (sheet_line model a x) ≡ Ok (Writes (setting x) (sent x))
    line_accepted = on_sheet (λ x. judged model (sheet_line model a x) ≡ Ok (Writes (setting x) (sent x))) model (sheet_accepted model a wa)

    module _ (b : Settings) {x : Setting} (h : OnSheet model x) where
      line_shaped : SettingsShaped b → SettingsShaped (next b x)
      line_shaped sh = rw (line_accepted h) (stored_shaped model b (sent x) (setting x) sh)

      own_named : SettingsShaped b → cells model (next b x) x ≡ cells model a x
      own_named sh =
          let c = fitting_canon model (sent x) h.holding (writes_fitting model (sheet_line model a x) (setting x) (sent x) (line_accepted h)) in
          rw (line_accepted h, stored_row model b (sent x) sh h.holding c) (mixed_front (field_count model x) (sent x) (row b x) (few_kinds ((setting_entry x).fields model)) ∙ sent_cells x)

      line_others : {y : Setting} → Holding y → Uni ≢ x → y ≢ x → row (next b x) y ≡ row b y
      line_others g u d = rw (line_accepted h) (stored_others model b (sent x) h.holding g (λ e. u (sym e)) d)

    -- UNI's line takes the thresholds into the unit that it names
    unit_line : (b : Settings) → OnSheet model Uni → (y : Setting) → y ≢ Uni → row (next b Uni) y ≡ row_in (next b Uni).unit b y
    unit_line b h y d = rw (line_accepted h) (unit_others model b (sent Uni) y d)

    -- ---- lines of any settings, none of them behind the first UNI's

    -- what is not named stays as it was, where UNI is not
    copied_others : (xs : List Setting) (b : Settings) → Each (OnSheet model) xs → Each (λ x. Uni ≢ x) xs → {y : Setting} → Holding y → Each (λ x. y ≢ x) xs
        → row (settings_after model b (map (sheet_line model a) xs)) y ≡ row b y
    copied_others [] b h u g d = refl
    copied_others (x ∷ xs) b h u g d = copied_others xs (next b x) h.1 u.1 g d.1 ∙ line_others b h.0 g u.0 d.0

    -- and what is named is a's: no later line names it again, or UNI
    copied_named : (xs : List Setting) (b : Settings) → Each (OnSheet model) xs → Distinct xs → UnitFirst xs → SettingsShaped b
        → Each (λ x. cells model (settings_after model b (map (sheet_line model a) xs)) x ≡ cells model a x) xs
    copied_named [] b h d u sh = tt
    copied_named (x ∷ xs) b h d u sh = (
      ap (λ (r : Row). take (field_count model x) (listed r)) (copied_others xs (next b x) h.1 u h.0.holding d.0) ∙ own_named b h.0 sh,
      copied_named xs (next b x) h.1 d.1 (behind_first xs u) (line_shaped b h.0 sh),
    )

    -- of lines with UNI's first, cut after n: the settings behind the cut are b's own, in the unit that the box then has
    cut_own : (n : ℕ) (b : Settings) (xs : List Setting) → Each (OnSheet model) (Uni ∷ xs) → Distinct (Uni ∷ xs)
        → Each (λ y. let c = settings_after model b (map (sheet_line model a) (take n (Uni ∷ xs))) in row c y ≡ row_in c.unit b y) (drop n (Uni ∷ xs))
    cut_own zero b xs h d = each_all _ (λ y. sym (in_own_unit b y)) (Uni ∷ xs)
    cut_own (suc n) b xs h d =
        each_both (OnSheet model) (λ y. Each (λ x. y ≢ x) (Uni ∷ take n xs)) _ (λ y o apart. stays o.holding apart.1 ∙ unit_line b h.0 y apart.0 ∙ ap (λ v. row_in v b y) (sym unit))
        (drop n xs) (each_drop (OnSheet model) n xs h.1) (distinct_cut (suc n) (Uni ∷ xs) d)
      where
        named : List Setting
        named = take n xs

        once : Each (λ x. Uni ≢ x) named
        once = each_take (λ x. Uni ≢ x) n xs d.0

        stays : {y : Setting} → Holding y → Each (λ x. y ≢ x) named → row (settings_after model (next b Uni) (map (sheet_line model a) named)) y ≡ row (next b Uni) y
        stays = copied_others named (next b Uni) (each_take (OnSheet model) n xs h.1) once

        unit : (settings_after model (next b Uni) (map (sheet_line model a) named)).unit ≡ (next b Uni).unit
        unit = ap first_number (stays uni once)

-- ---- the sheet

module _ (model : Model) (a b : Settings) where
  -- the second box after the first n lines of the first's sheet
  abbrev pub after_lines : ℕ → Settings
  after_lines n = settings_after model b (map (sheet_line model a) (take n (sheet model)))

  module _ (sa : SettingsShaped a) (sb : SettingsShaped b) (wa : within model a ≡ true) (wb : within model b ≡ true) where
    cut_holds : (n : ℕ) → Each (OnSheet model) (take n (sheet model))
    cut_holds n = each_take (OnSheet model) n (sheet model) (sheet_holds model)

    -- what holds of every list with UNI first that is as the sheet is, holds of the sheet
    by_unit_lem : (P : List Setting → Type 0) → ((xs : List Setting) → Each (OnSheet model) (Uni ∷ xs) → Distinct (Uni ∷ xs) → P (Uni ∷ xs)) → P (sheet model)
    by_unit_lem P f =
        let e = unit_first model in
        subst P (sym e) (f (drop 1 (sheet model)) (subst (Each (OnSheet model)) e (sheet_holds model)) (subst Distinct e (sheet_distinct model)))

    cut_first : (n : ℕ) → UnitFirst (take n (sheet model))
    cut_first zero = tt
    cut_first (suc n) = by_unit_lem (λ xs. UnitFirst (take (suc n) xs)) (λ xs h d. each_take _ n xs d.0)

    -- cut after n lines, the settings named so far are the first box's, in all their cells
    pub cut_named : (n : ℕ) → Each (λ x. row (after_lines n) x ≡ row a x) (take n (sheet model))
    cut_named n =
        let named = take n (sheet model) in
        each_both (OnSheet model) (λ x. cells model (after_lines n) x ≡ cells model a x) (λ x. row (after_lines n) x ≡ row a x)
        (λ x o. cells_row model (after_lines n) a (after_within model (map (sheet_line model a) named) b sb wb) wa x o.holding) named (cut_holds n)
        (copied_named model a wa named b (cut_holds n) (distinct_take n (sheet model) (sheet_distinct model)) (cut_first n) sb)

    -- the rest are the second box's own, in the unit that it then has
    pub cut_others : (n : ℕ) → Each (λ x. row (after_lines n) x ≡ row_in (after_lines n).unit b x) (drop n (sheet model))
    cut_others n = by_unit_lem (λ xs. Each (λ y. let c = settings_after model b (map (sheet_line model a) (take n xs)) in row c y ≡ row_in c.unit b y) (drop n xs)) (cut_own model a wa n b)

    -- after all of the sheet the settings are equal
    pub whole_copy : settings_after model b (map (sheet_line model a) (sheet model)) ≡ a
    whole_copy =
        let lines = map (sheet_line model a) (sheet model) in
        (sheet_decides model (settings_after model b lines) a (after_within model lines b sb wb) wa (after_shaped model lines b sb) sa).0
        (copied_named model a wa (sheet model) b (sheet_holds model) (sheet_distinct model) (by_unit_lem UnitFirst (λ xs h d. d.0)) sb)

    -- two boxes give equal sheets exactly when their settings are equal
    pub equal_sheets : (map (setting_text model a) (sheet model) ≡ map (setting_text model b) (sheet model)) ↔ (a ≡ b)
    equal_sheets = (forth, λ e. ap (λ (s : Settings). map (setting_text model s) (sheet model)) e)
      where
        -- equal texts are equal lines, and those are judged equal
        same_cells : (x : Setting) → OnSheet model x → setting_text model a x ≡ setting_text model b x → cells model a x ≡ cells model b x
        same_cells x h e =
            cc (line_accepted model a wa h, line_accepted model b wb h, sent_cells model a x, sent_cells model b x)

        forth : map (setting_text model a) (sheet model) ≡ map (setting_text model b) (sheet model) → a ≡ b
        forth e =
            (sheet_decides model a b wa wb sa sb).0
            (each_both (OnSheet model) (λ x. setting_text model a x ≡ setting_text model b x) (λ x. cells model a x ≡ cells model b x) same_cells
            (sheet model) (sheet_holds model) (map_each (setting_text model a) (setting_text model b) (sheet model) e))

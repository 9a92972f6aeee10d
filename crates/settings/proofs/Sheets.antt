-- The sheet: it has every setting that the model takes once, and its cells decide settings that are within their limits.
use Rattle.ground.proofs.Cases.{never}
use native.Mathlib.Numerals.{add-one}
use Prim.Native.Nat.{ℕ, zero, suc, ◌+◌, ◌*◌, ◌≤◌, ◌<◌, ◌-◌}
use mathlib.Core.Path.{◌≡◌, refl, sym, ap, ap₂, ◌∙◌, subst}
use mathlib.Core.List.{List, [], ◌∷◌, ◌++◌, map}
use mathlib.Core.Bool.{Bool, true, false, cond, not, ◌&&◌, and-eq-true_iff}
use mathlib.Core.Logic.{◌≢◌, ◌⊎◌, inl, inr, ⊎_elim, ◌↔◌}
use mathlib.Mathlib.Data.Bool.Basic.{dichotomy}
use native.Mathlib.Omega.{arith}
use borrow.Author.Tests.{ltb-true, ltb-false, le-ltb, eqb-true, eqb-false, not-true}
use lib.ListN.{length, get_or, take, drop, drop_of_length-le}
use lib.Seq.{get_or-take, drop-cons}
use lib.Dec.{ltb, eqb}
use Rattle.ground.specs.Members.{every, Each, those}
use Rattle.ground.proofs.Tables.{alike}
use Rattle.ground.proofs.Members.{each_map, each_both, each_all, each_take, each_drop, each_append, each_at, every_each, each_every, each_those, those_each, each_taken, Pairwise, pairwise, pairwise_by, pairwise_those}
use Rattle.numbers.specs.declared.threshold.Threshold.{Threshold}
use Rattle.settings.specs.Models.{by_unit}
use Rattle.settings.specs.Rows.{plain, listed, row}
use Rattle.settings.specs.Table.{kinds_of, switching_entry, stored_entry, setting_entry, field_count, cells}
use Rattle.settings.specs.Mnemonics.{settings_held, takes, sheet, knows, others, setting, mnemonics, mnemonic_at, known}
use Rattle.settings.specs.Limits.{same_cell, fits, row_within, within, SettingsShaped}
use Rattle.settings.specs.declared.model.Model.{Model}
use Rattle.settings.specs.declared.mnemonic.Setting.{Setting}
use Rattle.settings.specs.declared.mnemonic.Setting.TheVariants.{Uni, Cal, Sp, Stored}
use Rattle.settings.specs.declared.mnemonic.Mnemonic.{Mnemonic}
use Rattle.settings.specs.declared.table.Kind.{Kind}
use Rattle.settings.specs.declared.rows.Row.{Row}
use Rattle.settings.specs.declared.Settings.{Settings}
use Rattle.settings.proofs.Every.{every_model}
use Rattle.settings.proofs.Tabled.{few, count_kinds}
use Rattle.settings.proofs.Places.{same_cell_lem, cell, rows_same, kind_there, row_places}
use Rattle.settings.proofs.Storing.{Holding, rows_decide}
use Rattle.settings.proofs.Storing.Holding.{uni, cal, sp, kept}

-- ---- the settings that are held are those that the arrays hold

-- the place of a setting among those that are held
abbrev line : Setting → ℕ
line Uni = 0
line Cal = 2
line (Sp k) = 4 + k
line (Stored k) = cond (ltb k 2) (1 + 2 * k) (6 + k)

on_line : {x : Setting} → Holding x → get_or settings_held (line x) Uni ≡ x
on_line uni = refl
on_line cal = refl
on_line (sp k h) = alike (λ i. get_or settings_held (line (Sp i)) Uni) Sp 4 refl k h
on_line (kept k h) = alike (λ i. get_or settings_held (line (Stored i)) Uni) Stored 16 refl k h

-- what holds of all that are held holds of every setting
pub held_each : (P : Setting → Type 0) → Each P settings_held → (x : Setting) → Holding x → P x
held_each P e x h = subst P (on_line h) (each_at P settings_held Uni e.0 e (line x))

holds : Setting → Bool
holds Uni = true
holds Cal = true
holds (Sp k) = ltb k 4
holds (Stored k) = ltb k 16

holds_holding : (x : Setting) → holds x ≡ true → Holding x
unfolding holds
holds_holding Uni h = uni
holds_holding Cal h = cal
holds_holding (Sp k) h = sp k (ltb-true k 4 h)
holds_holding (Stored k) h = kept k (ltb-true k 16 h)

pub held_holding : Each Holding settings_held
unfolding holds every
held_holding = each_map (λ x. holds x ≡ true) Holding holds_holding settings_held (every_each holds settings_held refl)

-- ---- the sheet: those of them that the model takes

pub record OnSheet (model : Model) (x : Setting) : Type 0 where
  pub holding : Holding x
  pub taken : takes model x ≡ true

pub sheet_holds : (model : Model) → Each (OnSheet model) (sheet model)
unfolding sheet
sheet_holds model =
    each_both Holding (λ x. takes model x ≡ true) (OnSheet model) (λ x h t. record { holding = h; taken = t }) (those (takes model) settings_held)
    (each_those Holding (takes model) settings_held held_holding) (those_each (takes model) settings_held)

-- how many lines it has
pub sheet_counts : (model : Model) → length (sheet model) ≡ by_unit 17 14 model
unfolding sheet switching_entry stored_entry
sheet_counts = every_model (λ m. length (sheet m) ≡ by_unit 17 14 m) (refl, (refl, (refl, tt)))

-- "UNI stands first in the sheet for a reason now": on every model, so no line of a threshold stands before it
pub unit_first : (model : Model) → sheet model ≡ Uni ∷ drop 1 (sheet model)
unfolding sheet switching_entry stored_entry
unit_first = every_model (λ m. sheet m ≡ Uni ∷ drop 1 (sheet m)) (refl, (refl, (refl, tt)))

-- a line by its place, found by a walk over what is held
module _ (p : Setting → Bool) (xs : List Setting) (j left : ℕ) (d : Setting) (h : j < length xs) where
  pub line_here : p (get_or xs j d) && eqb left 0 ≡ true → get_or (those p (drop j xs)) left d ≡ get_or xs j d
  line_here e =
      let b = (and-eq-true_iff (p (get_or xs j d)) (eqb left 0)).0 e in
      rw (drop-cons xs j d h, b.0, eqb-true left 0 b.1)

  pub line_behind : p (get_or xs j d) && eqb left 0 ≡ false
      → get_or (those p (drop j xs)) left d ≡ get_or (those p (drop (j + 1) xs)) (cond (p (get_or xs j d)) (left - 1) left) d
  line_behind = rw (add-one j, drop-cons xs j d h) (by (p (get_or xs j d)) left)
    where
      by : (t : Bool) (n : ℕ) → t && eqb n 0 ≡ false
          → get_or (cond t (get_or xs j d ∷ those p (drop (suc j) xs)) (those p (drop (suc j) xs))) n d ≡ get_or (those p (drop (suc j) xs)) (cond t (n - 1) n) d
      by true zero e = never (cc)
      by true (suc n) e = let q : n ≡ suc n - 1 = omega arith in ap (λ (k : ℕ). get_or (those p (drop (suc j) xs)) k d) q
      by false n e = refl

-- what holds over the sheet holds of every setting that the model takes
pub on_sheet : (P : Setting → Type 0) (model : Model) → Each P (sheet model) → {x : Setting} → OnSheet model x → P x
unfolding sheet
on_sheet P model e {x} o = held_each (λ y. takes model y ≡ true → P y) (each_taken P (takes model) settings_held e) x o.holding o.taken

-- and the others have no field, so no cell
pub off_sheet : (model : Model) (s : Settings) (x : Setting) → takes model x ≡ false → cells model s x ≡ []
off_sheet model s x t =
    let f = (setting_entry x).fields model in
    let z : f.count ≡ 0 = omega (arith, ltb-false 0 f.count t) in
    let n : length (kinds_of f) ≡ 0 = rw z in
    rw n

-- ---- no setting twice

abbrev pub Distinct : List Setting → Type 0
Distinct = Pairwise (λ x y. x ≢ y)

apart : Setting → Setting → Bool
apart x y = not (eqb (line x) (line y))

unlike_apart : (x y : Setting) → apart x y ≡ true → x ≢ y
unfolding apart
unlike_apart x y e q = eqb-false (line x) (line y) (not-true (eqb (line x) (line y)) e) (ap line q)

pub sheet_distinct : (model : Model) → Distinct (sheet model)
unfolding pairwise every apart sheet
sheet_distinct model = pairwise_those (λ x y. x ≢ y) (takes model) settings_held (pairwise_by (λ x y. x ≢ y) apart unlike_apart settings_held refl)

-- those behind a cut are apart from those before it
pub distinct_cut : (n : ℕ) (xs : List Setting) → Distinct xs → Each (λ y. Each (λ x. y ≢ x) (take n xs)) (drop n xs)
distinct_cut zero xs d = each_all _ (λ y. tt) xs
distinct_cut (suc n) [] d = tt
distinct_cut (suc n) (x ∷ xs) d =
    each_both (λ y. x ≢ y) (λ y. Each (λ z. y ≢ z) (take n xs)) _ (λ y p q. ((λ e. p (sym e)), q)) (drop n xs)
    (each_drop _ n xs d.0) (distinct_cut n xs d.1)

pub distinct_take : (n : ℕ) (xs : List Setting) → Distinct xs → Distinct (take n xs)
distinct_take zero xs d = tt
distinct_take (suc n) [] d = tt
distinct_take (suc n) (x ∷ xs) d = (each_take _ n xs d.0, distinct_take n xs d.1)

-- two settings are the same or not, as are their lines
pub same_or_apart : {x y : Setting} → Holding x → Holding y → (y ≡ x) ⊎ (y ≢ x)
same_or_apart {x} {y} h g =
    ⊎_elim
    (λ (f : eqb (line y) (line x) ≡ false). inr (λ e. eqb-false (line y) (line x) f (ap line e)))
    (λ (t : eqb (line y) (line x) ≡ true). inl (sym (on_line g) ∙ ap (λ i. get_or settings_held i Uni) (eqb-true (line y) (line x) t) ∙ on_line h))
    (dichotomy (eqb (line y) (line x)))

-- ---- limits

module _ (model : Model) (s : Settings) where
  -- settings within their limits have each row within its own, and the other way round
  pub within_rows : within model s ≡ true → (x : Setting) → Holding x → row_within model s x ≡ true
  unfolding within
  within_rows w = held_each (λ x. row_within model s x ≡ true) (every_each (row_within model s) settings_held w)

  pub rows_within : ((x : Setting) → Holding x → row_within model s x ≡ true) → within model s ≡ true
  unfolding within
  rows_within w = each_every (row_within model s) settings_held (each_map Holding (λ x. row_within model s x ≡ true) w settings_held held_holding)

-- cells beside one default are the same if they are so where there is a field
same_placed : (t : Bool) (k : Kind) (c d e : Threshold) → cond t (fits k c) (same_cell c e) ≡ true → cond t (fits k d) (same_cell d e) ≡ true → (t ≡ true → c ≡ d) → c ≡ d
same_placed true k c d e p q f = f refl
same_placed false k c d e p q f = same_cell_lem c e p ∙ sym (same_cell_lem d e q)

-- a cell that is taken is the same if all that are taken are
taken : (n i : ℕ) (r q : Row) → take n (listed r) ≡ take n (listed q) → i < n → cell r i ≡ cell q i
taken n i r q e h =
    sym (get_or-take n (listed r) i (plain 0) h) ∙ ap (λ (l : List Threshold). get_or l i (plain 0)) e ∙ get_or-take n (listed q) i (plain 0) h

-- cells that a model lacks are at their default, whatever the setting
pub lacking_default : (model : Model) (s : Settings) → within model s ≡ true → (x : Setting) → Holding x
    → drop (field_count model x) (listed (row s x)) ≡ drop (field_count model x) (listed ((setting_entry x).default model))
lacking_default model s w x h =
    let f = (setting_entry x).fields model in
    let d = (setting_entry x).default model in
    rw (count_kinds f (few model (setting x)))
    (behind f.count (row s x) d (λ i l n. same_cell_lem _ _ (rw (le-ltb i f.count n) at (row_places f (row s x) d (within_rows model s w x h) i l))))
  where
    behind : (n : ℕ) (r q : Row) → ((i : ℕ) → i < 3 → n ≤ i → cell r i ≡ cell q i) → drop n (listed r) ≡ drop n (listed q)
    behind zero r q e = ap listed (rows_same r q (λ i l. e i l (omega arith)))
    behind (suc zero) r q e = ap₂ (λ (a b : Threshold). a ∷ b ∷ []) (e 1 (omega arith) (omega arith)) (e 2 (omega arith) (omega arith))
    behind (suc (suc zero)) r q e = ap (λ (a : Threshold). a ∷ []) (e 2 (omega arith) (omega arith))
    behind (suc (suc (suc n))) r q e = drop_of_length-le (listed r) {i = suc (suc (suc n))} (omega arith) ∙ sym (drop_of_length-le (listed q) {i = suc (suc (suc n))} (omega arith))

module _ (model : Model) (a b : Settings) (wa : within model a ≡ true) (wb : within model b ≡ true) where
  -- where the model has no field both have the default, so the cells that it has decide a whole row
  pub cells_row : (x : Setting) → Holding x → cells model a x ≡ cells model b x → row a x ≡ row b x
  cells_row x h e =
      let f = (setting_entry x).fields model in
      let d = (setting_entry x).default model in
      let n = count_kinds f (few model (setting x)) in
      rows_same (row a x) (row b x) (λ i l.
      same_placed (ltb i f.count) (kind_there f i) (cell (row a x) i) (cell (row b x) i) (cell d i)
      (row_places f (row a x) d (within_rows model a wa x h) i l)
      (row_places f (row b x) d (within_rows model b wb x h) i l)
      (λ t. taken (field_count model x) i (row a x) (row b x) e (rw n (ltb-true i f.count t))))

  -- law (d) over a model's sheet: every setting is on it or at its default, so settings are equal exactly when their cells agree
  pub sheet_decides : SettingsShaped a → SettingsShaped b → Each (λ x. cells model a x ≡ cells model b x) (sheet model) ↔ (a ≡ b)
  sheet_decides sa sb = (
    (λ e. rows_decide a b sa sb (λ x h. cells_row x h (agree e x h))),
    (λ e. each_all _ (λ x. ap (λ (s : Settings). cells model s x) e) (sheet model)),
  )
    where
      agree : Each (λ x. cells model a x ≡ cells model b x) (sheet model) → (x : Setting) → Holding x → cells model a x ≡ cells model b x
      agree e x h =
          ⊎_elim (λ (n : takes model x ≡ false). off_sheet model a x n ∙ sym (off_sheet model b x n))
          (λ (t : takes model x ≡ true). on_sheet (λ y. cells model a y ≡ cells model b y) model e (record { holding = h; taken = t })) (dichotomy (takes model x))

-- ---- all that are known: those of the sheet, and of the others what the model knows

known_parts : (model : Model) → known model ≡ map setting (sheet model) ++ those (knows model) others
unfolding known sheet
known_parts model = by settings_held
  where
    one : (x : Setting) (t : Bool) (xs : List Setting) (ms : List Mnemonic) → ms ≡ map setting xs ++ those (knows model) others
        → cond t (setting x ∷ ms) ms ≡ map setting (cond t (x ∷ xs) xs) ++ those (knows model) others
    one x true xs ms e = ap (λ (l : List Mnemonic). setting x ∷ l) e
    one x false xs ms e = e

    by : (xs : List Setting) → those (knows model) (map setting xs ++ others) ≡ map setting (those (takes model) xs) ++ those (knows model) others
    by [] = refl
    by (x ∷ xs) = one x (takes model x) (those (takes model) xs) (those (knows model) (map setting xs ++ others)) (by xs)

module _ (P : Mnemonic → Type 0) where
  each_front : (xs : List Setting) (ms : List Mnemonic) → Each P (map setting xs ++ ms) → Each (λ x. P (setting x)) xs
  each_front [] ms e = tt
  each_front (x ∷ xs) ms e = (e.0, each_front xs ms e.1)

  each_settings : (xs : List Setting) → Each (λ x. P (setting x)) xs → Each P (map setting xs)
  each_settings [] e = tt
  each_settings (x ∷ xs) e = (e.0, each_settings xs e.1)

  module _ (model : Model) where
    pub sheet_each : Each P (known model) → Each (λ x. P (setting x)) (sheet model)
    sheet_each e = each_front (sheet model) (those (knows model) others) (subst (Each P) (known_parts model) e)

    -- one of all mnemonics, by its place
    pub known_at : Each P (known model) → (i : ℕ) → knows model (mnemonic_at i) ≡ true → P (mnemonic_at i)
    unfolding known
    known_at e = let t = each_taken P (knows model) mnemonics e in each_at (λ m. knows model m ≡ true → P m) mnemonics (setting Uni) t.0 t

    pub known_each : Each (λ x. P (setting x)) settings_held → Each P others → Each P (known model)
    unfolding known
    known_each e f = each_those P (knows model) mnemonics (each_append P (map setting settings_held) others (each_settings settings_held e) f)

-- What a line stores is what is read back, the other rows stay, and the rows say all.
use Prim.Native.Nat.{ℕ, zero, suc, ◌≤◌, ◌<◌}
use mathlib.Core.Path.{◌≡◌, refl, sym, ap, ◌∙◌, subst}
use mathlib.Core.List.{List, [], ◌∷◌}
use mathlib.Core.Bool.{cond}
use mathlib.Core.Logic.{◌≢◌}
use native.Mathlib.Omega.{arith}
use borrow.Author.Tests.{lt-ltb}
use lib.ListN.{length, get_or, set, take, length-set, length-map, get_or-map}
use lib.Dec.{ltb}
use lib.Seq.{get_or-set_same, get_or-set_other, ext_get_or}
use Rattle.ground.proofs.Ranges.{upto_three}
use Rattle.numbers.specs.Rounding.{multiplied_by}
use Rattle.numbers.specs.declared.threshold.Threshold.{Threshold}
use Rattle.numbers.proofs.UnitFactors.{re_expressed_same}
use Rattle.settings.specs.Rows.{plain, pair_row, cells_of, first_number, second_number, pair_of, switching_of, listed, mixed, no_switching, no_pair, row_of_pair, row, switching_in, row_in, with_unit, with_row, with_factors}
use Rattle.settings.specs.Table.{field_count, stored}
use Rattle.settings.specs.Mnemonics.{setting}
use Rattle.settings.specs.Limits.{SettingsShaped}
use Rattle.settings.specs.declared.model.Model.{Model}
use Rattle.settings.specs.declared.mnemonic.Setting.{Setting}
use Rattle.settings.specs.declared.mnemonic.Setting.TheVariants.{Uni, Cal, Sp, Stored}
use Rattle.settings.specs.declared.mnemonic.Replying.TheVariants.{OfSetting, Cf, OfQuery}
use Rattle.settings.specs.declared.mnemonic.Mnemonic.{Mnemonic}
use Rattle.settings.specs.declared.mnemonic.Mnemonic.TheVariants.{OfReplying, Com, Sav}
use Rattle.settings.specs.declared.Settings.{Settings}
use Rattle.settings.specs.declared.rows.Row.{Row}
use Rattle.settings.proofs.Tabled.{uni_count}

-- the settings that the arrays hold
pub data Holding : Setting → Type 0 where
  uni : Holding Uni
  cal : Holding Cal
  sp : (k : ℕ) → k < 4 → Holding (Sp k)
  kept : (k : ℕ) → k < 16 → Holding (Stored k)

-- ---- rows

-- the row that is read back where r was written
abbrev pub canon : Setting → Row → Row
canon Uni r = pair_row (first_number r) 0
canon Cal r = pair_row (first_number r) (second_number r)
canon (Sp k) r = cells_of (switching_of r)
canon (Stored k) r = row_of_pair (pair_of r)

pub row_back : {b : Settings} (r : Row) → SettingsShaped b → {x : Setting} → Holding x → row (with_row b x r) x ≡ canon x r
row_back r sh uni = refl
row_back r sh cal = refl
row_back {b} r sh (sp k h) = ap cells_of (get_or-set_same b.switching k (switching_of r) no_switching (omega (arith, sh.switching)))
row_back {b} r sh (kept k h) = ap row_of_pair (get_or-set_same b.stored k (pair_of r) no_pair (omega (arith, sh.stored)))

row_canon : (s : Settings) (x : Setting) → canon x (row s x) ≡ row s x
row_canon s Uni = refl
row_canon s Cal = refl
row_canon s (Sp k) = refl
row_canon s (Stored k) = refl

-- ---- rows mixed

-- what holds of both rows' cells place by place holds of the mixed row
pub mixed_cases : (P : Row → Type 0) (r q : Row) → P q → P (mixed 1 r q) → P (mixed 2 r q) → P r → (n : ℕ) → P (mixed n r q)
mixed_cases P r q a b c d zero = a
mixed_cases P r q a b c d (suc zero) = b
mixed_cases P r q a b c d (suc (suc zero)) = c
mixed_cases P r q a b c d (suc (suc (suc n))) = d

-- as the code takes them, cell by cell
pub mixed_is : (n : ℕ) (r q : Row) → record {
  first = cond (ltb 0 n) r.first q.first;
  second = cond (ltb 1 n) r.second q.second;
  third = cond (ltb 2 n) r.third q.third;
} ≡ mixed n r q
mixed_is zero r q = refl
mixed_is (suc zero) r q = refl
mixed_is (suc (suc zero)) r q = refl
mixed_is (suc (suc (suc n))) r q =
    let k = suc (suc (suc n)) in
    rw (lt-ltb 0 k (omega arith), lt-ltb 1 k (omega arith), lt-ltb 2 k (omega arith))

-- so a row mixed of two that are read back unchanged is so
mixed_canon : (n : ℕ) (r q : Row) (x : Setting) → canon x r ≡ r → canon x q ≡ q → canon x (mixed n r q) ≡ mixed n r q
mixed_canon n r q x p e = by x p e
  where
    at : (f g h : Threshold → Threshold) → record { first = f r.first; second = g r.second; third = h r.third } ≡ r
        → record { first = f q.first; second = g q.second; third = h q.third } ≡ q
        → record { first = f (mixed n r q).first; second = g (mixed n r q).second; third = h (mixed n r q).third } ≡ mixed n r q
    at f g h u v =
        mixed_cases (λ (m : Row). record { first = f m.first; second = g m.second; third = h m.third } ≡ m) r q v
        (λ i. record { first = (u i).first; second = (v i).second; third = (v i).third })
        (λ i. record { first = (u i).first; second = (u i).second; third = (v i).third }) u n

    by : (x : Setting) → canon x r ≡ r → canon x q ≡ q → canon x (mixed n r q) ≡ mixed n r q
    by Uni = at (λ c. plain c.mantissa) (λ c. plain 0) (λ c. plain 0)
    by Cal = at (λ c. plain c.mantissa) (λ c. plain c.mantissa) (λ c. plain 0)
    by (Sp k) = at (λ c. plain c.mantissa) (λ c. c) (λ c. c)
    by (Stored k) = at (λ c. plain c.mantissa) (λ c. plain c.mantissa) (λ c. plain 0)

pub mixed_front : (n : ℕ) (r q : Row) → n ≤ 3 → take n (listed (mixed n r q)) ≡ take n (listed r)
mixed_front n r q = upto_three (λ m. take m (listed (mixed m r q)) ≡ take m (listed r)) refl refl refl refl n

-- ---- in another unit

module _ (b : Settings) where
  -- a function by its place: what stands for a missing one has no threshold to follow
  pub function_in : (unit k : ℕ) → get_or (with_unit b unit).switching k no_switching ≡ switching_in b.unit unit (get_or b.switching k no_switching)
  unfolding multiplied_by
  function_in unit k = get_or-map (switching_in b.unit unit) b.switching k no_switching

  -- each row is what it was, in the new unit
  in_unit : (unit : ℕ) (y : Setting) → y ≢ Uni → row (with_unit b unit) y ≡ row_in unit b y
  in_unit unit Uni d = absurd (d refl)
  in_unit unit Cal d = refl
  in_unit unit (Sp k) d = ap cells_of (function_in unit k)
  in_unit unit (Stored k) d = refl

  -- and in the same unit as it was
  pub in_own_unit : (y : Setting) → row_in b.unit b y ≡ row b y
  in_own_unit Uni = refl
  in_own_unit Cal = refl
  in_own_unit (Sp k) =
      let w = get_or b.switching k no_switching in
      rw (re_expressed_same b.unit w.lower, re_expressed_same b.unit w.upper)
  in_own_unit (Stored k) = refl

-- ---- storing

module _ (b : Settings) (fs : List ℕ) where
  -- other factors change no row but CAL's
  others_factors : {y : Setting} → Holding y → y ≢ Cal → row (with_factors b fs) y ≡ row b y
  others_factors uni d = refl
  others_factors cal d = absurd (d refl)
  others_factors (sp k h) d = refl
  others_factors (kept k h) d = refl

module _ (b : Settings) (r : Row) where
  -- nor does another setting, but the unit
  others_stay : {x y : Setting} → Holding x → Holding y → x ≢ Uni → y ≢ x → row (with_row b x r) y ≡ row b y
  others_stay uni y u d = absurd (u refl)
  others_stay cal y u d = others_factors b (first_number r ∷ second_number r ∷ []) y d
  others_stay (sp j g) uni u d = refl
  others_stay (sp j g) cal u d = refl
  others_stay (sp j g) (sp k h) u d = ap cells_of (get_or-set_other b.switching j k (switching_of r) no_switching (λ e. d (ap Sp e)))
  others_stay (sp j g) (kept k h) u d = refl
  others_stay (kept j g) uni u d = refl
  others_stay (kept j g) cal u d = refl
  others_stay (kept j g) (sp k h) u d = refl
  others_stay (kept j g) (kept k h) u d = ap row_of_pair (get_or-set_other b.stored j k (pair_of r) no_pair (λ e. d (ap Stored e)))

  row_shaped : (x : Setting) → SettingsShaped b → SettingsShaped (with_row b x r)
  row_shaped Uni sh = record { factors = sh.factors; switching = simp length-map sh.switching; stored = sh.stored }
  row_shaped Cal sh = record { factors = refl; switching = sh.switching; stored = sh.stored }
  row_shaped (Sp k) sh = record { factors = sh.factors; switching = simp length-set sh.switching; stored = sh.stored }
  row_shaped (Stored k) sh = record { factors = sh.factors; switching = sh.switching; stored = simp length-set sh.stored }

module _ (model : Model) (b : Settings) (r : Row) where
  -- law (c): the cells that the model has are the line's, its other cells stay
  pub stored_row : SettingsShaped b → {x : Setting} → Holding x → canon x r ≡ r → row (stored model b (setting x) r) x ≡ mixed (field_count model x) r (row b x)
  stored_row sh {x} h e = row_back (mixed (field_count model x) r (row b x)) sh h ∙ mixed_canon (field_count model x) r (row b x) x e (row_canon b x)

  -- and so do the cells of the other settings, where it is not the unit that is stored
  pub stored_others : {x y : Setting} → Holding x → Holding y → x ≢ Uni → y ≢ x → row (stored model b (setting x) r) y ≡ row b y
  stored_others {x} = others_stay b (mixed (field_count model x) r (row b x))

  -- UNI takes the thresholds with it
  pub unit_stored : stored model b (setting Uni) r ≡ with_unit b (first_number r)
  unit_stored = rw (uni_count model)

  pub unit_others : (y : Setting) → y ≢ Uni → row (stored model b (setting Uni) r) y ≡ row_in (stored model b (setting Uni) r).unit b y
  unit_others y d = subst (λ (s : Settings). row s y ≡ row_in s.unit b y) (sym unit_stored) (in_unit b (first_number r) y d)

  pub stored_shaped : (m : Mnemonic) → SettingsShaped b → SettingsShaped (stored model b m r)
  stored_shaped (OfReplying (OfSetting x)) sh = row_shaped b (mixed (field_count model x) r (row b x)) x sh
  stored_shaped (OfReplying (Cf k)) sh = record { factors = simp length-set sh.factors; switching = sh.switching; stored = sh.stored }
  stored_shaped (OfReplying (OfQuery q)) sh = sh
  stored_shaped Com sh = sh
  stored_shaped Sav sh = sh

  -- a channel's factor is CAL's cell of that channel
  pub factor_row : SettingsShaped b → (k : ℕ) → k < 2 → listed (row (stored model b (OfReplying (Cf k)) r) Cal) ≡ set (listed (row b Cal)) k (plain (first_number r))
  factor_row sh zero h =
      let s : 0 < length b.factors = omega (arith, sh.factors) in
      rw (get_or-set_same b.factors 0 (first_number r) 0 s, get_or-set_other b.factors 0 1 (first_number r) 0 (λ e. omega arith))
  factor_row sh (suc zero) h =
      let s : 1 < length b.factors = omega (arith, sh.factors) in
      rw (get_or-set_same b.factors 1 (first_number r) 0 s, get_or-set_other b.factors 1 0 (first_number r) 0 (λ e. omega arith))
  factor_row sh (suc (suc k)) h = absurd (omega arith)

  pub factor_others : (k : ℕ) {y : Setting} → Holding y → y ≢ Cal → row (stored model b (OfReplying (Cf k)) r) y ≡ row b y
  factor_others k = others_factors b (set b.factors k (first_number r))

-- ---- law (d)

-- settings whose rows agree are equal
module _ (a b : Settings) (sa : SettingsShaped a) (sb : SettingsShaped b) (agree : (x : Setting) → Holding x → row a x ≡ row b x) where
  factor_same : (i : ℕ) → i < 2 → get_or a.factors i 0 ≡ get_or b.factors i 0
  factor_same zero l = ap first_number (agree Cal cal)
  factor_same (suc zero) l = ap second_number (agree Cal cal)
  factor_same (suc (suc i)) l = absurd (omega arith)

  pub rows_decide : a ≡ b
  rows_decide =
      let u : a.unit ≡ b.unit = ap first_number (agree Uni uni) in
      let cs : a.factors ≡ b.factors = ext_get_or 0 _ _ (sa.factors ∙ sym sb.factors) (λ i h. factor_same i (omega (arith, sa.factors))) in
      let ws : a.switching ≡ b.switching =
      ext_get_or no_switching _ _ (sa.switching ∙ sym sb.switching) (λ k h. ap switching_of (agree (Sp k) (sp k (omega (arith, sa.switching))))) in
      let ks : a.stored ≡ b.stored =
      ext_get_or no_pair _ _ (sa.stored ∙ sym sb.stored) (λ k h. ap pair_of (agree (Stored k) (kept k (omega (arith, sa.stored))))) in
      λ i. record { unit = u i; factors = cs i; switching = ws i; stored = ks i }

-- The table: how many fields a row has, and which rows are of numbers.
use Prim.Native.Nat.{ℕ, ◌≤◌, ◌<◌}
use mathlib.Core.Path.{◌≡◌, refl}
use mathlib.Core.List.{[], ◌∷◌}
use mathlib.Core.Bool.{Bool, true, false, ◌&&◌, and-eq-true_iff}
use native.Mathlib.Omega.{arith}
use borrow.Author.Tests.{leb-true, lt-ltb, le-ltb}
use lib.ListN.{length, get_or-eq_default, length-take}
use lib.Dec.{leb, ltb}
use Rattle.ground.specs.Members.{every}
use Rattle.ground.proofs.Cases.{cond_cases}
use Rattle.ground.proofs.Members.{each_at, every_each}
use Rattle.settings.specs.Table.{kinds_of, TableRow, nothing, switchings, stored_table, switching_entry, stored_entry, setting_entry, entry}
use Rattle.settings.specs.declared.model.Model.{Model}
use Rattle.settings.specs.declared.mnemonic.Setting.{Setting}
use Rattle.settings.specs.declared.mnemonic.Setting.TheVariants.{Uni, Cal, Sp, Stored}
use Rattle.settings.specs.declared.mnemonic.Query.TheVariants.{Sps, Pr, Prx, Tid, Ayt, Pnr, Err}
use Rattle.settings.specs.declared.mnemonic.Replying.TheVariants.{OfSetting, Cf, OfQuery}
use Rattle.settings.specs.declared.mnemonic.Mnemonic.{Mnemonic}
use Rattle.settings.specs.declared.mnemonic.Mnemonic.TheVariants.{OfReplying, Com, Sav}
use Rattle.settings.specs.declared.table.Kind.{Kind}
use Rattle.settings.specs.declared.table.Kind.TheVariants.{OfWhole, OfFactor, OfThreshold}
use Rattle.settings.specs.declared.table.Fields.{Fields}
use Rattle.settings.proofs.Every.{every_model, tested, channels_few}

pub stored_past : (k : ℕ) → 16 ≤ k → stored_entry k ≡ nothing
unfolding stored_entry
stored_past k h = get_or-eq_default stored_table nothing h

pub switching_there : (k : ℕ) → k < 4 → switching_entry k ≡ switchings k
unfolding switching_entry
switching_there k h = rw (lt-ltb k 4 h)

pub switching_past : (k : ℕ) → 4 ≤ k → switching_entry k ≡ nothing
unfolding switching_entry
switching_past k h = rw (le-ltb k 4 h)

-- ---- rows of numbers

-- a whole number or a factor
abbrev pub numeric : Kind → Bool
numeric (OfWhole l) = true
numeric (OfFactor l) = true
numeric OfThreshold = false

-- up to two fields of numbers
pub record Numbers (f : Fields) : Type 0 where
  pub few : f.count ≤ 2
  pub first : numeric f.first ≡ true
  pub others : numeric f.others ≡ true

abbrev all_numbers : Fields → Bool
all_numbers f = leb f.count 2 && (numeric f.first && numeric f.others)

numbers_by : (f : Fields) → all_numbers f ≡ true → Numbers f
numbers_by f h =
    let a = (and-eq-true_iff (leb f.count 2) _).0 h in
    let b = (and-eq-true_iff (numeric f.first) (numeric f.others)).0 a.1 in
    record { few = leb-true f.count 2 a.0; first = b.0; others = b.1 }

pub uni_numbers : (model : Model) → Numbers ((setting_entry Uni).fields model)
unfolding every
uni_numbers model = numbers_by _ (tested (λ m. all_numbers ((setting_entry Uni).fields m)) refl model)

-- the unit is one number on every model
pub uni_count : (model : Model) → ((setting_entry Uni).fields model).count ≡ 1
uni_count = every_model (λ m. ((setting_entry Uni).fields m).count ≡ 1) (refl, (refl, (refl, tt)))

pub cal_numbers : (model : Model) → Numbers ((setting_entry Cal).fields model)
cal_numbers model = record { few = channels_few model; first = refl; others = refl }

pub stored_numbers : (model : Model) (k : ℕ) → Numbers ((setting_entry (Stored k)).fields model)
unfolding stored_entry every
stored_numbers model k =
    numbers_by _ (each_at (λ (e : TableRow). all_numbers (e.fields model) ≡ true) stored_table nothing refl
    (every_each (λ (e : TableRow). all_numbers (e.fields model)) stored_table (tested (λ m. every (λ (e : TableRow). all_numbers (e.fields m)) stored_table) refl model)) k)

-- ---- up to three fields

setting_few : (model : Model) (x : Setting) → ((setting_entry x).fields model).count ≤ 3
unfolding switching_entry
setting_few model Uni = omega (arith, uni_count model)
setting_few model Cal = omega (arith, channels_few model)
setting_few model (Sp k) = cond_cases (λ (e : TableRow). (e.fields model).count ≤ 3) (ltb k 4) (switchings k) nothing (λ _. omega arith) (λ _. omega arith)
setting_few model (Stored k) = omega (arith, (stored_numbers model k).few)

pub few : (model : Model) (m : Mnemonic) → ((entry m).fields model).count ≤ 3
few model (OfReplying (OfSetting x)) = setting_few model x
few model (OfReplying (Cf k)) = omega arith
few model (OfReplying (OfQuery Sps)) = omega arith
few model (OfReplying (OfQuery (Pr k))) = omega arith
few model (OfReplying (OfQuery Prx)) = omega arith
few model (OfReplying (OfQuery Tid)) = omega arith
few model (OfReplying (OfQuery Ayt)) = omega arith
few model (OfReplying (OfQuery Pnr)) = omega arith
few model (OfReplying (OfQuery Err)) = omega arith
few model Com = omega arith
few model Sav = omega arith

pub few_kinds : (f : Fields) → length (kinds_of f) ≤ 3
few_kinds f = omega (arith, length-take f.count (f.first ∷ f.others ∷ f.others ∷ []))

-- so there are as many kinds as the row counts
pub count_kinds : (f : Fields) → f.count ≤ 3 → length (kinds_of f) ≡ f.count
count_kinds f h = omega (arith, length-take f.count (f.first ∷ f.others ∷ f.others ∷ []))

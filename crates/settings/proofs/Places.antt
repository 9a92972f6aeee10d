-- A row beside its default, place by place.
use Rattle.std.specs.Prelude.{Some, None}
use Prim.Native.Nat.{ℕ, zero, suc, ◌<◌}
use mathlib.Core.Path.{◌≡◌, refl, sym, ap, ◌∙◌}
use mathlib.Core.List.{[], ◌∷◌}
use mathlib.Core.Bool.{Bool, true, false, cond, ◌&&◌, and-true, and_assoc, and-eq-true_iff}
use native.Mathlib.Omega.{arith}
use borrow.Author.Tests.{eqb-true, lt-ltb}
use lib.ListN.{get_or}
use lib.Dec.{ltb, eqb}
use lib.IntN.{ℤ, pos, negsuc}
use Rattle.ground.proofs.Ranges.{upto_each}
use Rattle.ground.proofs.Cases.{never}
use Rattle.numbers.specs.declared.threshold.Threshold.{Threshold}
use Rattle.settings.specs.Rows.{plain, listed}
use Rattle.settings.specs.Table.{kind_at}
use Rattle.settings.specs.Limits.{same_number, same_cell, fits, place_fits, cells_fit, row_fits}
use Rattle.settings.specs.declared.table.Kind.{Kind}
use Rattle.settings.specs.declared.table.Kind.TheVariants.{OfWhole, OfFactor, OfThreshold}
use Rattle.settings.specs.declared.table.Fields.{Fields}
use Rattle.settings.specs.declared.rows.Row.{Row}
use Rattle.settings.proofs.Tabled.{numeric}

-- ---- cells

pub same_number_lem : (e x : ℤ) → same_number e x ≡ true → e ≡ x
same_number_lem (pos a) (pos b) h = ap pos (eqb-true a b h)
same_number_lem (pos a) (negsuc b) h = never (cc)
same_number_lem (negsuc a) (pos b) h = never (cc)
same_number_lem (negsuc a) (negsuc b) h = ap negsuc (eqb-true a b h)

pub same_cell_lem : (c d : Threshold) → same_cell c d ≡ true → c ≡ d
same_cell_lem c d h =
    let b = (and-eq-true_iff (eqb c.mantissa d.mantissa) (same_number c.exponent d.exponent)).0 h in
    let m = eqb-true c.mantissa d.mantissa b.0 in
    let e = same_number_lem c.exponent d.exponent b.1 in
    λ i. record { mantissa = m i; exponent = e i }

-- a cell that fits a whole number or a factor is a plain number
pub number_plain : (k : Kind) (c : Threshold) → numeric k ≡ true → fits k c ≡ true → c ≡ plain c.mantissa
number_plain (OfWhole l) c n h =
    let e = same_number_lem c.exponent (pos 0) ((and-eq-true_iff (same_number c.exponent (pos 0)) _).0 h).0 in
    λ i. record { mantissa = c.mantissa; exponent = e i }
number_plain (OfFactor l) c n h =
    let e = same_number_lem c.exponent (pos 0) ((and-eq-true_iff (same_number c.exponent (pos 0)) _).0 h).0 in
    λ i. record { mantissa = c.mantissa; exponent = e i }
number_plain OfThreshold c n h = never (cc)

-- ---- places

abbrev pub cell : Row → ℕ → Threshold
cell r i = get_or (listed r) i (plain 0)

pub rows_same : (r q : Row) → ((i : ℕ) → i < 3 → cell r i ≡ cell q i) → r ≡ q
rows_same r q e =
    let a = e 0 (omega arith) in
    let b = e 1 (omega arith) in
    let c = e 2 (omega arith) in
    λ i. record { first = a i; second = b i; third = c i }

-- the kind of a field, where there is one
abbrev pub kind_there : Fields → ℕ → Kind
kind_there f i = get_or (f.first ∷ f.others ∷ f.others ∷ []) i OfThreshold

-- at place i the row fits its field, or is as d where there is none
abbrev pub placed : Fields → Row → Row → ℕ → Bool
placed f r d i = cond (ltb i f.count) (fits (kind_there f i) (cell r i)) (same_cell (cell r i) (cell d i))

-- the recursion over kinds and cells is the three places
pub row_placed : (f : Fields) (r d : Row) → placed f r d 0 && (placed f r d 1 && placed f r d 2) ≡ row_fits f r d
unfolding cells_fit
row_placed f r d = by f.count
  where
    by : (n : ℕ) → cond (ltb 0 n) (fits f.first r.first) (same_cell r.first d.first) && (cond (ltb 1 n) (fits f.others r.second) (same_cell r.second d.second) && cond (ltb 2 n) (fits f.others r.third) (same_cell r.third d.third))
        ≡ row_fits (record { count = n; first = f.first; others = f.others }) r d
    by zero = rw (and-true (same_cell r.third d.third))
    by (suc zero) = rw (and-true (same_cell r.third d.third))
    by (suc (suc zero)) = rw (and-true (same_cell r.third d.third))
    by (suc (suc (suc n))) =
        let k = suc (suc (suc n)) in
        rw (lt-ltb 0 k (omega arith), lt-ltb 1 k (omega arith), lt-ltb 2 k (omega arith), and-true (fits f.others r.third))

-- as the code asks it: by the kind of a field, if it is there
where_field : (t : Bool) (k : Kind) (c d : Threshold) → place_fits (cond t (Some k) None) c d ≡ cond t (fits k c) (same_cell c d)
where_field true k c d = refl
where_field false k c d = refl

pub row_fields : (f : Fields) (r d : Row)
    → (place_fits (kind_at f 0) r.first d.first && place_fits (kind_at f 1) r.second d.second) && place_fits (kind_at f 2) r.third d.third ≡ row_fits f r d
unfolding kind_at
row_fields f r d =
    rw (where_field (ltb 0 f.count) f.first r.first d.first, where_field (ltb 1 f.count) f.others r.second d.second, where_field (ltb 2 f.count) f.others r.third d.third, and_assoc)
    (row_placed f r d)

module _ (f : Fields) (r d : Row) where
  pub row_places : row_fits f r d ≡ true → (i : ℕ) → i < 3 → placed f r d i ≡ true
  row_places h i l = upto_each 2 (placed f r d) (row_placed f r d ∙ h) i (omega arith)

  pub places_row : ((i : ℕ) → i < 3 → placed f r d i ≡ true) → row_fits f r d ≡ true
  places_row h = sym (row_placed f r d) ∙ rw (h 0 (omega arith), h 1 (omega arith)) (h 2 (omega arith))

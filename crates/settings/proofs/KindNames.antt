-- The name of each kind of gauge is a part of one text, a number that is no kind has none, and one kind every model has.
use Prim.Native.Nat.{ℕ, ◌+◌, ◌-◌, ◌≤◌, ◌<◌}
use mathlib.Core.Path.{◌≡◌, refl}
use mathlib.Core.List.{List, [], ◌∷◌}
use native.Mathlib.Omega.{arith}
use borrow.Author.Tests.{leb-true, ltb-true}
use lib.Dec.{leb, ltb}
use lib.ListN.{get_or, length, take, drop, get_or-eq_default}
use Rattle.ground.specs.Members.{every}
use Rattle.ground.proofs.Tables.{entries, alike}
use Rattle.text.specs.Text.{ascii}
use Rattle.settings.specs.Kinds.{kind_names, gauge_kinds, kind_name}
use Rattle.settings.specs.declared.model.Model.{Model}
use Rattle.settings.proofs.Every.{every_model, tested}

-- the longest names of the kinds, TPR/PCR to IKR11, one behind the other
abbrev pub names : List ℕ
names = ascii "TPR/PCRIKR9PKRPBRIMRCMR/APRnoSEnnoidIKR11"

-- where each of them begins
abbrev pub starts : List ℕ
starts = 0 ∷ 7 ∷ 11 ∷ 14 ∷ 17 ∷ 20 ∷ 27 ∷ 32 ∷ 36 ∷ []

-- no model has more than nine kinds, so a number from 9 on has no name
pub no_name : (model : Model) (k : ℕ) → 9 ≤ k → kind_name model k ≡ []
unfolding every
no_name model k h =
    let few = leb-true (gauge_kinds model) 9 (tested (λ m. leb (gauge_kinds m) 9) refl model) in
    get_or-eq_default (kind_names model) [] {n = k} (omega (arith, few))

-- a kind's name on a model is the front of the text from where the kind's longest begins
named : (model : Model) (k : ℕ) → k < 9 → take (length (kind_name model k)) (drop (get_or starts k 0) names) ≡ kind_name model k
named model k h =
    alike (λ (i : ℕ). take (length (kind_name model i)) (drop (get_or starts i 0) names)) (kind_name model) 9
    (every_model (λ m. entries (λ (i : ℕ). take (length (kind_name m i)) (drop (get_or starts i 0) names)) 9 0 ≡ entries (kind_name m) 9 0) (refl, (refl, (refl, tt))) model) k h

-- so it is what lies between that place and its own length behind it
pub part : (model : Model) (k n : ℕ) → k < 9 → n ≡ length (kind_name model k) → take (get_or starts k 0 + n - get_or starts k 0) (drop (get_or starts k 0) names) ≡ kind_name model k
part model k n h e = let q : get_or starts k 0 + n - get_or starts k 0 ≡ length (kind_name model k) = omega (arith, e) in rw q (named model k h)

-- every model has the kind of a channel without a reading
pub absent_kind : (model : Model) → 6 < gauge_kinds model
unfolding every
absent_kind model = ltb-true 6 (gauge_kinds model) (tested (λ m. ltb 6 (gauge_kinds m)) refl model)

-- Bytes up to a mark.
use Prim.Native.Nat.{ℕ, suc, ◌+◌, ◌-◌, ◌≤◌, ◌<◌}
use mathlib.Core.Path.{◌≡◌, refl, sym, ◌∙◌}
use mathlib.Core.List.{List, [], ◌∷◌}
use mathlib.Core.Bool.{Bool, true, false, cond, not}
use native.Mathlib.Omega.{arith}
use native.Mathlib.Numerals.{add-one}
use borrow.Author.Tests.{eq-eqb, ne_eqb}
use lib.ListN.{length, get_or, drop, drop_of_length-le}
use lib.Seq.{drop-cons}
use lib.Dec.{eqb}
use Rattle.std.specs.List.{prefix_len}
use Rattle.text.specs.Spans.{until}
use Rattle.std.specs.Prelude.{Option, Some, None}
use Rattle.std.specs.Option.{MatchOption, unwrap_or}
use Rattle.std.specs.List.{slice_range}
use mathlib.Core.Logic.{◌⊎◌, inl, inr}
use denote.Bor.{Bor}
use lib.ListN.{length-drop}
use lib.Seq.{take_all}

module _ (mark : ℕ) where
  pub until_few : (s : List ℕ) → length (until mark s) ≤ length s
  unfolding until
  until_few [] = omega arith
  until_few (b ∷ s) = go (eqb b mark) (until_few s)
    where
      go : (t : Bool) → length (until mark s) ≤ length s → length (cond t [] (b ∷ until mark s)) ≤ length (b ∷ s)
      go true h = omega arith
      go false h = omega arith

  -- as many as are not the mark
  pub until_length : (s : List ℕ) → prefix_len (λ b. not (eqb b mark)) s ≡ length (until mark s)
  unfolding until
  until_length [] = refl
  until_length (b ∷ s) = go (eqb b mark) (until_length s)
    where
      go : (t : Bool) → prefix_len (λ b. not (eqb b mark)) s ≡ length (until mark s)
          → cond (not t) (1 + prefix_len (λ b. not (eqb b mark)) s) 0 ≡ length (cond t [] (b ∷ until mark s))
      go true h = refl
      go false h = omega arith

  module _ (i : ℕ) (s : List ℕ) where
    pub until_here : i < length s → get_or s i 0 ≡ mark → length (until mark (drop i s)) ≡ 0
    unfolding until
    until_here h e = rw (drop-cons s i 0 h, eq-eqb (get_or s i 0) mark e)

    pub until_more : i < length s → (get_or s i 0 ≡ mark → ⊥) → length (until mark (drop i s)) ≡ suc (length (until mark (drop (i + 1) s)))
    unfolding until
    until_more h n = rw (add-one i, drop-cons s i 0 h, ne_eqb (get_or s i 0) mark n)

-- what stands from a place on, where nothing stands behind the end
pub rest_is : (s : List ℕ) (from : ℕ) (r : Option (Bor (List ℕ))) (none : Bor (List ℕ)) → none.now ≡ []
    → MatchOption r ((length s < from) ⊎ (length s < length s)) (λ x. (from ≤ length s) × (length s ≤ length s) × (x.now ≡ slice_range s from (length s)) × (length x.now + from ≡ length s))
    → (unwrap_or r none).now ≡ drop from s
rest_is s from None none e (inl h) = e ∙ sym (drop_of_length-le s {i = from} (omega arith))
rest_is s from None none e (inr h) = absurd (omega arith)
rest_is s from (Some x) none e h = h.2 ∙ take_all (length s - from) (drop from s) (omega (arith, length-drop from s))

-- The tests and the search over the lists of settings and mnemonics.
use Rattle.std.specs.Cmp.Lexicographic.{pointwise}
use Rattle.std.specs.List.{list_all, filter, find}
use Rattle.std.specs.Prelude.{nat_eq}
use Rattle.std.specs.Prelude.{Some, None}
use Prim.Native.Nat.{ℕ, suc, ◌+◌, ◌<◌}
use mathlib.Core.Path.{◌≡◌, refl, sym, ap, ◌∙◌}
use mathlib.Core.List.{List, [], ◌∷◌}
use mathlib.Core.Bool.{Bool, true, false, cond, ◌&&◌, and-false, and-eq-true_iff}
use native.Mathlib.Omega.{arith}
use native.Mathlib.Numerals.{add-one}
use lib.ListN.{length, get_or, drop}
use lib.Seq.{drop-cons}
use lib.Dec.{eqb}
use borrow.Author.Tests.{eqb-true}
use Rattle.ground.specs.Members.{every, Each, those}
use Rattle.ground.proofs.Cases.{never}
use Rattle.ground.proofs.Members.{every_each, each_those}
use Rattle.settings.specs.Table.{switching_entry, stored_entry}
use Rattle.settings.specs.Mnemonics.{knows, mnemonics, known, name, same, found, recognised}
use Rattle.settings.specs.declared.model.Model.{Model}
use Rattle.settings.specs.declared.mnemonic.Mnemonic.{Mnemonic}

-- ---- the words of the library for tests over a list

module _ {A : Type 0} (p : A → Bool) where
  pub all_every : (xs : List A) → list_all p xs ≡ every p xs
  unfolding every
  all_every [] = refl
  all_every (x ∷ xs) = rw (all_every xs)

  pub filter_those : (xs : List A) → filter p xs ≡ those p xs
  filter_those [] = refl
  filter_those (x ∷ xs) = rw (filter_those xs)

-- ---- the search

pub same_pointwise : (xs ys : List ℕ) → pointwise nat_eq xs ys ≡ same xs ys
unfolding same
same_pointwise [] [] = refl
same_pointwise [] (y ∷ ys) = refl
same_pointwise (x ∷ xs) [] = refl
same_pointwise (x ∷ xs) (y ∷ ys) = rw (same_pointwise xs ys)

-- a name of three letters is those letters
pub three_letters : (xs : List ℕ) → length xs ≡ 3 → get_or xs 0 0 ∷ get_or xs 1 0 ∷ get_or xs 2 0 ∷ [] ≡ xs
three_letters [] h = absurd (omega (arith, h))
three_letters (a ∷ []) h = absurd (omega (arith, h))
three_letters (a ∷ b ∷ []) h = absurd (omega (arith, h))
three_letters (a ∷ b ∷ c ∷ []) h = refl
three_letters (a ∷ b ∷ c ∷ d ∷ xs) h = absurd (omega (arith, h))

-- the first of a list that passes two tests is the first of those that pass the second
pub find_found : (w : List ℕ) (p : Mnemonic → Bool) (ms : List Mnemonic) → find (λ m. same (name m) w && p m) ms ≡ found w (those p ms)
unfolding found
find_found w p [] = refl
find_found w p (m ∷ ms) = by (same (name m) w) (p m) refl (find_found w p ms)
  where
    by : (s t : Bool) → same (name m) w ≡ s → find (λ x. same (name x) w && p x) ms ≡ found w (those p ms)
        → cond (s && t) (Some m) (find (λ x. same (name x) w && p x) ms) ≡ found w (cond t (m ∷ those p ms) (those p ms))
    by true true q e = rw q
    by true false q e = e
    by false true q e = rw q e
    by false false q e = e

-- the same by places: among those of a list of which a test holds, from the place i on
module _ (w : List ℕ) (p : Mnemonic → Bool) (ms : List Mnemonic) (i : ℕ) (d : Mnemonic) where
  pub found_hit : i < length ms → same (name (get_or ms i d)) w && p (get_or ms i d) ≡ true → found w (those p (drop i ms)) ≡ Some (get_or ms i d)
  unfolding found
  found_hit h e =
      let b = (and-eq-true_iff (same (name (get_or ms i d)) w) (p (get_or ms i d))).0 e in
      rw (drop-cons ms i d h, b.1, b.0)

  pub found_miss : i < length ms → same (name (get_or ms i d)) w && p (get_or ms i d) ≡ false → found w (those p (drop i ms)) ≡ found w (those p (drop (i + 1) ms))
  unfolding found
  found_miss h = let x = get_or ms i d in rw (add-one i, drop-cons ms i d h) (by (same (name x) w) (p x) refl)
    where
      by : (s t : Bool) → same (name (get_or ms i d)) w ≡ s → s && t ≡ false
          → found w (cond t (get_or ms i d ∷ those p (drop (suc i) ms)) (those p (drop (suc i) ms))) ≡ found w (those p (drop (suc i) ms))
      by true true q e = never (cc)
      by true false q e = refl
      by false true q e = rw q
      by false false q e = refl

-- ---- a word of another length names nothing

unlike : (s w : List ℕ) → (length s ≡ length w → ⊥) → same s w ≡ false
unfolding same
unlike [] [] h = absurd (h refl)
unlike [] (b ∷ w) h = refl
unlike (a ∷ s) [] h = refl
unlike (a ∷ s) (b ∷ w) h = rw (unlike s w (λ e. h (ap suc e))) (and-false (eqb a b))

nothing_found : (ms : List Mnemonic) (w : List ℕ) → Each (λ m. eqb (length (name m)) 3 ≡ true) ms → (length w ≡ 3 → ⊥) → found w ms ≡ None
unfolding found
nothing_found [] w e h = refl
nothing_found (m ∷ ms) w e h =
    rw (unlike (name m) w (λ q. h (sym q ∙ eqb-true (length (name m)) 3 e.0))) (nothing_found ms w e.1 h)

pub not_three : (model : Model) (w : List ℕ) → (length w ≡ 3 → ⊥) → recognised model w ≡ None
unfolding recognised known switching_entry stored_entry every
not_three model w h =
    nothing_found (known model) w
    (each_those (λ m. eqb (length (name m)) 3 ≡ true) (knows model) mnemonics (every_each (λ m. eqb (length (name m)) 3) mnemonics refl)) h

-- What an array has that a closure made, where the closure computes a function.
use Prim.Native.Nat.{ℕ, zero, suc, ◌+◌, ◌≤◌, ◌<◌}
use mathlib.Core.Path.{◌≡◌, refl, sym, subst, ◌∙◌}
use mathlib.Core.List.{List, map}
use mathlib.Core.Logic.{⊎_elim}
use native.Mathlib.Omega.{arith}
use denote.Param.Members.{Mut}
use lib.ListN.{length, get_or, length-map, get_or-map}
use Rattle.std.proofs.lemmas.List.{ext_get_or}
use Rattle.std.specs.Array.{IsMapOf, MapsFrom, IsFromFnResult, IsFromFnResultFrom}
use Rattle.std.specs.Fn.{Called}
use Rattle.ground.proofs.Cases.{below}

-- the elements of an array, each as h makes it
module _ {F A B : Type 0} (g : Mut F (A × Unit {0}) B) (f : F) (h : A → B) (k : (x : A) (y : B) (q : F) → Called g f (x, tt) y q → (q ≡ f) × (y ≡ h x)) where
  mapped_at : (xs : List A) (ys : List B) (n i j : ℕ) (p : F) → p ≡ f → MapsFrom g p xs ys i n → i ≤ j → j < i + n → (d : A) (e : B) → get_or ys j e ≡ h (get_or xs j d)
  mapped_at xs ys zero i j p s m l u d e = absurd (omega arith)
  mapped_at xs ys (suc n) i j p s (q, x, y, ex, ey, c, m) l u d e =
      let r = k x y q (subst (λ v. Called g v (x, tt) y q) s c) in
      ⊎_elim (λ (b : i < j). mapped_at xs ys n (i + 1) j q r.0 m (omega arith) (omega arith) d e)
      (λ (b : j ≤ i). let o : j ≡ i = omega arith in rw (o, ey.1 e, ex.1 d) r.1) (below i j)

  pub array_mapped : (xs : List A) (ys : List B) (n : ℕ) (d : A) → length xs ≡ n → IsMapOf g f xs ys n → ys ≡ map h xs
  array_mapped xs ys n d s m =
      ext_get_or (h d) ys (map h xs) (m.long ∙ sym s ∙ sym (length-map xs h))
      (λ i l. mapped_at xs ys n 0 i f refl m.each (omega arith) (omega (arith, m.long)) d (h d) ∙ sym (get_or-map h xs i d))

-- what h gives at the numbers from 0 on
module _ {F B : Type 0} (g : Mut F (ℕ × Unit {0}) B) (f : F) (h : ℕ → B) (k : (x : ℕ) (y : B) (q : F) → Called g f (x, tt) y q → (q ≡ f) × (y ≡ h x)) where
  numbered_at : (ys : List B) (n i j : ℕ) (p : F) → p ≡ f → IsFromFnResultFrom g p ys i n → i ≤ j → j < i + n → (e : B) → get_or ys j e ≡ h j
  numbered_at ys zero i j p s m l u e = absurd (omega arith)
  numbered_at ys (suc n) i j p s (q, y, ey, c, m) l u e =
      let r = k i y q (subst (λ v. Called g v (i, tt) y q) s c) in
      ⊎_elim (λ (b : i < j). numbered_at ys n (i + 1) j q r.0 m (omega arith) (omega arith) e)
      (λ (b : j ≤ i). let o : j ≡ i = omega arith in rw (o, ey.1 e) r.1) (below i j)

  pub array_numbered : (ys zs : List B) (n : ℕ) (d : B) → length zs ≡ n → ((j : ℕ) → j < n → get_or zs j d ≡ h j) → IsFromFnResult g f ys n → ys ≡ zs
  array_numbered ys zs n d s z m =
      ext_get_or d ys zs (m.long ∙ sym s)
      (λ i l. let b : i < n = omega (arith, m.long) in numbered_at ys n 0 i f refl m.each (omega arith) (omega (arith, b)) d ∙ sym (z i b))

-- what is known of an array of structs is said of the list of what they hold
pub length-mapped : (X Y : Type 0) (f : X → Y) (l : List X) (n : ℕ) → length (map f l) ≡ n → length l ≡ n
length-mapped X Y f l n e = sym (length-map l f) ∙ e

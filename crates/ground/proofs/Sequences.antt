-- Lists by their places: laws that the library lacks.
use Prim.Native.Nat.{ℕ, zero, suc, ◌≤◌, ◌<◌, min}
use mathlib.Core.Path.{◌≡◌, refl, ap}
use mathlib.Core.List.{List, [], ◌∷◌, map}
use mathlib.Core.Logic.{⊎_elim}
use native.Mathlib.Nat.{min-eq_left, min-eq_right, le_of_lt}
use native.Mathlib.Omega.{arith}
use lib.ListN.{length, set, take, drop}
use lib.Seq.{take_all}
use Rattle.ground.proofs.Cases.{below, never}

-- the first of what f gives are what it gives of the first
pub map_take : {A B : Type 0} (f : A → B) (n : ℕ) (xs : List A) → take n (map f xs) ≡ map f (take n xs)
map_take f zero xs = refl
map_take f (suc n) [] = refl
map_take f (suc n) (x ∷ xs) = ap (λ (l : List _). f x ∷ l) (map_take f n xs)

-- a place set among the first
pub take_set : {A : Type 0} (n i : ℕ) (v : A) (l : List A) → take n (set l i v) ≡ set (take n l) i v
take_set zero i v l = refl
take_set (suc n) i v [] = refl
take_set (suc n) zero v (x ∷ l) = refl
take_set (suc n) (suc i) v (x ∷ l) = ap (λ (t : List _). x ∷ t) (take_set n i v l)

-- places past the last add nothing
pub take_min : {A : Type 0} (n m : ℕ) (l : List A) → length l ≡ m → take (min n m) l ≡ take n l
take_min n m l e =
    ⊎_elim (λ (h : n < m). rw (min-eq_left (le_of_lt h)))
    (λ (h : m ≤ n). rw (min-eq_right h, take_all m l (omega arith), take_all n l (omega arith))) (below n m)

-- two places next to each other
pub set_two : {A : Type 0} (l : List A) (n : ℕ) (a b : A) → suc n < length l → drop n (set (set l n a) (suc n) b) ≡ a ∷ b ∷ drop (suc (suc n)) l
set_two [] n a b h = never (omega arith)
set_two (x ∷ []) n a b h = never (omega arith)
set_two (x ∷ y ∷ l) zero a b h = refl
set_two (x ∷ y ∷ l) (suc n) a b h = set_two (y ∷ l) n a b (omega arith)

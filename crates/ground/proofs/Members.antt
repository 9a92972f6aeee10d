-- Facts that hold of every member of a list.
use Prim.Native.Nat.{ℕ, zero, suc}
use mathlib.Core.Path.{◌≡◌, refl, sym, ap, ◌∙◌}
use mathlib.Core.List.{List, [], ◌∷◌, ◌++◌, map}
use mathlib.Core.Bool.{Bool, true, false, cond, ◌&&◌, and_assoc, and-eq-true_iff}
use lib.ListN.{get_or, take, drop}
use Rattle.ground.specs.Members.{Each, every, those}
use Rattle.ground.proofs.Cases.{cond_cases, never}

module _ {A : Type 0} where
  pub each_map : (P Q : A → Type 0) → ((x : A) → P x → Q x) → (xs : List A) → Each P xs → Each Q xs
  each_map P Q f [] p = tt
  each_map P Q f (x ∷ xs) p = (f x p.0, each_map P Q f xs p.1)

  pub each_both : (P Q R : A → Type 0) → ((x : A) → P x → Q x → R x) → (xs : List A) → Each P xs → Each Q xs → Each R xs
  each_both P Q R f [] p q = tt
  each_both P Q R f (x ∷ xs) p q = (f x p.0 q.0, each_both P Q R f xs p.1 q.1)

  pub each_all : (P : A → Type 0) → ((x : A) → P x) → (xs : List A) → Each P xs
  each_all P f [] = tt
  each_all P f (x ∷ xs) = (f x, each_all P f xs)

  pub each_take : (P : A → Type 0) (n : ℕ) (xs : List A) → Each P xs → Each P (take n xs)
  each_take P zero xs p = tt
  each_take P (suc n) [] p = tt
  each_take P (suc n) (x ∷ xs) p = (p.0, each_take P n xs p.1)

  pub each_drop : (P : A → Type 0) (n : ℕ) (xs : List A) → Each P xs → Each P (drop n xs)
  each_drop P zero xs p = p
  each_drop P (suc n) [] p = tt
  each_drop P (suc n) (x ∷ xs) p = each_drop P n xs p.1

  pub each_append : (P : A → Type 0) (xs ys : List A) → Each P xs → Each P ys → Each P (xs ++ ys)
  each_append P [] ys p q = q
  each_append P (x ∷ xs) ys p q = (p.0, each_append P xs ys p.1 q)

  -- what holds of what stands for a missing member too holds at every place
  pub each_at : (P : A → Type 0) (xs : List A) (d : A) → P d → Each P xs → (k : ℕ) → P (get_or xs k d)
  each_at P [] d p e k = p
  each_at P (x ∷ xs) d p e zero = e.0
  each_at P (x ∷ xs) d p e (suc k) = each_at P xs d p e.1 k

  -- the test over a list tells of each member, and the other way round
  pub every_each : (p : A → Bool) (xs : List A) → every p xs ≡ true → Each (λ x. p x ≡ true) xs
  unfolding every
  every_each p [] e = tt
  every_each p (x ∷ xs) e = let b = (and-eq-true_iff (p x) (every p xs)).0 e in (b.0, every_each p xs b.1)

  pub each_every : (p : A → Bool) (xs : List A) → Each (λ x. p x ≡ true) xs → every p xs ≡ true
  unfolding every
  each_every p [] e = refl
  each_every p (x ∷ xs) e = rw e.0 (each_every p xs e.1)

-- those of which a test holds
module _ {A : Type 0} where
  pub each_those : (P : A → Type 0) (p : A → Bool) (xs : List A) → Each P xs → Each P (those p xs)
  each_those P p [] e = tt
  each_those P p (x ∷ xs) e = cond_cases (Each P) (p x) (x ∷ those p xs) (those p xs) (λ _. (e.0, each_those P p xs e.1)) (λ _. each_those P p xs e.1)

  pub those_each : (p : A → Bool) (xs : List A) → Each (λ x. p x ≡ true) (those p xs)
  those_each p [] = tt
  those_each p (x ∷ xs) = cond_cases (Each (λ y. p y ≡ true)) (p x) (x ∷ those p xs) (those p xs) (λ t. (t, those_each p xs)) (λ _. those_each p xs)

  -- what holds of them holds of every member for which the test does
  pub each_taken : (P : A → Type 0) (p : A → Bool) (xs : List A) → Each P (those p xs) → Each (λ x. p x ≡ true → P x) xs
  each_taken P p [] e = tt
  each_taken P p (x ∷ xs) e = by (p x) refl e (each_taken P p xs)
    where
      by : (t : Bool) → p x ≡ t → Each P (cond t (x ∷ those p xs) (those p xs)) → (Each P (those p xs) → Each (λ y. p y ≡ true → P y) xs) → Each (λ y. p y ≡ true → P y) (x ∷ xs)
      by true q e f = ((λ _. e.0), f e.1)
      by false q e f = ((λ t. never (cc)), f e)

-- every two members, the earlier one first
abbrev pub Pairwise : {A : Type 0} → (A → A → Type 0) → List A → Type 0
Pairwise R [] = Unit {0}
Pairwise R (x ∷ xs) = Each (R x) xs × Pairwise R xs

unfoldable pub pairwise : {A : Type 0} → (A → A → Bool) → List A → Bool
pairwise p [] = true
pairwise p (x ∷ xs) = every (p x) xs && pairwise p xs

module _ {A : Type 0} (R : A → A → Type 0) where
  pub pairwise_by : (p : A → A → Bool) → ((x y : A) → p x y ≡ true → R x y) → (xs : List A) → pairwise p xs ≡ true → Pairwise R xs
  unfolding pairwise
  pairwise_by p f [] e = tt
  pairwise_by p f (x ∷ xs) e =
      let b = (and-eq-true_iff (every (p x) xs) (pairwise p xs)).0 e in
      (each_map (λ y. p x y ≡ true) (R x) (f x) xs (every_each (p x) xs b.0), pairwise_by p f xs b.1)

  pub pairwise_those : (p : A → Bool) (xs : List A) → Pairwise R xs → Pairwise R (those p xs)
  pairwise_those p [] d = tt
  pairwise_those p (x ∷ xs) d =
      cond_cases (Pairwise R) (p x) (x ∷ those p xs) (those p xs)
      (λ _. (each_those (R x) p xs d.0, pairwise_those p xs d.1)) (λ _. pairwise_those p xs d.1)

pub map_each : {A B : Type 0} (f g : A → B) (xs : List A) → map f xs ≡ map g xs → Each (λ x. f x ≡ g x) xs
map_each f g [] e = tt
map_each f g (x ∷ xs) e = (cc, map_each f g xs (cc))

-- over two lists joined
pub every_append : {A : Type 0} (p : A → Bool) (xs ys : List A) → every p xs && every p ys ≡ every p (xs ++ ys)
unfolding every
every_append p [] ys = refl
every_append p (x ∷ xs) ys = and_assoc (p x) (every p xs) (every p ys) ∙ ap (λ (t : Bool). p x && t) (every_append p xs ys)

-- over one member more
pub every_snoc : {A : Type 0} (p : A → Bool) (xs : List A) (x : A) → every p xs ≡ true → p x ≡ true → every p (xs ++ (x ∷ [])) ≡ true
unfolding every
every_snoc p xs x h e = sym (every_append p xs (x ∷ [])) ∙ rw (h, e)

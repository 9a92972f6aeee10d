-- Tables: a rule at each entry from the whole table, computed once.
use Prim.Native.Nat.{ℕ, zero, suc, ◌+◌, ◌<◌}
use mathlib.Core.Path.{◌≡◌, refl, sym, ap, ◌∙◌}
use mathlib.Core.List.{List, [], ◌∷◌}
use mathlib.Core.Bool.{Bool, true}
use native.Mathlib.Omega.{arith}
use native.Mathlib.Nat.{le_of_suc-le-suc, not-suc-le-zero, zero-add}
use lib.ListN.{length, get_or, replicate, get_or-replicate}

module _ {A : Type 0} where
  -- what f gives at n numbers from i on
  abbrev pub entries : (ℕ → A) → ℕ → ℕ → List A
  entries f zero i = []
  entries f (suc n) i = f i ∷ entries f n (suc i)

  entries_at : (f : ℕ → A) (n i k : ℕ) (d : A) → k < n → get_or (entries f n i) k d ≡ f (i + k)
  entries_at f zero i k d h = absurd (not-suc-le-zero h)
  entries_at f (suc n) i zero d h = let e : i ≡ i + 0 = omega arith in ap f e
  entries_at f (suc n) i (suc k) d h =
      let e : suc i + k ≡ i + suc k = omega arith in
      entries_at f n (suc i) k d (le_of_suc-le-suc h) ∙ ap f e

  -- f is what the table has, if it is so at all n places
  pub tabled : (f : ℕ → A) (n : ℕ) (l : List A) → entries f n 0 ≡ l → (k : ℕ) (d : A) → k < n → f k ≡ get_or l k d
  tabled f n l e k d h = sym (entries_at f n 0 k d h ∙ ap f (zero-add k)) ∙ ap (λ (m : List A). get_or m k d) e

  -- two rules that give the same at all n places give the same at each
  pub alike : (f g : ℕ → A) (n : ℕ) → entries f n 0 ≡ entries g n 0 → (k : ℕ) → k < n → f k ≡ g k
  alike f g n e k h = tabled f n (entries g n 0) e k (f k) h ∙ sym (tabled g n (entries g n 0) refl k (f k) h)

  -- a list is all that it has at its places
  entries_behind : (x : A) (xs : List A) (d : A) (n i : ℕ) → entries (λ k. get_or (x ∷ xs) k d) n (suc i) ≡ entries (λ k. get_or xs k d) n i
  entries_behind x xs d zero i = refl
  entries_behind x xs d (suc n) i = ap (λ (l : List A). get_or xs i d ∷ l) (entries_behind x xs d n (suc i))

  pub entries_all : (l : List A) (d : A) → entries (λ k. get_or l k d) (length l) 0 ≡ l
  entries_all [] d = refl
  entries_all (x ∷ xs) d = ap (λ (l : List A). x ∷ l) (entries_behind x xs d (length xs) 0 ∙ entries_all xs d)

  -- an entry does not depend on what stands for a missing one
  pub entry : (l : List A) (d e : A) (k : ℕ) → k < length l → get_or l k d ≡ get_or l k e
  entry [] d e k h = absurd (not-suc-le-zero h)
  entry (x ∷ xs) d e zero h = refl
  entry (x ∷ xs) d e (suc k) h = entry xs d e k (le_of_suc-le-suc h)

-- a test that holds at all n places holds at each
pub everywhere : (f : ℕ → Bool) (n : ℕ) → entries f n 0 ≡ replicate n true → (k : ℕ) → k < n → f k ≡ true
everywhere f n e k h = tabled f n (replicate n true) e k true h ∙ get_or-replicate n k true true h

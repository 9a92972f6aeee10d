-- What is said of every member of a list: of all lines of a sheet, of all fields of a line.
use Rattle.std.specs.Prelude.{ℕ, List, [], ◌∷◌, Bool, true, false, cond, ◌&&◌, eqb}

-- a test holds of every member
unfoldable pub every : {A : Type 0} → (A → Bool) → List A → Bool
every p [] = true
every p (x ∷ xs) = p x && every p xs

-- a fact holds of every member
abbrev pub Each : {A : Type 0} → (A → Type 0) → List A → Type 0
Each P [] = Unit {0}
Each P (x ∷ xs) = P x × Each P xs

-- those members of which a test holds
abbrev pub those : {A : Type 0} → (A → Bool) → List A → List A
those p [] = []
those p (x ∷ xs) = cond (p x) (x ∷ those p xs) (those p xs)

-- the member of a number, with its type: where no member has the number there is none, and the type is another
abbrev pub or_else : {A : Type 0} → Bool → A → (T : Type 0) × T → (T : Type 0) × T
or_else {A} true x other = (A, x)
or_else false x other = other

abbrev pub by_number : {A : Type 0} → (A → ℕ) → List A → ℕ → (T : Type 0) × T
by_number number [] n = (Unit {0}, tt)
by_number number (x ∷ xs) n = or_else (eqb (number x) n) x (by_number number xs n)

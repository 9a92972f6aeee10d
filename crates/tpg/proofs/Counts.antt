-- The count of bytes taken is the one that the rule of 64 free bytes allows, and no other.
use Prim.Native.Nat.{ℕ, zero, suc, ◌*◌, ◌-◌, ◌≤◌, ◌<◌}
use mathlib.Core.Path.{◌≡◌, refl, ap}
use mathlib.Core.List.{List, [], ◌∷◌}
use native.Mathlib.Omega.{arith}
use borrow.Author.Tests.{leb-true, leb-false, le-leb}
use lib.ListN.{length, take, length-append}
use lib.Dec.{leb}
use Rattle.ground.proofs.Cases.{cond_cases}
use Rattle.tpg.specs.Answers.{least_output}
use Rattle.tpg.specs.Steps.{next, sent, said, taken}
use Rattle.tpg.specs.declared.State.{State}
use Rattle.tpg.proofs.Sending.{sent_length}

-- not more than there are
pub taken_few : (l : List ℕ) (s : State) (free : ℕ) → taken s l free ≤ length l
unfolding taken
taken_few [] s free = omega arith
taken_few (b ∷ bs) s free =
    cond_cases (λ n. n ≤ suc (length bs)) (leb least_output free) (suc (taken (next s b) bs (free - length (sent s b)))) 0
    (λ _. omega (arith, taken_few bs (next s b) (free - length (sent s b)))) (λ _. omega arith)

room_at : (s : State) (b : ℕ) (bs : List ℕ) (free n : ℕ) → least_output ≤ free
    → ((j : ℕ) → j < n → least_output ≤ free - length (sent s b) - length (said (next s b) (take j bs)))
    → (i : ℕ) → i < suc n → least_output ≤ free - length (said s (take i (b ∷ bs)))
unfolding said
room_at s b bs free n r f zero h = omega arith
room_at s b bs free n r f (suc j) h =
    let q = f j (omega arith) in
    rw (length-append (sent s b) (said (next s b) (take j bs))) (omega (arith, q))

-- before each byte that is taken 64 bytes are free
pub taken_room : (l : List ℕ) (s : State) (free i : ℕ) → i < taken s l free → least_output ≤ free - length (said s (take i l))
unfolding taken said
taken_room [] s free i = λ h. absurd (omega arith)
taken_room (b ∷ bs) s free i =
    cond_cases (λ n. i < n → least_output ≤ free - length (said s (take i (b ∷ bs)))) (leb least_output free) (suc (taken (next s b) bs (free - length (sent s b)))) 0
    (λ e. room_at s b bs free (taken (next s b) bs (free - length (sent s b))) (leb-true least_output free e) (taken_room bs (next s b) (free - length (sent s b))) i)
    (λ _ h. absurd (omega arith))

-- and where one is left, not before it
pub taken_stop : (l : List ℕ) (s : State) (free : ℕ) → taken s l free < length l → free - length (said s (take (taken s l free) l)) < least_output
unfolding taken said
taken_stop [] s free = λ h. absurd (omega arith)
taken_stop (b ∷ bs) s free =
    cond_cases (λ n. n < suc (length bs) → free - length (said s (take n (b ∷ bs))) < least_output) (leb least_output free) (suc (taken (next s b) bs (free - length (sent s b)))) 0
    (λ _ h. let q = taken_stop bs (next s b) (free - length (sent s b)) (omega arith) in
    rw (length-append (sent s b) (said (next s b) (take (taken (next s b) bs (free - length (sent s b))) bs))) (omega (arith, q)))
    (λ e h. omega (arith, leb-false least_output free e))

-- with 64 bytes for each there is room for all
pub all_taken : (l : List ℕ) (s : State) (free : ℕ) → least_output * length l ≤ free → taken s l free ≡ length l
unfolding taken
all_taken [] s free h = refl
all_taken (b ∷ bs) s free h =
    rw (le-leb least_output free (omega arith)) (ap suc (all_taken bs (next s b) (free - length (sent s b)) (omega (arith, sent_length s b))))

-- The rule of 64 free bytes fixes both counts: how many bytes are taken, and how many written.
use Prim.Native.Nat.{ℕ, ◌≤◌, ◌<◌}
use mathlib.Core.Path.{◌≡◌, refl}
use mathlib.Core.List.{List}
use mathlib.Core.Bool.{true}
use mathlib.Core.Logic.{⊎_elim}
use native.Mathlib.Omega.{arith}
use borrow.Author.Tests.{le-leb}
use lib.ListN.{length, take}
use Rattle.ground.proofs.Cases.{below}
use Rattle.tpg.specs.Answers.{least_output}
use Rattle.tpg.specs.States.{state_within}
use Rattle.tpg.specs.Steps.{said, taken}
use Rattle.tpg.specs.Calls.{admits, roomed, hosted}
use Rattle.tpg.specs.declared.State.{State}
use Rattle.tpg.proofs.Counts.{taken_few, taken_room, taken_stop}
use Rattle.demands.specs.Calls.{host, outcome}
use Rattle.demands.specs.Demands.{Allowed, Rule}

-- the box counts by the rule
pub taken_rule : Rule taken
taken_rule s input room = record { few = taken_few input s room; free = taken_room input s room; full = taken_stop input s room }

-- where one count stops, no other goes on
no_more : (s : State) (input : List ℕ) (room n m : ℕ) → Allowed s input room n → Allowed s input room m → m ≤ n
no_more s input room n m p q = ⊎_elim (λ (h : n < m). absurd (omega (arith, q.free n h, p.full (omega arith)))) (λ (h : m ≤ n). h) (below n m)

-- no other count meets it
pub rule_decides : (takes : State → List ℕ → ℕ → ℕ) → Rule takes → (s : State) (input : List ℕ) (room : ℕ) → takes s input room ≡ taken s input room
rule_decides takes rule s input room =
    let n = takes s input room in
    let m = taken s input room in
    let p = rule s input room in
    let q = taken_rule s input room in
    omega (arith, no_more s input room n m p q, no_more s input room m n q p)

-- "the rule of 64 free bytes fixes both": what a call tells as taken and written is what any way of counting by the rule gives
pub counts_decided : (takes : State → List ℕ → ℕ → ℕ) → Rule takes → (s : State) → state_within s ≡ true → (input : List ℕ) (room : ℕ) → least_output ≤ room
    → ((outcome s (host input room)).taken ≡ takes s input room) × ((outcome s (host input room)).written ≡ length (said s (take (takes s input room) input)))
unfolding roomed admits hosted
counts_decided takes rule s w input room h = rw (w, le-leb least_output room h, rule_decides takes rule s input room) (refl, refl)

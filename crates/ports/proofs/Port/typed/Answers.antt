-- The run is typed byte by byte on the port as its first byte settles it (`settled_first`, `gathered_all`).
use Prim.Native.Nat.{ℕ, ◌-◌, ◌<◌}
use Rattle.std.proofs.Common.{◌≡◌, ◌+◌, ◌≤◌, length, drop, List, [], ◌∷◌, refl, ap, ◌∙◌, arith, rules, tests}
use Rattle.std.specs.Option.{unwrap_or}
use lib.ListN.{length-drop}
use Rattle.text.proofs.Marks.{rest_is}
use Rattle.ports.specs.Walk.{typing, typed_all}
use Rattle.ports.specs.declared.Port.{Port}
use Rattle.ports.specs.declared.typing.Typed.{Typed}
use Rattle.ports.proofs.Characters.{typed_count, settled_first, passed, gathered, gathered_all}
use Rattle.ports.proofs.Port.typed.Goals.{then-b-ne-SPACE, else-b-ne-SPACE}
use Rattle.ports.proofs.Port.typed.Goals.{After-typed_run-run}
use Rattle.ports.proofs.Port.typed.Goals as goal

run_is : (c : After-typed_run-run) → c.typed_run-run.result.now ≡ typing (drop c.args.from c.args.input.now)
run_is c =
    let a = c.args in
    c.typed_run-run.ensures ∙ ap typing (ap (λ x. x.now) c.unwrap_or.ensures ∙ rest_is a.input.now a.from c.get.result _ refl c.get.ensures.lookup.0)

no_run : (p : Port) (from : ℕ) (run : List ℕ) → length run ≡ 0 → ◌≡◌ {A = Typed} (record { port = p; at = from }) (record { port = typed_all p run; at = from + length run })
unfolding typed_all
no_run p from [] e = let q : from ≡ from + 0 = omega arith in ap (λ n. record { port = p; at = n }) q
no_run p from (b ∷ bs) e = absurd (omega arith)

pub returns-then-is_empty : goal.returns-then-is_empty
returns-then-is_empty c =
    let a = c.args in
    let e = run_is (goal.at.returns-then-is_empty c).After-typed_run-run in
    no_run a.self a.from c.typed_run-run.result.now (search (rules, tests)) ∙ (λ i. record { port = typed_all a.self (e i); at = a.from + length (e i) })

pub loop-b-init : goal.loop-b-init
loop-b-init c = rw c.settled-port.ensures (settled_first c.args.self c.typed_run-run.result.now (search (rules, tests)))

pub loop-b-preserved : goal.loop-b-preserved
loop-b-preserved c =
    elim c.if-b-ne-SPACE.branch [
      | then-b-ne-SPACE w ↦ rw (w.port-is, w.grow.ensures) (gathered c.loop-b.invariant c.loop-b-test.true w.if-b-ne-SPACE.true)
      | else-b-ne-SPACE w ↦ rw w.port-is (passed c.loop-b.invariant c.loop-b-test.true w.if-b-ne-SPACE.false)
    ]

pub overflow_add-result : goal.overflow_add-result
overflow_add-result c =
    let a = c.args in
    let e = ap length (run_is (goal.at.overflow_add-result c).After-typed_run-run) in
    let some : 0 < length c.typed_run-run.result.now = search (rules, tests) in
    let h : a.from + length c.typed_run-run.result.now ≤ length a.input.now = omega (arith, e, typed_count (drop a.from a.input.now), length-drop a.from a.input.now) in
    search rules

pub returns : goal.returns
returns c =
    let a = c.args in
    let e = run_is (goal.at.returns c).After-typed_run-run in
    let typed = gathered_all c.loop-b.invariant c.loop-b-test.false ∙ ap (typed_all a.self) e in
    λ i. record { port = typed i; at = a.from + length (e i) }

-- From the last byte on each is turned into its digits; the bytes before it still stand.
use Prim.Native.Nat.{ℕ, suc, ◌-◌, ◌*◌, ◌+◌}
use mathlib.Core.Path.{◌≡◌, refl, subst}
use native.Mathlib.Omega.{arith}
use Rattle.frames.proofs.Spreading.{Spread, start, step, ended}
use Rattle.frames.proofs.spread.spread.Goals as goal

pub loop-i-init : goal.loop-i-init
loop-i-init c = start c.args.out.now c.args.count (omega (arith, c.requires))

pub loop-i-preserved : goal.loop-i-preserved
loop-i-preserved c =
    let l = c.loop-i in
    let k : ℕ = l.i - 1 in
    let e : l.i ≡ suc k = omega (arith, c.loop-i-test.true) in
    let place : 3 + 2 * k ≡ 2 + 2 * k + 1 = omega arith in
    rw (c.pair.ensures, place) (step _ _ _ k (subst (λ (i : ℕ). Spread c.args.out.now l.out c.args.count i) e l.invariant))

pub returns : goal.returns
returns c =
    let l = c.loop-i in
    let a = c.args in
    let e : l.i ≡ 0 = omega (arith, c.loop-i-test.false) in
    (refl, rw c.pair-2.ensures (ended _ _ _ a.number (subst (λ (i : ℕ). Spread a.out.now l.out a.count i) e l.invariant)))

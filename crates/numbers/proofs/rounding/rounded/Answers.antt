-- `rounding::rounded`: what was placed has five digits; they and their power are those of the definition, carried or not.
-- the digits and the power, of the parameters themselves
use Prim.Native.Nat.{ℕ, ◌≤◌}
use mathlib.Core.Path.{◌≡◌, sym, ap, ap₂, ◌∙◌}
use borrow.Author.Rules.{rules}
use borrow.Author.Tests.{eq-eqb, ne_eqb}
use lib.IntN.{pos, nat_abs, ◌+ℤ◌}
use mir.Syntax.{w32}
use mir.Val.{SFits}
use mir.Facts.{to_z-of_z}
use native.Mathlib.Omega.{arith}
use Rattle.numbers.specs.Numbers.{five}
use Rattle.numbers.specs.Rounding.{nearest, digits, power, rounded}
use Rattle.numbers.proofs.Nearest.{placed, power_near}
use Rattle.numbers.proofs.Signed.{small, abs_add}
use Rattle.numbers.proofs.rounding.rounded.Goals as goal
use Rattle.numbers.proofs.rounding.rounded.Goals.{After-nearest}

digits_are : (c : goal.After-nearest) → c.nearest.result ≡ digits five c.args.over c.args.under
unfolding digits
digits_are c =
    c.nearest.ensures
    ∙ ap₂ nearest (ap (λ (r : ℕ × ℕ). r.0) c.climb-n.ensures) (ap (λ (r : ℕ × ℕ). r.0) c.climb-d.ensures)

exponent : (c : goal.After-nearest)
    → c.power-exponent.result ≡ power five c.args.over c.args.under c.args.tens
unfolding power
exponent c =
    rw (c.power-exponent.ensures, to_z-of_z c.ranges.tens, c.climb-n.ensures, c.climb-d.ensures)

near : (c : goal.After-nearest) → nat_abs c.power-exponent.result ≤ 1020
near c =
    let a = c.args in
    rw (exponent c) (omega (arith, power_near five a.over a.under (omega arith) a.tens))

held : (c : goal.After-nearest) → SFits w32 c.power-exponent.result
held c = small _ (omega (arith, near c))

carried : (c : goal.After-nearest) → SFits w32 (c.power-exponent.result +ℤ pos 1)
carried c = small _ (omega (arith, near c, abs_add c.power-exponent.result (pos 1)))

pub nearest-requires : goal.nearest-requires
nearest-requires c =
    let a = c.args in
    let p = placed five a.over a.under (omega arith) in
    rw (c.climb-n.ensures, c.climb-d.ensures) (omega (arith, p))

pub power-exponent-requires : goal.power-exponent-requires
power-exponent-requires c =
    let a = c.args in
    let p = placed five a.over a.under (omega arith) in
    rw (to_z-of_z c.ranges.tens, c.climb-n.ensures, c.climb-d.ensures) (omega arith, omega (arith, p.moved))

pub overflow_add-result : goal.overflow_add-result
overflow_add-result c = rw (to_z-of_z (held (goal.at.overflow_add-result c).After-nearest)) (carried (goal.at.overflow_add-result c).After-nearest)

pub returns-in-100000 : goal.returns-in-100000
unfolding rounded
returns-in-100000 c =
    rw (
      to_z-of_z (held (goal.at.returns-in-100000 c).After-nearest),
      to_z-of_z (carried (goal.at.returns-in-100000 c).After-nearest),
      exponent (goal.at.returns-in-100000 c).After-nearest,
      eq-eqb _ _ (sym (digits_are (goal.at.returns-in-100000 c).After-nearest) ∙ c.in-100000.is),
    )

pub returns-in_default : goal.returns-in_default
unfolding rounded
returns-in_default c =
    let other : c.nearest.result ≡ 100000 → ⊥ = search rules in
    rw (
      to_z-of_z (held (goal.at.returns-in_default c).After-nearest),
      exponent (goal.at.returns-in_default c).After-nearest,
      digits_are (goal.at.returns-in_default c).After-nearest,
      ne_eqb _ _ (λ e. other (digits_are (goal.at.returns-in_default c).After-nearest ∙ e)),
    )
